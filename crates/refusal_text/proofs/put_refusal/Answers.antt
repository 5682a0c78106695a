use mathlib.Core.List.{[], ◌∷◌, ◌++◌}
use native.Mathlib.Omega.{arith}
use lib.ListN.{length-append}
use borrow.Author.Rules.{rules}
use Rattle.decimal.specs.Place.{Put}
use Rattle.decimal.specs.PlaceLaws.{put_text}
use Rattle.lines.specs.Lines.{row_text}
use Rattle.output.specs.Laws.{put_count}
use Rattle.refusal_text.specs.RefusalText.{line_names, interval_names}
use Rattle.refusal_text.specs.Laws.{Word, nine_lines, other_lines, nine_fits, other_fits}
use Rattle.refusal_text.proofs.put_refusal.Goals as goal

pub put_row-requires : goal.put_row-requires
unfolding interval_names
put_row-requires c =
    let t = c.from-told.result in
    let first : Word t.first = search rules in
    let second : Word t.second = search rules in
    let third : Word t.third = search rules in
    omega (arith, length-append interval_names (row_text (9 ∷ t.first ∷ t.second ∷ t.third ∷ [])), nine_fits t.first t.second t.third first second third, c.put_bytes-next.ensures.next)

pub returns-then-told-eq9 : goal.returns-then-told-eq9
unfolding interval_names
returns-then-told-eq9 c =
    let t = c.from-told.result in
    let first : Word t.first = search rules in
    let second : Word t.second = search rules in
    let third : Word t.third = search rules in
    let p : Put _ _ 0 _ (interval_names ++ row_text (9 ∷ t.first ∷ t.second ∷ t.third ∷ [])) = put_text c.put_bytes-next.ensures c.put_row.ensures in (
      rw (nine_lines _ t c.from-told.ensures c.if-told-eq9.true) p,
      omega (arith, put_count p, nine_fits t.first t.second t.third first second third),
    )

pub put_row-requires-2 : goal.put_row-requires-2
unfolding line_names
put_row-requires-2 c =
    let t = c.from-told.result in
    let number : Word t.number = search rules in
    let first : Word t.first = search rules in
    omega (arith, length-append line_names (row_text (t.number ∷ t.first ∷ [])), other_fits t.number t.first number first, c.put_bytes-next-2.ensures.next)

pub returns : goal.returns
unfolding line_names
returns c =
    let t = c.from-told.result in
    let number : Word t.number = search rules in
    let first : Word t.first = search rules in
    let p : Put _ _ 0 _ (line_names ++ row_text (t.number ∷ t.first ∷ [])) = put_text c.put_bytes-next-2.ensures c.put_row-2.ensures in (
      rw (other_lines _ t c.from-told.ensures c.if-told-eq9.false) p,
      omega (arith, put_count p, other_fits t.number t.first number first),
    )
