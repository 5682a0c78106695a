-- `report_text::put_days` meets its contract. The names line, and the row after it, whose sums are of counters below 2 ^ 32.
-- where the function began, from the place where the refused days are known; that place, from the one after the names line; and that one,
-- from where the counter is read for the row
use mathlib.Core.Path.{◌≡◌, ap}
use mathlib.Core.List.{[], ◌∷◌}
use Prim.Native.Nat.{◌+◌}
use native.Mathlib.Omega.{arith}
use lib.ListN.{length, get_or}
use Rattle.decimal.specs.PlaceLaws.{put_text}
use Rattle.lines.specs.Lines.{row_text}
use Rattle.output.specs.Laws.{names_fit}
use Rattle.report_text.specs.ReportText.{day_names, refusal_count, day_row}
use Rattle.report_text.specs.Laws.{refused_few}
use Rattle.report_text.proofs.put_days.Goals as goal

pub put_bytes-next-requires : goal.put_bytes-next-requires
unfolding day_names
put_bytes-next-requires c = omega (arith, names_fit day_names (row_text (day_row c.args.days.now)), c.requires.1)

pub overflow_add-days : goal.overflow_add-days
overflow_add-days c =
    omega (arith, c.refused_days-refused.ensures, refused_few c.args.days.now refusal_count c.requires.0 (omega arith), c.requires.0.few 0 (omega arith))

pub put_row-requires : goal.put_row-requires
unfolding day_names
put_row-requires c =
    let row_is_lem : let days = c.args.days.now in let k = c.refused_days-refused.result in row_text ((get_or days 0 0 + k) ∷ get_or days 0 0 ∷ k ∷ []) ≡ row_text (day_row days) = let days = c.args.days.now in ap (λ k. row_text ((get_or days 0 0 + k) ∷ get_or days 0 0 ∷ k ∷ [])) c.refused_days-refused.ensures in
    omega (arith, ap length row_is_lem, c.requires.1, c.put_bytes-next.ensures.next, c.put_bytes-next.auto.out)

pub returns : goal.returns
unfolding day_names
returns c =
    let row_is_lem : let days = c.args.days.now in let k = c.refused_days-refused.result in row_text ((get_or days 0 0 + k) ∷ get_or days 0 0 ∷ k ∷ []) ≡ row_text (day_row days) = let days = c.args.days.now in ap (λ k. row_text ((get_or days 0 0 + k) ∷ get_or days 0 0 ∷ k ∷ [])) c.refused_days-refused.ensures in
    put_text c.put_bytes-next.ensures (rw (← row_is_lem) c.put_row.ensures)
