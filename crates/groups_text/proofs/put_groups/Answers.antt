use mathlib.Core.Path.{refl, sym, ◌∙◌}
use native.Mathlib.Omega.{arith}
use borrow.Author.Rules.{rules}
use Rattle.fold.specs.Listed.{joined}
use Rattle.decimal.specs.PlaceLaws.{put_text}
use Rattle.dayfile.specs.Reading.{group_names}
use Rattle.groups_text.specs.Texts.{group_text}
use Rattle.groups_text.specs.Laws.{group_text_lem, sets_none, sets_some}
use Rattle.output.specs.Laws.{put_none, put_more, put_end, names_fit, row_fits}
use Rattle.groups_text.proofs.put_groups.Goals as goal

pub returns-then-not-has_groups : goal.returns-then-not-has_groups
returns-then-not-has_groups c =
    rw (sets_none _ _ _ _ (sym c.has_groups.ensures ∙ c.if-not-has_groups.true)) (record { next = search rules; list = refl })

pub put_bytes-next-requires : goal.put_bytes-next-requires
unfolding group_names
put_bytes-next-requires c =
    let a = c.args in
    let section = sets_some a.most a.n a.numbers.now a.groups.now (sym c.has_groups.ensures ∙ c.if-not-has_groups.false) in
    omega (arith, rw section at c.requires.groups_in_bounds, names_fit group_names (joined a.most (group_text a.n a.numbers.now a.groups.now)))

pub loop-g-init : goal.loop-g-init
loop-g-init c = (search rules, refl, put_none _)

pub put_group-next-requires : goal.put_group-next-requires
unfolding group_names
put_group-next-requires c =
    let l = c.loop-g in
    let a = c.args in
    let section = sets_some a.most a.n a.numbers.now a.groups.now (sym c.has_groups.ensures ∙ c.if-not-has_groups.false) in
    let fits = rw section at c.requires.groups_in_bounds in
    let f = row_fits group_names (group_text a.n a.numbers.now a.groups.now) l.g a.most c.loop-g-test.true in
    record {
      n_in_bounds = c.requires.n_in_bounds;
      g_in_bounds = rw (group_text_lem a.n a.numbers.now a.groups.now l.g) (omega (arith, fits, c.put_bytes-next.ensures.next, c.put_bytes-next.auto.out, l.invariant.2.next, l.invariant.1));
    }

pub loop-g-preserved : goal.loop-g-preserved
loop-g-preserved c =
    let a = c.args in
    (search rules, search rules, put_more _ _ c.loop-g.invariant.2 (rw (group_text_lem a.n a.numbers.now a.groups.now c.loop-g.g) at c.put_group-next.ensures))

pub returns : goal.returns
unfolding group_names
returns c =
    let a = c.args in
    let section = sets_some a.most a.n a.numbers.now a.groups.now (sym c.has_groups.ensures ∙ c.if-not-has_groups.false) in
    rw section (put_text c.put_bytes-next.ensures (put_end _ _ _ c.loop-g.invariant.0 c.loop-g-test.false c.loop-g.invariant.2))
