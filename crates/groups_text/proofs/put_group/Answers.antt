use mathlib.Core.Path.{refl}
use mathlib.Core.List.{[]}
use native.Mathlib.Omega.{arith}
use borrow.Author.Rules.{rules}
use Rattle.groups_text.specs.Texts.{member_text}
use Rattle.output.specs.Laws.{put_none, put_more, row_fits}
use Rattle.groups_text.proofs.put_group.Goals as goal

pub loop-i-init : goal.loop-i-init
loop-i-init c = (search rules, refl, put_none _)

pub put_member-next-requires : goal.put_member-next-requires
put_member-next-requires c =
    let l = c.loop-i in
    let a = c.args in
    let f = row_fits [] (member_text a.numbers.now a.groups.now a.g) l.i a.n c.loop-i-test.true in
    record {
      i_in_bounds = (search rules, search rules);
      i_in_bounds_2 = omega (arith, l.invariant.2.next, l.invariant.1, c.requires.g_in_bounds);
    }

pub loop-i-preserved : goal.loop-i-preserved
loop-i-preserved c = (search rules, search rules, put_more _ _ c.loop-i.invariant.2 c.put_member-next.ensures)
