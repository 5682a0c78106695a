use Rattle.std.proofs.Common.{refl, ◌∙◌, length-set, rules}
use Rattle.procedures.specs.Procedures.{come_to}
use Rattle.procedures.specs.Laws.{come_take, come_pass}
use Rattle.procedures.proofs.come_first.Goals as goal
use Rattle.procedures.proofs.come_first.Goals.{in-Some, in_default}

pub loop-i-init : goal.loop-i-init
unfolding come_to
loop-i-init c = (search rules, refl, c.requires.1)

pub loop-i-preserved : goal.loop-i-preserved
loop-i-preserved c =
    let inv = c.loop-i.invariant in
    elim c.match-earliest_slot.branch [
      | in-Some w ↦ (
        search rules,
        rw w.row-is (length-set c.loop-i.row _ _ ∙ inv.1),
        w.row-is ∙ come_take _ _ _ _ _ c.loop-i.i inv.2 w.in-Some.ensures.0 w.in-Some.ensures.1,
      )
      | in_default w ↦ (search rules, rw w.row-is inv.1, w.row-is ∙ come_pass _ _ _ _ _ c.loop-i.i inv.2 refl w.in_default.ensures)
    ]
