use Rattle.std.proofs.Common.{sym, ap, ◌∙◌, ◌&&◌, rules}
use Rattle.procedures.specs.Procedures.{waits}
use Rattle.procedures.specs.Laws.{selecting_none, selecting_pass, selecting_keep, selecting_take}
use Rattle.procedures.proofs.LentDay.select_train.Goals as goal
use Rattle.procedures.proofs.LentDay.select_train.Goals.{then-row-k+then-self-chosen, then-row-k+else-self-chosen, else-row-k}

pub loop-k-init : goal.loop-k-init
loop-k-init c = (search rules, selecting_none _ _ _ _ _ _ _ _)

pub loop-k-preserved : goal.loop-k-preserved
unfolding waits
loop-k-preserved c =
    let e = ap (λ x. waits c.args.row.now c.loop-k.k && x) (sym c.is_in_time.ensures) in
    let before = c.loop-k.invariant.1 in (
      search rules,
      elim c.if-row-k.branch [
        | then-row-k+then-self-chosen w ↦ rw (w.chosen-is, w.least-is) (selecting_take _ _ _ _ _ _ _ _ c.loop-k.k before (e ∙ w.if-row-k.true) w.priority_of-p.ensures w.if-self-chosen.true)
        | then-row-k+else-self-chosen w ↦ rw (w.chosen-is, w.least-is) (selecting_keep _ _ _ _ _ _ _ _ c.loop-k.k before (e ∙ w.if-row-k.true) w.priority_of-p.ensures w.if-self-chosen.false)
        | else-row-k w ↦ rw (w.chosen-is, w.least-is) (selecting_pass _ _ _ _ _ _ _ _ c.loop-k.k before (e ∙ w.if-row-k.false))
      ],
    )
