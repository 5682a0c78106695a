use Rattle.std.proofs.Common.{refl, ◌∙◌, arith}
use Rattle.optimum.proofs.Layers.{solved_here, solved_then}
use Rattle.slot_filling.specs.Laws.{later_next, fillable_still}
use Rattle.solving.proofs.solve.Goals as goal

pub fill_slot-requires : goal.fill_slot-requires
fill_slot-requires c =
    let i = c.loop-j.invariant in (
      fillable_still c.requires (c.loop-j.auto.cost ∙ c.fill_last.auto.cost) (c.loop-j.auto.choice ∙ c.fill_last.auto.choice),
      later_next _ i.windows (omega arith),
      omega arith,
      omega (arith, i.solved.within),
      solved_here _ i.solved (omega arith),
    )

pub loop-j-preserved : goal.loop-j-preserved
loop-j-preserved c =
    let i = c.loop-j.invariant in
    record { solved = solved_then _ i.solved c.fill_slot.ensures refl; windows = later_next _ i.windows (omega arith); first = λ p. omega arith }

pub fill_first-requires : goal.fill_first-requires
fill_first-requires c =
    let i = c.loop-j.invariant in (
      fillable_still c.requires (c.loop-j.auto.cost ∙ c.fill_last.auto.cost) (c.loop-j.auto.choice ∙ c.fill_last.auto.choice),
      solved_here 1 i.solved (omega (arith, i.first)),
    )
