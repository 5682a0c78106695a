-- `set_costs::boxes_from_outside` meets its contract. The loop's invariant: the boxes from outside s of the trains passed, at most 9180 for each.
use Prim.Native.Nat.{◌-◌}
use Rattle.beam_tables.specs.Given.{received}
use Rattle.sets.specs.Members.{sum_over}
use Rattle.optimum.specs.Workspace.{at}
use Rattle.set_costs.specs.Sets.{Summed}
use Rattle.set_costs.proofs.boxes_from_outside.Given as goal

abbrev pub invariant-loop-left : goal.invariant-loop-left
invariant-loop-left l = Summed l.boxes.trains l.s (λ i. at l.incoming i - sum_over l.boxes.trains l.s (received l.boxes i)) 9180 l.total l.left

abbrev pub decreases-loop-left : goal.decreases-loop-left
decreases-loop-left l = l.left
