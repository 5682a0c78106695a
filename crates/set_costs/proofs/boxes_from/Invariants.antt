-- `set_costs::boxes_from` meets its contract. The loop's invariant: the boxes from the trains passed, at most 255 for each.
use Rattle.beam_tables.specs.Given.{received}
use Rattle.set_costs.specs.Sets.{Summed}
use Rattle.set_costs.proofs.boxes_from.Given as goal

abbrev pub invariant-loop-left : goal.invariant-loop-left
invariant-loop-left l = Summed l.boxes.trains l.s (received l.boxes l.i) 255 l.total l.left

abbrev pub decreases-loop-left : goal.decreases-loop-left
decreases-loop-left l = l.left
