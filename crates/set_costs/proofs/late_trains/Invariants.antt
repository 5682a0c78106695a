-- `set_costs::late_trains` meets its contract. The loop's invariant: how many of the trains passed have a supplier in `rest`.
use lib.Bits.{bit_and}
use lib.Dec.{ltb}
use Rattle.fold.specs.Fold.{bit}
use Rattle.optimum.specs.Workspace.{at}
use Rattle.set_costs.specs.Sets.{Summed}
use Rattle.set_costs.proofs.late_trains.Given as goal

abbrev pub invariant-loop-left : goal.invariant-loop-left
invariant-loop-left l = Summed l.n l.s (λ i. bit (ltb 0 (bit_and l.rest (at l.suppliers i)))) 1 l.late l.left

abbrev pub decreases-loop-left : goal.decreases-loop-left
decreases-loop-left l = l.left
