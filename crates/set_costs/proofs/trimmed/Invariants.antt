-- `set_costs::trimmed` meets its contract. The loop's invariant: no set of few trains lies between s and w, whose trains are counted.
use mathlib.Core.Path.{◌≡◌}
use lib.Count.{ones}
use Rattle.set_costs.specs.Sets.{Trimmed}
use Rattle.set_costs.proofs.trimmed.Given as goal

abbrev pub invariant-loop-count : goal.invariant-loop-count
invariant-loop-count l = Trimmed l.tracks l.s l.w × (l.count ≡ ones l.w)

abbrev pub decreases-loop-count : goal.decreases-loop-count
decreases-loop-count l = l.w
