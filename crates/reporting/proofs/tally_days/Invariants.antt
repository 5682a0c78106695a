-- `reporting::tally_days` meets its contract. The loop's invariant: the days passed are in the tally, and the areas have their lengths.
use mathlib.Core.Path.{◌≡◌}
use Prim.Native.Nat.{◌-◌}
use lib.ListN.{length}
use Rattle.planning.specs.Planning.{cost_area, choice_area}
use Rattle.reporting.specs.Laws.{Tallied}
use Rattle.reporting.proofs.tally_days.Given as goal

abbrev pub invariant-loop-tally : goal.invariant-loop-tally
invariant-loop-tally l = Tallied l.text l.at l.tally × ((length l.cost ≡ cost_area) × (length l.choice ≡ choice_area))

abbrev pub decreases-loop-tally : goal.decreases-loop-tally
decreases-loop-tally l = length l.text - l.at
