-- `slot_serving::serve_plan` meets its contract. The loop's invariant: the sets above s are served.
use Prim.Native.Nat.{◌≤◌, ◌+◌}
use lib.Count.{ones}
use Rattle.sets.specs.Subset.{Sub}
use Rattle.set_serving.specs.Serving.{PlanArray}
use Rattle.slot_serving.specs.Serving.{ServesAbove}
use Rattle.slot_serving.proofs.serve_plan.Given as goal

abbrev pub invariant-loop-s : goal.invariant-loop-s
invariant-loop-s l =
    Sub l.s l.can × (ones l.s ≤ l.day.sizes.tracks) × PlanArray l.day (l.j + 1) l.next
    × ServesAbove l.day l.plan l.j l.ready l.s l.initial.next l.next

abbrev pub decreases-loop-s : goal.decreases-loop-s
decreases-loop-s l = l.s
