-- `beam_search::search` meets its contract. The loop's invariant: the plans kept after the slots passed are held.
use Prim.Native.Nat.{◌≤◌}
use Rattle.set_serving.specs.Serving.{PlanArray}
use Rattle.beam_search.specs.Slots.{SearchAfter}
use Rattle.beam_search.proofs.search.Given as goal

abbrev pub invariant-loop-j : goal.invariant-loop-j
invariant-loop-j l =
    (l.j ≤ l.day.sizes.slots) × PlanArray l.day l.j l.kept × (l.full_slots ≤ l.j) × SearchAfter l.day l.first l.last l.j l.kept l.full_slots
