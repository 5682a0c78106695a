-- `slot_serving::serve_slot` meets its contract. The loop's invariant: the plans before place k are served.
use Prim.Native.Nat.{◌≤◌, ◌+◌}
use Rattle.set_serving.specs.Serving.{PlanArray}
use Rattle.slot_serving.specs.Serving.{ServesBefore}
use Rattle.slot_serving.proofs.serve_slot.Given as goal

abbrev pub invariant-loop-plan : goal.invariant-loop-plan
invariant-loop-plan l =
    (l.plan-index ≤ l.kept.count) × PlanArray l.day (l.j + 1) l.next × ServesBefore l.day l.j l.ready l.plan-index l.kept l.next
