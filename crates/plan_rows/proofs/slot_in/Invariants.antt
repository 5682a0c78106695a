-- `plan_rows::slot_in` meets its contract. The loop's invariant: the last of the slots passed whose word lacks the train.
use Prim.Native.Nat.{◌≤◌, ◌-◌}
use mathlib.Core.Path.{◌≡◌}
use Rattle.plan_rows.specs.Row.{slot_at}
use Rattle.plan_rows.proofs.slot_in.Given as goal

abbrev pub invariant-loop-j : goal.invariant-loop-j
invariant-loop-j l = (l.j ≤ l.slots) × (l.slot ≡ slot_at l.plan l.i l.j)

abbrev pub decreases-loop-j : goal.decreases-loop-j
decreases-loop-j l = l.slots - l.j
