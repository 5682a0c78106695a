-- `plan_rows::read_row` meets its contract. The loop's invariant: the slots of the trains passed are read.
use Prim.Native.Nat.{◌≤◌, ◌-◌}
use Rattle.tables.specs.Filled.{Filled}
use Rattle.plan_rows.specs.Row.{slot_at}
use Rattle.plan_rows.proofs.read_row.Given as goal

abbrev pub invariant-loop-i : goal.invariant-loop-i
invariant-loop-i l = (l.i ≤ l.n) × Filled (λ i'. slot_at l.plan i' l.slots) l.i l.initial.row l.row

abbrev pub decreases-loop-i : goal.decreases-loop-i
decreases-loop-i l = l.n - l.i
