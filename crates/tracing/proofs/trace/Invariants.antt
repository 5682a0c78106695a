-- `tracing::trace` meets its contract. The invariants: the slots passed are written, and of the next one the positions passed.
use Prim.Native.Nat.{◌-◌, ◌≤◌}
use Rattle.optimum.specs.Chosen.{row_in}
use Rattle.optimum.specs.Trace.{Traced, Tracing}
use Rattle.tracing.proofs.trace.Given as goal

abbrev pub invariant-loop-p : goal.invariant-loop-p
invariant-loop-p l = (l.p ≤ l.n) × Tracing l.n l.j l.p (row_in l.choice l.n l.slots l.size) l.initial.row l.row

abbrev pub decreases-loop-p : goal.decreases-loop-p
decreases-loop-p l = l.n - l.p

abbrev pub invariant-loop-j : goal.invariant-loop-j
invariant-loop-j l = (l.j ≤ l.slots) × Traced l.n l.j l.r (row_in l.choice l.n l.slots l.size) l.initial.row l.row

abbrev pub decreases-loop-j : goal.decreases-loop-j
decreases-loop-j l = l.slots - l.j
