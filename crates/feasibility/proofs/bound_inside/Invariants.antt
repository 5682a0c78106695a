-- `feasibility::bound_inside` meets its contract. The loop's invariant: the count of the trains passed that are bound inside a..b.
use Prim.Native.Nat.{◌≤◌, ◌-◌}
use mathlib.Core.Path.{◌≡◌}
use Rattle.model.specs.Model.{bound}
use Rattle.feasibility.proofs.bound_inside.Given as goal

abbrev pub invariant-loop-i : goal.invariant-loop-i
invariant-loop-i l = (l.i ≤ l.n) × (l.count ≡ bound l.i l.first l.last l.a l.b) × (l.count ≤ l.i)

abbrev pub decreases-loop-i : goal.decreases-loop-i
decreases-loop-i l = l.n - l.i
