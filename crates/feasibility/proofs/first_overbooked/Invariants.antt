-- `feasibility::first_overbooked` meets its contract. The loops' invariants: no interval passed is overbooked.
use Prim.Native.Nat.{◌≤◌, ◌-◌}
use mathlib.Core.Path.{◌≡◌}
use Rattle.feasibility.specs.Search.{windows_only, NoneBefore, NoneFrom}
use Rattle.std.specs.Prelude.{None}
use Rattle.feasibility.proofs.first_overbooked.Given as goal

abbrev pub invariant-loop-b : goal.invariant-loop-b
invariant-loop-b l =
    (l.answer ≡ None) × (l.a ≤ l.b) × NoneFrom (windows_only l.n l.tracks l.slots l.first l.last) l.a l.b

abbrev pub decreases-loop-b : goal.decreases-loop-b
decreases-loop-b l = l.slots - l.b

abbrev pub invariant-search : goal.invariant-search
invariant-search l =
    (l.answer ≡ None) × (1 ≤ l.a) × NoneBefore (windows_only l.n l.tracks l.slots l.first l.last) l.a

abbrev pub decreases-search : goal.decreases-search
decreases-search l = l.slots - l.a
