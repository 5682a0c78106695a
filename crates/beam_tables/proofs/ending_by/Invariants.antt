-- `beam_tables::ending_by` meets its contract. The loop's invariant: the mask of the trains passed whose last slot is at most b.
use Prim.Native.Nat.{◌≤◌, ◌-◌}
use mathlib.Core.Path.{◌≡◌}
use Rattle.beam_tables.specs.Entries.{ending_by}
use Rattle.beam_tables.proofs.ending_by.Given as goal

abbrev pub invariant-loop-i : goal.invariant-loop-i
invariant-loop-i l = (l.i ≤ l.n) × (l.mask ≡ ending_by l.i l.last l.b)

abbrev pub decreases-loop-i : goal.decreases-loop-i
decreases-loop-i l = l.n - l.i
