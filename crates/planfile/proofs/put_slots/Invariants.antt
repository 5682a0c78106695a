-- `planfile::put_slots` meets its contract. The loop's invariant: after the names line stand the rows of the trains passed.
use mathlib.Core.Path.{◌≡◌}
use Prim.Native.Nat.{◌≤◌, ◌-◌}
use lib.ListN.{length}
use Rattle.fold.specs.Listed.{joined}
use Rattle.decimal.specs.Place.{Put}
use Rattle.planfile.specs.Laws.{slot_line}
use Rattle.planfile.proofs.put_slots.Given as goal

abbrev pub invariant-loop-i : goal.invariant-loop-i
invariant-loop-i l = (l.i ≤ l.n) × (length l.out ≡ length l.initial.out) × Put l.initial.out l.out l.initial.next l.next (joined l.i (slot_line l.numbers l.row))

abbrev pub decreases-loop-i : goal.decreases-loop-i
decreases-loop-i l = l.n - l.i
