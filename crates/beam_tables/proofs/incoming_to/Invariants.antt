-- `beam_tables::incoming_to` meets its contract. The loop's invariant: the sum of the boxes from the trains passed, at most 255 for each.
use Prim.Native.Nat.{◌≤◌, ◌-◌, ◌*◌}
use mathlib.Core.Path.{◌≡◌}
use Rattle.fold.specs.Fold.{sum}
use Rattle.beam_tables.specs.Given.{received}
use Rattle.beam_tables.proofs.incoming_to.Given as goal

abbrev pub invariant-loop-j : goal.invariant-loop-j
invariant-loop-j l = (l.j ≤ l.boxes.trains) × (l.total ≡ sum l.j (received l.boxes l.i)) × (l.total ≤ 255 * l.j)

abbrev pub decreases-loop-j : goal.decreases-loop-j
decreases-loop-j l = l.boxes.trains - l.j
