-- `beam_tables::suppliers_of` meets its contract. The loop's invariant: the mask of the suppliers passed.
use Prim.Native.Nat.{◌≤◌, ◌-◌}
use mathlib.Core.Path.{◌≡◌}
use Rattle.model.specs.Model.{supplies}
use Rattle.beam_tables.specs.Given.{received}
use Rattle.sets.specs.Mask as M
use Rattle.beam_tables.proofs.suppliers_of.Given as goal

abbrev pub invariant-loop-j : goal.invariant-loop-j
invariant-loop-j l = (l.j ≤ l.boxes.trains) × (l.mask ≡ M.mask l.j (supplies (received l.boxes) l.i))

abbrev pub decreases-loop-j : goal.decreases-loop-j
decreases-loop-j l = l.boxes.trains - l.j
