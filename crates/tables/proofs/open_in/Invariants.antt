-- `tables::open_in` meets its contract. The loop's invariant: the mask of the trains passed whose windows hold the slot.
use Rattle.std.proofs.Common.{◌≡◌}
use Rattle.staging.specs.Tables.{open_in}
use Rattle.tables.proofs.open_in.Given as goal

abbrev pub invariant-loop-i : goal.invariant-loop-i
invariant-loop-i l = l.mask ≡ open_in l.i l.first l.last l.t
