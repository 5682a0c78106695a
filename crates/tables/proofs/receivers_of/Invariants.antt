-- `tables::receivers_of` meets its contract. The loop's invariant: the mask of the receivers passed.
use Rattle.std.proofs.Common.{◌≡◌}
use Rattle.tables.specs.Given.{boxes_of}
use Rattle.tables.specs.Entries.{receivers}
use Rattle.tables.proofs.receivers_of.Given as goal

abbrev pub invariant-loop-i : goal.invariant-loop-i
invariant-loop-i l = l.mask ≡ receivers l.i (boxes_of l.supplies) l.k
