-- `tables::fill_needing` meets its contract. The loop's invariant: the table is filled for the sets of the trains passed.
use Rattle.std.proofs.Common.{◌^◌}
use Rattle.staging.specs.Tables.{needing}
use Rattle.tables.specs.Given.{boxes_of}
use Rattle.tables.specs.Filled.{Filled}
use Rattle.tables.proofs.fill_needing.Given as goal

abbrev pub invariant-loop-k : goal.invariant-loop-k
invariant-loop-k l = Filled (needing l.supplies.trains (boxes_of l.supplies)) (2 ^ l.k) l.fn.need l.need
