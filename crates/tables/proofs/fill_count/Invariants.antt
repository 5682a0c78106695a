-- `tables::fill_count` meets its contract. The loop's invariant: the table is filled for the sets of the trains passed.
use Rattle.std.proofs.Common.{◌^◌}
use Rattle.std.specs.Int.Count.{ones}
use Rattle.tables.specs.Filled.{Filled}
use Rattle.tables.proofs.fill_count.Given as goal

abbrev pub invariant-loop-k : goal.invariant-loop-k
invariant-loop-k l = Filled ones (2 ^ l.k) l.fn.count l.count
