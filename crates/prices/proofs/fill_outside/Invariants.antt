-- `prices::fill_outside` meets its contract. The loop's invariant: the table is filled for the sets of the trains passed.
use Rattle.std.proofs.Common.{◌^◌}
use Rattle.staging.specs.Tables.{from_outside}
use Rattle.tables.specs.Given.{boxes_of}
use Rattle.tables.specs.Filled.{Filled}
use Rattle.prices.specs.Filling.{Bounded}
use Rattle.prices.proofs.fill_outside.Given as goal

abbrev pub invariant-loop-k : goal.invariant-loop-k
invariant-loop-k l =
    record {
      filled : Filled (from_outside l.supplies.trains (boxes_of l.supplies)) (2 ^ l.k) l.fn.price l.price;
      bounded : Bounded l.supplies.trains (boxes_of l.supplies) l.k;
    }
