-- `prices::add_train` meets its contract. The loop's invariant: the sets without train k, and those with it of the sets of the trains
-- passed.
use Rattle.std.proofs.Common.{◌+◌, ◌^◌}
use Rattle.staging.specs.Tables.{from_outside}
use Rattle.tables.specs.Given.{boxes_of}
use Rattle.tables.specs.Filled.{Filled}
use Rattle.prices.proofs.add_train.Given as goal

abbrev pub invariant-loop-b : goal.invariant-loop-b
invariant-loop-b l = Filled (from_outside l.supplies.trains (boxes_of l.supplies)) (l.size + 2 ^ l.b) l.fn.price l.price
