-- `prices::received_by` meets its contract. The loop's invariant: the sum of the boxes from the trains passed, at most 255 for each.
use Rattle.std.proofs.Common.{◌≡◌, ◌≤◌, ◌*◌}
use Rattle.fold.specs.Fold.{sum}
use Rattle.tables.specs.Given.{boxes_of}
use Rattle.prices.proofs.received_by.Given as goal

abbrev pub invariant-loop-j : goal.invariant-loop-j
invariant-loop-j l = record { sums : l.total ≡ sum l.j (boxes_of l.supplies l.k); small : l.total ≤ 255 * l.j }
