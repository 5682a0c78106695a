-- `prices::join_pair` meets its contract. The loop's invariant: the sets passed with both trains; the others stay as they were.
use Rattle.std.proofs.Common.{◌+◌}
use Rattle.prices.specs.Entries.{with_pair}
use Rattle.tables.specs.Filled.{Added}
use Rattle.prices.proofs.join_pair.Given as goal

abbrev pub invariant-loop-m : goal.invariant-loop-m
invariant-loop-m l = Added (with_pair l.initial.price l.size l.below l.pair) (l.size + l.below) l.m l.initial.price l.price
