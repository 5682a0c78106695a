-- `tables::fill_open` meets its contract. The loop's invariant: the table is filled for the slots passed.
use Rattle.std.proofs.Common.{suc}
use Rattle.staging.specs.Tables.{open_in}
use Rattle.tables.specs.Filled.{Filled}
use Rattle.tables.proofs.fill_open.Given as goal

abbrev pub invariant-loop-j : goal.invariant-loop-j
invariant-loop-j l = Filled (λ j. open_in l.n l.first l.last (suc j)) l.j l.initial.open-items l.open-items
