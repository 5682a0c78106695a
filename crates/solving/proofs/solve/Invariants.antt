-- `solving::solve` meets its contract. The invariant: optimum's `Solved` for what can remain, slot by slot from the last; `later` holds every
-- train that may be served in the slots that are done; and the first slot is left, where there is one before the last.
use Rattle.std.proofs.Common.{◌<◌}
use Rattle.cells.specs.Lent.{lent}
use Rattle.slot_filling.specs.Given.{Later, SolvedTo}
use Rattle.solving.proofs.solve.Given as goal

abbrev pub invariant-loop-j : goal.invariant-loop-j
invariant-loop-j l =
    record {
      solved : SolvedTo l.sizes (lent l.tables) l.j l.initial.cost l.initial.choice l.cost l.choice;
      windows : Later l.sizes.slots l.j l.later l.tables.opens.now;
      first : 0 < l.last → 0 < l.j;
    }
