-- `LentDay::select_train` meets its contract. The loop's invariant: of the trains passed the lowest one of least priority is chosen.
use Rattle.std.proofs.Common.{◌≤◌}
use Rattle.procedures.specs.Lent.{boxes_of}
use Rattle.procedures.specs.Laws.{Selecting}
use Rattle.procedures.proofs.LentDay.select_train.Given as goal

abbrev pub invariant-loop-k : goal.invariant-loop-k
invariant-loop-k l =
    (l.k ≤ l.self.trains) × Selecting l.self.trains l.self.revisit l.self.split (boxes_of l.self) l.self.first.now l.self.last.now l.row l.t l.k l.chosen l.least
