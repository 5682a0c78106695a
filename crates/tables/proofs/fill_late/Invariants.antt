-- `tables::fill_late` meets its contract. The loop's invariant: the sets passed are weighed.
use Rattle.std.proofs.Common.{◌*◌}
use Rattle.optimum.specs.Workspace.{at}
use Rattle.tables.specs.Filled.{Filled}
use Rattle.tables.proofs.fill_late.Given as goal

abbrev pub invariant-loop-m : goal.invariant-loop-m
invariant-loop-m l = Filled (λ m. l.revisit * at l.count m) l.m l.initial.late l.late
