-- `barring::bar_parted` meets its contract. The loop's invariant: the sets passed have their new prices, the others their old ones.
use Rattle.std.proofs.Common.{cond}
use Rattle.optimum.specs.Workspace.{at}
use Rattle.staging.specs.Tables.{barred}
use Rattle.tables.specs.Filled.{Filled}
use Rattle.barring.specs.Laws.{undivided}
use Rattle.barring.proofs.bar_parted.Given as goal

abbrev pub invariant-loop-s : goal.invariant-loop-s
invariant-loop-s l = Filled (λ s. cond (undivided l.members s) (at l.initial.word-items s) barred) l.s l.initial.word-items l.word-items
