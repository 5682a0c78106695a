-- `barring::bar_groups` meets its contract. The loop's invariant: the sets that part a group of a position passed are barred.
use Rattle.std.proofs.Common.{cond}
use Rattle.optimum.specs.Workspace.{at}
use Rattle.staging.specs.Tables.{barred}
use Rattle.tables.specs.Filled.{Filled}
use Rattle.barring.specs.Laws.{whole}
use Rattle.barring.proofs.bar_groups.Given as goal

abbrev pub invariant-loop-i : goal.invariant-loop-i
invariant-loop-i l = Filled (λ s. cond (whole l.i l.n l.groups s) (at l.fn.price s) barred) l.size l.fn.price l.price
