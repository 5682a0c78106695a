-- `cells::cheapest` meets its contract. The loop's invariant: `least` is the least key that the subsets of `ready` from s up offer, but for
-- the trains that wait, which are added behind it. A set whose cost alone is no less, or whose cost with its revisits is no less, is passed
-- over.
use Prim.Native.Nat.{suc}
use Rattle.sets.specs.Subset.{Sub}
use Rattle.optimum.specs.Workspace.{at}
use Rattle.optimum.specs.Tried.{Tried}
use Rattle.staging.specs.Tables.{no_cost, from_tables, set_key_from_tables}
use Rattle.cells.specs.Lent.{lent}
use Rattle.cells.proofs.cheapest.Given as goal

abbrev pub invariant-loop-rest : goal.invariant-loop-rest
invariant-loop-rest l =
    Sub l.s l.ready
    × Tried (from_tables (lent l.tables)) (set_key_from_tables (lent l.tables)) no_cost (at l.cost) (suc l.j) l.r l.ready (suc l.s)
    l.least
    l.chosen

abbrev pub decreases-loop-rest : goal.decreases-loop-rest
decreases-loop-rest l = l.s
