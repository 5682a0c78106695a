-- `beam_tables::fill` meets its contract. The loop's invariant: the words passed are filled.
use Rattle.std.proofs.Common.{ℕ, ◌≤◌, ◌<◌, ◌-◌}
use Rattle.optimum.specs.Workspace.{at, Kept}
use Rattle.beam_tables.proofs.fill.Given as goal

abbrev pub invariant-loop-i : goal.invariant-loop-i
invariant-loop-i g l = (l.i ≤ l.n) × Kept l.i l.initial.table l.table × ((k : ℕ) → k < l.i → goal.F-post g l.entry k (at l.table k))
