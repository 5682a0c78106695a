-- The best row, from the table. Where the table has a value for all positions, the row of the schedule that the choices give is the best
-- row, and there is no other (`plan_best`, `best_unique`). It has one where an allowed row is worth less than `inf`, since its value is no
-- more than the worth of any allowed row (`optimum_lower`).
-- Assumes nothing.
use Rattle.std.specs.Prelude.{◌≡◌, List, ℕ, suc, ◌≤◌, ◌<◌, length}
use Rattle.std.proofs.Common.{sym, ap, ◌∙◌, arith, le_antisymm}
use Rattle.fold.specs.Listed.{length-listed, listed_at}
use Rattle.optimum.specs.Workspace.{at}
use Rattle.sets.specs.Rest.{full}
use Rattle.optimum.specs.Schedules.{Test, Contribution, value}
use Rattle.optimum.specs.Stages.{tab, follow, Cheapest}
use Rattle.optimum.specs.Rows.{stage_set, worth, Row, BestRow, sets_of, row_of}

module _ (ok : Test) (w : Contribution) (inf n m : ℕ) where
  -- of all positions: the value in the table, the schedule that the choices give, and its row
  abbrev pub optimum : ℕ
  optimum = tab ok w inf m 1 (full n)

  abbrev pub followed : List ℕ
  followed = follow ok w inf m 1 (full n)

  abbrev pub plan : List ℕ
  plan = row_of n followed
