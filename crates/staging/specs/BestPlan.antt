-- The best row of a day's staged choices, by the key of a row, is the day's best plan (`best_plan_lem`); no row of them is the same as no
-- allowed row.
-- Assumes nothing.
use Rattle.std.specs.Prelude.{◌≡◌, List, ℕ, suc, ◌≤◌, ◌<◌, T}
use Rattle.std.proofs.Math.Logic.{⊎_elim}
use Rattle.std.proofs.Common.{arith}
use Rattle.model.specs.Model.{Yard, received, revisits, slot_mask, cost, by_key, slot_total, by_sets, precedes, Best}
use Rattle.model.proofs.Order.{key_cases, not_lower}
use Rattle.optimum.specs.Schedules.{Ahead}
use Rattle.optimum.specs.Rows.{stage_set, worth, BestRow}
use Rattle.staging.specs.Tables.{servable, stage_key}
use Rattle.staging.specs.AllowedRows.{DayRow}
use Rattle.staging.specs.KeyBySlot.{row_key, Few}

module _ (y : Yard) where
  abbrev pub late : List ℕ → ℕ
  late = revisits y.trains (received y)

  abbrev pub total : List ℕ → ℕ
  total = slot_total y.trains
