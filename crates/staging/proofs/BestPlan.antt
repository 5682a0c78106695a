-- Laws of BestPlan.antt of specs/.
-- The best row of a day's staged choices, by the key of a row, is the day's best plan (`best_plan_lem`); no row of them is the same as no
-- allowed row.
-- Assumes nothing.
use Rattle.std.specs.Prelude.{◌≡◌, List, ℕ, suc, ◌≤◌, ◌<◌, T}
use Rattle.std.proofs.Math.Logic.{⊎_elim}
use Rattle.std.proofs.Common.{arith}
use Rattle.model.specs.Model.{Yard, received, revisits, slot_mask, cost, by_key, slot_total, by_sets, precedes, Best}
use Rattle.model.proofs.Order.{key_cases, not_lower}
use Rattle.optimum.specs.Schedules.{Ahead}
use Rattle.optimum.specs.Rows.{stage_set, worth, BestRow}
use Rattle.staging.specs.Tables.{servable, stage_key}
use Rattle.staging.specs.AllowedRows.{DayRow}
use Rattle.staging.proofs.AllowedRows.{allowed-row, row-allowed}
use Rattle.staging.specs.KeyBySlot.{row_key, Few}
use Rattle.staging.proofs.KeyBySlot.{row_key_lem, revisits_low, slots_low}
use Rattle.staging.specs.BestPlan.{late, total}

module _ (y : Yard) where
  pub day_key : {row : List ℕ} → DayRow y row → worth (stage_key y) y.trains y.slots row ≡ row_key y row
  day_key {row} h = row_key_lem y y.slots row h.staged

  -- a row whose sets are ahead is not preceded by set numbers
  ahead_sets : (row other : List ℕ) → Ahead y.slots (λ j. stage_set y.trains row (suc j)) (λ j. stage_set y.trains other (suc j))
      → T (by_sets y other row) → ⊥
  unfolding by_sets slot_mask
  ahead_sets row other = not_lower y.slots (λ j. slot_mask y.trains row (suc j)) (λ j. slot_mask y.trains other (suc j))

  module _ (few : Few y) (row : List ℕ) (b : BestRow (servable y) (stage_key y) y.trains y.slots row) where
    no_less : (other : List ℕ) → DayRow y other → row_key y row ≤ row_key y other
    no_less other o = omega (arith, b.least other o, day_key b.allowed, day_key o)

    -- the cost stands above what the other two can come to
    cheapest : (other : List ℕ) → DayRow y other → cost y row ≤ cost y other
    cheapest other o = omega (arith, no_less other o, revisits_low y few other, slots_low y few other o.staged)

    unpreceded : (other : List ℕ) → DayRow y other → cost y other ≡ cost y row → T (precedes y other row) → ⊥
    unfolding precedes
    unpreceded other o e t =
        ⊎_elim (λ (l : (late y) other < (late y) row). omega (arith, no_less other o, slots_low y few other o.staged))
        (λ p.
        ⊎_elim (λ (l : (total y) other < (total y) row). omega (arith, no_less other o, p.0))
        (λ q.
        ahead_sets row other (b.first other o (omega (arith, day_key o, day_key b.allowed, p.0, q.0))) q.1)
        (key_cases (total y) (by_sets y) other row p.1))
        (key_cases (late y) (by_key (total y) (by_sets y)) other row t)

    pub best_plan_lem : Best y row
    best_plan_lem =
        record {
          is_allowed = row-allowed y row b.allowed;
          least = λ other h. cheapest other (allowed-row y other h);
          first = λ other h. unpreceded other (allowed-row y other h);
        }
