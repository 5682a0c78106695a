-- Rows as plans of the search. The sets of the slots of a row that fits are a partial plan that is discarded at no slot (`plan_path`), and a plan of
-- the search is that of its row (`plan_again`). Cost, revisits, sum of slots and set numbers of a whole plan are its row's, so order 5 on
-- plans is order 5 on rows (`same_order`).
-- Assumes nothing.
use Rattle.std.specs.Prelude.{◌≡◌, Bool, ◌&&◌, ◌||◌, ltb, leb, length}
use Rattle.std.proofs.Math.Path.{refl, sym, ap, ap₂, subst₂}
use Rattle.std.proofs.Common.{◌∙◌, subst, mul-one, mul-zero, arith, leb→le}
use Rattle.std.proofs.Math.Bool.{true, false, cond}
use mathlib.Core.List.{List, [], ◌∷◌}
use Prim.Native.Nat.{ℕ, zero, suc, ◌+◌, ◌-◌, ◌*◌, ◌≤◌, ◌<◌}
use Rattle.std.specs.Int.Count.{ones}
use Rattle.std.proofs.Math.Dec.{T, eqb}
use borrow.Author.Tests.{eq-eqb, ne_eqb, eqb-true, eqb-false}
use Rattle.fold.specs.Test.{both_of}
use Rattle.fold.specs.Fold.{bit, sum, count, each}
use Rattle.fold.specs.Sums.{sum_ext, sum_swap, sum_only, sum_times, some_ext, each_ext}
use Rattle.fold.specs.Counting.{count_le}
use Rattle.sets.specs.Mask.{has, has-mask, ones_mask}
use Rattle.sets.specs.Rest.{full}
use Rattle.model.specs.Model.{Yard, received, last_slot, slot_of, revisits, cost, fitting, slot_mask, lower, by_key, slot_total, by_sets, precedes}
use Rattle.model.specs.Rows.{Fitting}
use Rattle.model.proofs.Rows.{fitting_is, le_both}
use Rattle.model.specs.BestOf.{better}
use Rattle.feasibility.specs.Bound.{Spacious}
use Rattle.feasibility.specs.NoRow.{within}
use Rattle.feasibility.proofs.NoRow.{slots_hold, none_fits}
use Rattle.optimum.specs.Rows.{stage_set, remaining, worth}
use Rattle.optimum.proofs.Rows.{remaining-next, remaining_all, stage_sub}
use Rattle.staging.specs.Tables.{late_trains, slot_cost}
use Rattle.staging.specs.AllowedRows.{InWindow}
use Rattle.staging.proofs.AllowedRows.{stage_ones, within_windows}
use Rattle.staging.proofs.CostBySlot.{revisits_by_slot, worth-cost}
use Rattle.beam.specs.Beam.{Plan, rest, cost_so_far, revisits_so_far, slots_so_far, set_in, row_of, earlier, comes_before, discarded, fits_slot, may_serve}
use Rattle.beam.specs.Discards.{ending, Fits}
use Rattle.beam.specs.Paths.{Path}

-- ---- definitions

-- the sets of a row's slots 1 to t, as a partial plan
unfoldable pub plan_of : Yard → List ℕ → ℕ → Plan
plan_of y row zero = []
plan_of y row (suc t) = stage_set y.trains row (suc t) ∷ plan_of y row t
