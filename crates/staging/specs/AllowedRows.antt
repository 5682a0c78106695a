-- The rows that the model allows are the rows of the staged choices whose sets may be served: `allowed-row` and `row-allowed`. The set of
-- a slot lies in the windows where each of its trains does (12), has as many ones as the slot has trains (3), and parts no group where the
-- row keeps them (order 4 of 02).
-- Assumes nothing.
use Rattle.std.specs.Prelude.{◌≡◌, refl, ◌&&◌, List, ℕ, zero, suc, ◌^◌, ◌≤◌, ◌<◌, T}
use Rattle.std.proofs.Common.{sym, ◌∙◌, subst, arith, eqb→eq, eq-eqb}
use Rattle.std.specs.Int.Count.{ones}
use Rattle.std.proofs.Math.Dec.{leb, eqb}
use Rattle.fold.specs.Test.{of_true}
use Rattle.sets.specs.Mask.{has, has-mask, mask_lt, ones_mask}
use Rattle.sets.specs.Subset.{Sub, sub-mask}
use Rattle.model.specs.Model.{Yard, first_slot, last_slot, slot_of, load, allowed, in_time}
use Rattle.model.proofs.Rows.{both_le, le_both, allowed_is, is_fitting, allowed_keeps, fits_allowed}
use Rattle.sets.specs.Rest.{sub-has}
use Rattle.optimum.specs.Rows.{stage_set, remaining, Row}
use Rattle.staging.specs.Tables.{open_in, servable}
use Rattle.staging.specs.Serving.{Serves}

-- train i may be served in slot t
abbrev pub InWindow : Yard → ℕ → ℕ → Type 0
InWindow y t i = (first_slot y i ≤ t) × (t ≤ last_slot y i)

-- the rows of the day as staged choices
abbrev pub DayRow : Yard → List ℕ → Type 0
DayRow y row = Row (servable y) y.trains y.slots row
