-- Laws of AllowedRows.antt of specs/.
-- The rows that the model allows are the rows of the staged choices whose sets may be served: `allowed-row` and `row-allowed`. The set of
-- a slot lies in the windows where each of its trains does (12), has as many ones as the slot has trains (3), and parts no group where the
-- row keeps them (order 4 of 02).
-- Assumes nothing.
use Rattle.std.specs.Prelude.{◌≡◌, refl, ◌&&◌, List, ℕ, zero, suc, ◌^◌, ◌≤◌, ◌<◌, T}
use Rattle.std.proofs.Common.{sym, ◌∙◌, subst, arith, eqb→eq, eq-eqb}
use Rattle.std.specs.Int.Count.{ones}
use Rattle.std.proofs.Math.Dec.{leb, eqb}
use Rattle.fold.specs.Test.{of_true}
use Rattle.sets.specs.Mask.{has, has-mask, mask_lt, ones_mask}
use Rattle.sets.specs.Subset.{Sub, sub-mask}
use Rattle.model.specs.Model.{Yard, first_slot, last_slot, slot_of, load, allowed, in_time}
use Rattle.model.proofs.Rows.{both_le, le_both, allowed_is, is_fitting, allowed_keeps, fits_allowed}
use Rattle.sets.specs.Rest.{sub-has}
use Rattle.optimum.specs.Rows.{stage_set, remaining, Row}
use Rattle.staging.specs.Tables.{open_in, servable}
use Rattle.staging.specs.Serving.{Serves}
use Rattle.staging.proofs.Serving.{servable_is, is_servable, kept-together, together-kept}
use Rattle.staging.specs.AllowedRows.{InWindow, DayRow}

module _ (y : Yard) where
  pub has_open : (t i : ℕ) → i < y.trains → has (open_in y.trains y.first y.last t) i ≡ (leb (first_slot y i) t && leb t (last_slot y i))
  unfolding open_in in_time
  has_open t i l = has-mask y.trains (λ i. leb (first_slot y i) t && leb t (last_slot y i)) i l

  pub open_lt : (t : ℕ) → open_in y.trains y.first y.last t < 2 ^ y.trains
  unfolding open_in in_time
  open_lt t = mask_lt y.trains λ i. leb (first_slot y i) t && leb t (last_slot y i)

  module _ (row : List ℕ) where
    -- the ones of a slot's set are its trains
    pub stage_ones : (t : ℕ) → ones (stage_set y.trains row t) ≡ load y.trains row t
    unfolding load
    stage_ones t = ones_mask y.trains λ i. eqb (slot_of row i) t

    -- a slot's set lies in the windows exactly where each of its trains does
    pub within_windows : (t : ℕ) → ((i : ℕ) → i < y.trains → slot_of row i ≡ t → InWindow y t i)
        → Sub (stage_set y.trains row t) (open_in y.trains y.first y.last t)
    unfolding open_in in_time
    within_windows t h =
        sub-mask y.trains (λ i. eqb (slot_of row i) t) (λ i. leb (first_slot y i) t && leb t (last_slot y i))
        (λ i l e. le_both (first_slot y i) t t (last_slot y i) (h i l (eqb→eq (slot_of row i) t e)))

    windows_within : (t : ℕ) → Sub (stage_set y.trains row t) (open_in y.trains y.first y.last t)
        → (i : ℕ) → i < y.trains → slot_of row i ≡ t → InWindow y t i
    windows_within t h i l e =
        let n = y.trains in
        let in_set : T (has (stage_set n row t) i) = of_true (has-mask n (λ i. eqb (slot_of row i) t) i l ∙ eq-eqb (slot_of row i) t e) in
        both_le (first_slot y i) t t (last_slot y i)
        (subst T (has_open t i l) (sub-has n (stage_set n row t) (open_in n y.first y.last t) h (open_lt t) i l in_set))

    pub allowed-row : T (allowed y row) → DayRow y row
    allowed-row h =
        let n = y.trains in
        let a = allowed_is y row h in
        record {
          long = a.long;
          staged = a.slotted;
          passes = λ j l.
              let t = suc j in
              is_servable y t (remaining n row t) (stage_set n row t)
              (record {
                in_time = within_windows t (λ i k e. subst (λ x. InWindow y x i) e (a.windowed i k));
                room = omega (arith, stage_ones t, a.room j l);
                whole = kept-together n y.groups row t (allowed_keeps y row h);
              });
        }

    -- of a row's slot: its set is served
    served : DayRow y row → (j : ℕ) → j < y.slots → Serves y (suc j) (stage_set y.trains row (suc j))
    served h j l = servable_is y (suc j) (remaining y.trains row (suc j)) (stage_set y.trains row (suc j)) (h.passes j l)

    pub row-allowed : DayRow y row → T (allowed y row)
    row-allowed h =
        fits_allowed y row
        (is_fitting y row
        (record {
          long = h.long;
          slotted = h.staged;
          windowed = λ i l. at i l (slot_of row i) refl;
          room = λ j l. omega (arith, stage_ones (suc j), (served h j l).room);
        }))
        (together-kept y.trains y.groups row y.slots h.staged (λ j l. (served h j l).whole))
      where
        at : (i : ℕ) → i < y.trains → (t : ℕ) → slot_of row i ≡ t → InWindow y (slot_of row i) i
        at i l zero e = absurd (omega (arith, h.staged i l))
        at i l (suc j) e =
            subst (λ x. InWindow y x i) (sym e) (windows_within (suc j) (served h j (omega (arith, h.staged i l))).in_time i l e)
