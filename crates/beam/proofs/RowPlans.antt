-- Laws of RowPlans.antt of specs/.
-- Rows as plans of the search. The sets of the slots of a row that fits are a partial plan that is discarded at no slot (`plan_path`), and a plan of
-- the search is that of its row (`plan_again`). Cost, revisits, sum of slots and set numbers of a whole plan are its row's, so order 5 on
-- plans is order 5 on rows (`same_order`).
-- Assumes nothing.
use Rattle.std.specs.Prelude.{◌≡◌, Bool, ◌&&◌, ◌||◌, ltb, leb, length}
use Rattle.std.proofs.Math.Path.{refl, sym, ap, ap₂, subst₂}
use Rattle.std.proofs.Common.{◌∙◌, subst, mul-one, mul-zero, arith, leb→le}
use Rattle.std.proofs.Math.Bool.{true, false, cond}
use mathlib.Core.List.{List, [], ◌∷◌}
use Prim.Native.Nat.{ℕ, zero, suc, ◌+◌, ◌-◌, ◌*◌, ◌≤◌, ◌<◌}
use Rattle.std.specs.Int.Count.{ones}
use Rattle.std.proofs.Math.Dec.{T, eqb}
use borrow.Author.Tests.{eq-eqb, ne_eqb, eqb-true, eqb-false}
use Rattle.fold.specs.Test.{both_of}
use Rattle.fold.specs.Fold.{bit, sum, count, each}
use Rattle.fold.specs.Sums.{sum_ext, sum_swap, sum_only, sum_times, some_ext, each_ext}
use Rattle.fold.specs.Counting.{count_le}
use Rattle.sets.specs.Mask.{has, has-mask, ones_mask}
use Rattle.sets.specs.Rest.{full}
use Rattle.model.specs.Model.{Yard, received, last_slot, slot_of, revisits, cost, fitting, slot_mask, lower, by_key, slot_total, by_sets, precedes}
use Rattle.model.specs.Rows.{Fitting}
use Rattle.model.proofs.Rows.{fitting_is, le_both}
use Rattle.model.specs.BestOf.{better}
use Rattle.feasibility.specs.Bound.{Spacious}
use Rattle.feasibility.specs.NoRow.{within}
use Rattle.feasibility.proofs.NoRow.{slots_hold, none_fits}
use Rattle.optimum.specs.Rows.{stage_set, remaining, worth}
use Rattle.optimum.proofs.Rows.{remaining-next, remaining_all, stage_sub}
use Rattle.staging.specs.Tables.{late_trains, slot_cost}
use Rattle.staging.specs.AllowedRows.{InWindow}
use Rattle.staging.proofs.AllowedRows.{stage_ones, within_windows}
use Rattle.staging.proofs.CostBySlot.{revisits_by_slot, worth-cost}
use Rattle.beam.specs.Beam.{Plan, rest, cost_so_far, revisits_so_far, slots_so_far, set_in, row_of, earlier, comes_before, discarded, fits_slot, may_serve}
use Rattle.beam.specs.Discards.{ending, Fits}
use Rattle.beam.proofs.Discards.{fits_kept}
use Rattle.beam.specs.Paths.{Path}
use Rattle.beam.proofs.Paths.{is_fits, serves, row-set}
use Rattle.beam.specs.RowPlans.{plan_of}

-- ---- the sets of a row

module _ (y : Yard) (row : List ℕ) where
  pub plan_length : (t : ℕ) → length (plan_of y row t) ≡ t
  unfolding plan_of
  plan_length zero = refl
  plan_length (suc t) = ap suc (plan_length t)

  pub plan_sets : (t j : ℕ) → j < t → set_in (plan_of y row t) j ≡ stage_set y.trains row (suc j)
  unfolding plan_of set_in
  plan_sets zero j l = absurd (omega arith)
  plan_sets (suc t) j l = at (eqb j (length (plan_of y row t))) refl (plan_sets t j)
    where
      at : (b : Bool) → eqb j (length (plan_of y row t)) ≡ b → (j < t → set_in (plan_of y row t) j ≡ stage_set y.trains row (suc j))
          → cond b (stage_set y.trains row (suc t)) (set_in (plan_of y row t) j) ≡ stage_set y.trains row (suc j)
      at true e before = ap (λ x. stage_set y.trains row (suc x)) (sym (plan_length t) ∙ sym (eqb-true j (length (plan_of y row t)) e))
      at false e before =
          let differ = eqb-false j (length (plan_of y row t)) e in
          let long = plan_length t in
          before (omega arith)

  -- a plan whose sets are the row's is that of the row
  plan_same : (p : Plan) → ((j : ℕ) → j < length p → stage_set y.trains row (suc j) ≡ set_in p j) → plan_of y row (length p) ≡ p
  unfolding plan_of set_in
  plan_same [] same = refl
  plan_same (s ∷ p) same =
      ap₂ (λ (x : ℕ) (q : Plan). x ∷ q)
      (same (length p) (omega arith) ∙ ap (λ b. cond b s (set_in p (length p))) (eq-eqb (length p) (length p) refl))
      (plan_same p (λ j l. same j (omega arith) ∙ ap (λ b. cond b s (set_in p j)) (ne_eqb j (length p) (λ e. omega arith))))

-- a plan of the search is that of its row
pub plan_again : (y : Yard) (p : Plan) → Path y p → plan_of y (row_of y p) (length p) ≡ p
plan_again y p h = plan_same y (row_of y p) p (λ j l. row-set y p h j)

-- ---- the plan of a row that fits

module _ (y : Yard) (row : List ℕ) (ok : T (fitting y row)) where
  is : Fitting y row
  is = fitting_is y row ok

  pub row_spacious : Spacious y
  row_spacious a b over = none_fits y a b over row ok

  pub plan_rest : (t : ℕ) → rest y (plan_of y row t) ≡ remaining y.trains row (suc t)
  unfolding plan_of rest
  plan_rest zero = sym (remaining_all y.trains row (λ i l. (is.slotted i l).0))
  plan_rest (suc t) = ap (λ r. r - stage_set y.trains row (suc t)) (plan_rest t) ∙ remaining-next y.trains row (suc t)

  -- the trains after slot t that end by b stand in the slots after t up to b
  row_fits : (t : ℕ) → Fits y t (remaining y.trains row (suc t))
  row_fits t b d e h = omega (
    arith,
    slots_hold y row is t d (omega arith),
    count_le (ending y (remaining y.trains row (suc t)) b) (within y row is (suc t) (t + d)) y.trains
        (λ i l w.
        let (later, ends) = both_of (has (remaining y.trains row (suc t)) i) (leb (last_slot y i) b) w in
        let after = leb→le (suc t) (slot_of row i) (subst T (has-mask y.trains (λ i. leb (suc t) (slot_of row i)) i l) later) in
        le_both (suc t) (slot_of row i) (slot_of row i) (t + d) (after, omega (arith, is.windowed i l, leb→le (last_slot y i) b ends))),
  )

  row_kept_lem : (t : ℕ) → t ≤ y.slots → T (discarded y t (remaining y.trains row (suc t))) → ⊥
  row_kept_lem t h = fits_kept y t (remaining y.trains row (suc t)) row_spacious h (row_fits t)

  -- before the first slot nothing is discarded
  pub start_kept : T (discarded y 0 (full y.trains)) → ⊥
  start_kept = subst (λ r. T (discarded y 0 r) → ⊥) (remaining_all y.trains row (λ i l. (is.slotted i l).0)) (row_kept_lem 0 (omega arith))

  -- the set of each slot fits into it
  slot_fits : (j : ℕ) → j < y.slots → T (fits_slot y (suc j) (stage_set y.trains row (suc j)))
  slot_fits j l =
      is_fits y (suc j) (stage_set y.trains row (suc j)) (within_windows y row (suc j) (λ i k e. subst (λ x. InWindow y x i) e (is.windowed i k)))
      (omega (arith, stage_ones y row (suc j), is.room j l))

  pub plan_path : (t : ℕ) → t ≤ y.slots → Path y (plan_of y row t)
  unfolding plan_of
  plan_path zero h = start_kept
  plan_path (suc t) h = (
    subst₂ (λ k r. T (may_serve y (suc k) r (stage_set y.trains row (suc t)))) (sym (plan_length y row t)) (sym (plan_rest t))
        (serves y (suc t) (remaining y.trains row (suc t)) (stage_set y.trains row (suc t)) (stage_sub y.trains row (suc t))
        (slot_fits t h)
        (subst (λ r. T (discarded y (suc t) r) → ⊥) (sym (remaining-next y.trains row (suc t))) (row_kept_lem (suc t) h))),
    plan_path t (omega arith),
  )

  -- ---- its numbers

  plan_costs : (t : ℕ) → cost_so_far y (plan_of y row t) ≡ sum t λ j. slot_cost y (suc j) (remaining y.trains row (suc j)) (stage_set y.trains row (suc j))
  unfolding plan_of cost_so_far sum
  plan_costs zero = refl
  plan_costs (suc t) = ap₂ (λ x r. x + slot_cost y (suc t) r (stage_set y.trains row (suc t))) (plan_costs t) (plan_rest t)

  plan_lates : (t : ℕ) → revisits_so_far y (plan_of y row t) ≡ sum t λ j. late_trains y (remaining y.trains row (suc j)) (stage_set y.trains row (suc j))
  unfolding plan_of revisits_so_far sum
  plan_lates zero = refl
  plan_lates (suc t) = ap₂ (λ x r. x + late_trains y r (stage_set y.trains row (suc t))) (plan_lates t) (plan_rest t)

  plan_sums : (t : ℕ) → slots_so_far (plan_of y row t) ≡ sum t λ j. suc j * ones (stage_set y.trains row (suc j))
  unfolding plan_of slots_so_far sum
  plan_sums zero = refl
  plan_sums (suc t) = ap₂ (λ x k. x + suc k * ones (stage_set y.trains row (suc t))) (plan_sums t) (plan_length y row t)

  pub plan_cost : cost_so_far y (plan_of y row y.slots) ≡ cost y row
  unfolding worth
  plan_cost = plan_costs y.slots ∙ worth-cost y y.slots row is.slotted

  pub plan_revisits : revisits_so_far y (plan_of y row y.slots) ≡ revisits y.trains (received y) row
  plan_revisits = plan_lates y.slots ∙ sym (revisits_by_slot y y.slots row is.slotted)

  pub plan_slots : slots_so_far (plan_of y row y.slots) ≡ slot_total y.trains row
  unfolding slot_total count
  plan_slots =
      plan_sums y.slots
      ∙ sum_ext y.slots (λ j. suc j * ones (stage_set y.trains row (suc j))) (λ j. sum y.trains (λ i. part i j)) (λ j l. in_slot_lem j)
      ∙ sym (sum_swap y.trains y.slots part)
      ∙ sum_ext y.trains (λ i. sum y.slots (part i)) (slot_of row) (λ i l. sum_only y.slots (slot_of row i) (slot_of row i) (is.slotted i l).0 (is.slotted i l).1)
    where
      -- the slot of train i, where it is slot j + 1
      part : ℕ → ℕ → ℕ
      part i j = cond (eqb (slot_of row i) (suc j)) (slot_of row i) 0

      term : (j x : ℕ) (b : Bool) → eqb x (suc j) ≡ b → suc j * bit b ≡ cond b x 0
      term j x true e = mul-one (suc j) ∙ sym (eqb-true x (suc j) e)
      term j x false e = mul-zero (suc j)

      in_slot_lem : (j : ℕ) → suc j * ones (stage_set y.trains row (suc j)) ≡ sum y.trains (λ i. part i j)
      in_slot_lem j =
          ap (λ x. suc j * x) (ones_mask y.trains λ i. eqb (slot_of row i) (suc j))
          ∙ sym (sum_times y.trains (suc j) λ i. bit (eqb (slot_of row i) (suc j)))
          ∙ sum_ext y.trains (λ i. suc j * bit (eqb (slot_of row i) (suc j))) (λ i. part i j) (λ i l. term j (slot_of row i) (eqb (slot_of row i) (suc j)) refl)

-- ---- order 5 on plans and on rows

pub by_key_same : {X Z : Type 0} (k : X → ℕ) (k' : Z → ℕ) (b : X → X → Bool) (b' : Z → Z → Bool) (r s : X) (u v : Z) → k r ≡ k' u → k s ≡ k' v → b r s ≡ b' u v
    → by_key k b r s ≡ by_key k' b' u v
unfolding by_key
by_key_same k k' b b' r s u v e q w = λ i. ltb (e i) (q i) || (eqb (e i) (q i) && w i)

pub lower_ext : (k : ℕ) (f g f' g' : ℕ → ℕ) → ((t : ℕ) → t < k → f t ≡ f' t) → ((t : ℕ) → t < k → g t ≡ g' t) → lower k f g ≡ lower k f' g'
unfolding lower
lower_ext k f g f' g' a b =
    some_ext k (λ t. ltb (f t) (g t) && each t λ u. eqb (f u) (g u)) (λ t. ltb (f' t) (g' t) && each t λ u. eqb (f' u) (g' u))
    (λ t l.
    ap₂ (λ x z. x && z) (ap₂ ltb (a t l) (b t l))
    (each_ext t (λ u. eqb (f u) (g u)) (λ u. eqb (f' u) (g' u)) (λ u m. ap₂ eqb (a u (omega arith)) (b u (omega arith)))))

pub same_order : (y : Yard) (r s : List ℕ) → T (fitting y r) → T (fitting y s) → better y r s ≡ comes_before y (plan_of y r y.slots) (plan_of y s y.slots)
unfolding comes_before earlier precedes by_sets slot_mask
same_order y r s a b =
    let m : ℕ = y.slots in
    let p : Plan = plan_of y r y.slots in
    let q : Plan = plan_of y s y.slots in
    by_key_same (cost y) (cost_so_far y) _ _ r s p q (sym (plan_cost y r a)) (sym (plan_cost y s b))
    (by_key_same (revisits y.trains (received y)) (revisits_so_far y) _ _ r s p q (sym (plan_revisits y r a)) (sym (plan_revisits y s b))
    (by_key_same (slot_total y.trains) slots_so_far _ _ r s p q (sym (plan_slots y r a)) (sym (plan_slots y s b))
    (lower_ext m (λ t. slot_mask y.trains s (suc t)) (λ t. slot_mask y.trains r (suc t)) (set_in q) (set_in p)
    (λ t l. sym (plan_sets y s m t l)) (λ t l. sym (plan_sets y r m t l)))))
