-- Laws of CostBySlot.antt of specs/.
-- Equation (1) by slots: a row's revisits and split moves are sums over the slots of what the set of each slot causes, so the row's worth
-- as staged choices is its cost (`worth-cost`). A revisit is counted in the train's own slot, where its supplier still remains; the boxes
-- that a train receives are split or direct in its own slot too, so the row's direct moves are a sum over the slots as well
-- (`shares_direct`).
-- Assumes nothing.
use Rattle.std.specs.Prelude.{◌≡◌, refl, Bool, true, false, ◌&&◌, List}
use Rattle.std.proofs.Math.Path.{sym, ap, ap₂}
use Rattle.std.proofs.Common.{◌∙◌, eqb-true}
use Rattle.std.proofs.Math.Bool.{cond, and_comm}
use Prim.Native.Nat.{ℕ, suc, ◌+◌, ◌-◌, ◌*◌, ◌≤◌, ◌<◌}
use Rattle.std.specs.Int.Bits.{bit_and}
use Rattle.std.specs.Int.Count.{ones}
use Rattle.std.proofs.Math.Dec.{ltb, leb, eqb}
use Rattle.fold.specs.Test.{eqb_sym}
use Rattle.fold.specs.Fold.{bit, sum, count, some}
use Rattle.fold.specs.Sums.{sum_ext, some_ext, sum-add, sum_times, sum_swap, sum_only}
use Rattle.sets.specs.Mask.{has, has-mask, mask_and, ones_mask}
use Rattle.model.specs.Model.{Yard, received, supplies, slot_of, late_supplier, revisiting, revisits, split_boxes, splits_to, splits, direct_boxes, direct_to, direct, weighed, outcome, cost}
use Rattle.optimum.specs.Rows.{stage_set, remaining, worth}
use Rattle.optimum.proofs.Rows.{remaining-next}
use Rattle.staging.specs.Tables.{needing, from_outside, from_inside, late_trains, slot_cost, Share, slot_share}
use Rattle.staging.specs.CostBySlot.{Slotted, in_slot, share_in}

-- a sum over the trains is one over the slots, and in each over its trains
by_slot : (n slots : ℕ) (row : List ℕ) → Slotted n slots row → (f : ℕ → ℕ) → sum n f ≡ sum slots λ j. in_slot n row f (suc j)
by_slot n slots row staged f =
    sum_ext n f (λ i. sum slots λ j. cond (eqb (slot_of row i) (suc j)) (f i) 0)
    (λ i l. sym (sum_only slots (slot_of row i) (f i) (staged i l).0 (staged i l).1))
    ∙ sum_swap n slots (λ i j. cond (eqb (slot_of row i) (suc j)) (f i) 0)

module _ (n : ℕ) (a : ℕ → ℕ → ℕ) (row : List ℕ) where
  -- train i has a supplier in the set m
  needs : ℕ → ℕ → Bool
  needs m i = some n λ j. has m j && supplies a i j

  -- ---- revisits

  -- of a train in slot t: a supplier that remains after t is one with a later slot
  late-at : (t i : ℕ) → slot_of row i ≡ t → needs (remaining n row (suc t)) i ≡ revisiting n a row i
  unfolding needs revisiting late_supplier
  late-at t i e =
      some_ext n (λ j. has (remaining n row (suc t)) j && supplies a i j) (late_supplier a row i)
      (λ j l.
      ap (λ b. b && supplies a i j) (has-mask n (λ j. leb (suc t) (slot_of row j)) j l ∙ ap (λ x. ltb x (slot_of row j)) (sym e))
      ∙ and_comm (ltb (slot_of row i) (slot_of row j)) (supplies a i j))

  late_in_slot : (t : ℕ) → ones (bit_and (stage_set n row t) (needing n a (remaining n row t - stage_set n row t)))
      ≡ in_slot n row (λ i. bit (revisiting n a row i)) t
  unfolding needing needs count
  late_in_slot t =
      ap (λ m. ones (bit_and (stage_set n row t) (needing n a m))) (remaining-next n row t)
      ∙ ap ones (mask_and n (λ i. eqb (slot_of row i) t) (needs after))
      ∙ ones_mask n (λ i. eqb (slot_of row i) t && needs after i)
      ∙ sum_ext n (λ i. bit (eqb (slot_of row i) t && needs after i)) (λ i. cond (eqb (slot_of row i) t) (bit (revisiting n a row i)) 0)
      (λ i l. at i (eqb (slot_of row i) t) refl)
    where
      after : ℕ
      after = remaining n row (suc t)

      at : (i : ℕ) (b : Bool) → eqb (slot_of row i) t ≡ b → bit (b && needs after i) ≡ cond b (bit (revisiting n a row i)) 0
      at i true e = ap bit (late-at t i (eqb-true (slot_of row i) t e))
      at i false e = refl

  -- ---- boxes, counted by whether both trains have the same slot

  -- of a train in slot t: a supplier is in the slot's set where it has the same slot
  boxes_at : (f : Bool → ℕ → ℕ) (t i : ℕ) → slot_of row i ≡ t
      → sum n (λ j. f (has (stage_set n row t) j) (a i j)) ≡ sum n λ j. f (eqb (slot_of row i) (slot_of row j)) (a i j)
  boxes_at f t i e =
      sum_ext n (λ j. f (has (stage_set n row t) j) (a i j)) (λ j. f (eqb (slot_of row i) (slot_of row j)) (a i j))
      (λ j l.
      ap (λ b. f b (a i j))
      (has-mask n (λ j. eqb (slot_of row j) t) j l ∙ ap (eqb (slot_of row j)) (sym e) ∙ eqb_sym (slot_of row j) (slot_of row i)))

  boxes_in_slot : (f : Bool → ℕ → ℕ) (t : ℕ)
      → sum n (λ i. cond (has (stage_set n row t) i) (sum n λ j. f (has (stage_set n row t) j) (a i j)) 0)
      ≡ in_slot n row (λ i. sum n λ j. f (eqb (slot_of row i) (slot_of row j)) (a i j)) t
  boxes_in_slot f t =
      sum_ext n (λ i. cond (has s i) (sum n λ j. f (has s j) (a i j)) 0)
      (λ i. cond (eqb (slot_of row i) t) (sum n λ j. f (eqb (slot_of row i) (slot_of row j)) (a i j)) 0)
      (λ i l.
      ap (λ b. cond b (sum n λ j. f (has s j) (a i j)) 0) (has-mask n (λ i. eqb (slot_of row i) t) i l)
      ∙ at i (eqb (slot_of row i) t) refl)
    where
      s : ℕ
      s = stage_set n row t

      at : (i : ℕ) (b : Bool) → eqb (slot_of row i) t ≡ b
          → cond b (sum n λ j. f (has s j) (a i j)) 0 ≡ cond b (sum n λ j. f (eqb (slot_of row i) (slot_of row j)) (a i j)) 0
      at i true e = boxes_at f t i (eqb-true (slot_of row i) t e)
      at i false e = refl

  -- what comes from outside the slot's set comes from another slot
  split_in_slot : (t : ℕ) → from_outside n a (stage_set n row t) ≡ in_slot n row (splits_to n a row) t
  unfolding from_outside splits_to split_boxes
  split_in_slot t = boxes_in_slot (λ same boxes. cond same 0 boxes) t

  -- and what comes from within it from the same slot
  direct_in_slot : (t : ℕ) → from_inside n a (stage_set n row t) ≡ in_slot n row (direct_to n a row) t
  unfolding from_inside direct_to direct_boxes
  direct_in_slot t = boxes_in_slot (λ same boxes. cond same boxes 0) t

module _ (y : Yard) (slots : ℕ) (row : List ℕ) (staged : Slotted y.trains slots row) where
  pub revisits_by_slot : revisits y.trains (received y) row
      ≡ sum slots λ j. late_trains y (remaining y.trains row (suc j)) (stage_set y.trains row (suc j))
  unfolding revisits count
  revisits_by_slot =
      by_slot y.trains slots row staged (λ i. bit (revisiting y.trains (received y) row i))
      ∙ sum_ext slots (λ j. in_slot y.trains row (λ i. bit (revisiting y.trains (received y) row i)) (suc j))
      (λ j. late_trains y (remaining y.trains row (suc j)) (stage_set y.trains row (suc j)))
      (λ j l. sym (late_in_slot y.trains (received y) row (suc j)))

  pub splits_by_slot : splits y.trains (received y) row ≡ sum slots λ j. from_outside y.trains (received y) (stage_set y.trains row (suc j))
  unfolding splits
  splits_by_slot =
      by_slot y.trains slots row staged (splits_to y.trains (received y) row)
      ∙ sum_ext slots (λ j. in_slot y.trains row (splits_to y.trains (received y) row) (suc j))
      (λ j. from_outside y.trains (received y) (stage_set y.trains row (suc j)))
      (λ j l. sym (split_in_slot y.trains (received y) row (suc j)))

  pub direct_by_slot : direct y.trains (received y) row ≡ sum slots λ j. from_inside y.trains (received y) (stage_set y.trains row (suc j))
  unfolding direct
  direct_by_slot =
      by_slot y.trains slots row staged (direct_to y.trains (received y) row)
      ∙ sum_ext slots (λ j. in_slot y.trains row (direct_to y.trains (received y) row) (suc j))
      (λ j. from_inside y.trains (received y) (stage_set y.trains row (suc j)))
      (λ j l. sym (direct_in_slot y.trains (received y) row (suc j)))

  pub worth-cost : worth (slot_cost y) y.trains slots row ≡ cost y row
  unfolding worth cost weighed
  worth-cost =
      sum-add slots (λ j. y.revisit * late j) (λ j. y.split * outside j)
      ∙ ap₂ (λ x z. x + z) (sum_times slots y.revisit late) (sum_times slots y.split outside)
      ∙ ap₂ (λ x z. y.revisit * x + y.split * z) (sym revisits_by_slot) (sym splits_by_slot)
    where
      late : ℕ → ℕ
      late j = late_trains y (remaining y.trains row (suc j)) (stage_set y.trains row (suc j))

      outside : ℕ → ℕ
      outside j = from_outside y.trains (received y) (stage_set y.trains row (suc j))

  -- the row's cost and its direct moves are the sums over its slots (order 6 of 02)
  pub shares_cost : (outcome y row).cost ≡ sum slots λ j. (share_in y row j).cost
  unfolding worth cost
  shares_cost = sym worth-cost

  pub shares_direct : (outcome y row).direct ≡ sum slots λ j. (share_in y row j).direct
  shares_direct = direct_by_slot

-- ---- one slot of any row: what it contributes is counted over its own trains

module _ (y : Yard) (row : List ℕ) (j : ℕ) where
  pub share_cost : (share_in y row j).cost
      ≡ y.revisit * (sum y.trains λ i. cond (eqb (slot_of row i) (suc j)) (bit (revisiting y.trains (received y) row i)) 0)
      + y.split * (sum y.trains λ i. cond (eqb (slot_of row i) (suc j)) (splits_to y.trains (received y) row i) 0)
  share_cost =
      ap₂ (λ late outside. y.revisit * late + y.split * outside) (late_in_slot y.trains (received y) row (suc j))
      (split_in_slot y.trains (received y) row (suc j))

  pub share_direct : (share_in y row j).direct ≡ sum y.trains λ i. cond (eqb (slot_of row i) (suc j)) (direct_to y.trains (received y) row i) 0
  share_direct = direct_in_slot y.trains (received y) row (suc j)
