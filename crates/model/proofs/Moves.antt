-- Laws of Moves.antt of specs/.
-- Direct and split moves (order 6 of document 02): each counted by its own definition, they are all boxes of the day, whatever the row and
-- allowed or not (`direct_and_splits`).
-- Assumes nothing.
use Rattle.std.specs.Prelude.{◌≡◌, Bool, List, ℕ, ◌+◌, ◌≤◌, ◌<◌}
use Rattle.std.proofs.Math.Path.{refl, sym, ap}
use Rattle.std.proofs.Common.{◌∙◌, arith, eq-eqb, eqb-true}
use Rattle.std.proofs.Math.Bool.{true, false, cond}
use Rattle.std.proofs.Math.Dec.{eqb}
use Rattle.fold.specs.Fold.{sum}
use Rattle.fold.specs.Sums.{sum_ext, sum-add, sum_zero}
use Rattle.model.specs.Model.{Yard, received, slot_of, split_boxes, splits_to, splits, direct_boxes, direct_to, direct, all_boxes, outcome}
use Rattle.model.specs.Moves.{AllMoved}

-- a number is counted where a test passes or where it fails
either_way : (b : Bool) (x : ℕ) → cond b x 0 + cond b 0 x ≡ x
either_way true x = omega arith
either_way false x = omega arith

module _ (n : ℕ) (a : ℕ → ℕ → ℕ) (row : List ℕ) where
  -- of the boxes that train i receives
  moves_to : (i : ℕ) → direct_to n a row i + splits_to n a row i ≡ sum n (a i)
  unfolding direct_to direct_boxes splits_to split_boxes
  moves_to i =
      sym (sum-add n (direct_boxes a row i) (split_boxes a row i))
      ∙ sum_ext n (λ j. direct_boxes a row i j + split_boxes a row i j) (a i) (λ j l. either_way (eqb (slot_of row i) (slot_of row j)) (a i j))

  pub direct_and_splits : direct n a row + splits n a row ≡ all_boxes n a
  unfolding direct splits all_boxes
  direct_and_splits =
      sym (sum-add n (direct_to n a row) (splits_to n a row))
      ∙ sum_ext n (λ i. direct_to n a row i + splits_to n a row i) (λ i. sum n (a i)) (λ i l. moves_to i)

  -- so neither count exceeds them
  pub direct_boxes_lem : direct n a row ≤ all_boxes n a
  direct_boxes_lem = omega (arith, direct_and_splits)

  pub splits_boxes : splits n a row ≤ all_boxes n a
  splits_boxes = omega (arith, direct_and_splits)

-- ---- and the two ends: where no two trains that move boxes share a slot, no move is direct; where all do, none is split. With
-- `direct_and_splits` and `row-objective` they leave no other count of direct moves.

module _ (n : ℕ) (a : ℕ → ℕ → ℕ) (row : List ℕ) where
  pub apart_none : ((i j : ℕ) → i < n → j < n → slot_of row i ≡ slot_of row j → a i j ≡ 0) → direct n a row ≡ 0
  unfolding direct direct_to direct_boxes
  apart_none none = sum_zero n (direct_to n a row) (λ i h. sum_zero n (direct_boxes a row i) (λ j l. at i j h l (eqb (slot_of row i) (slot_of row j)) refl))
    where
      at : (i j : ℕ) → i < n → j < n → (b : Bool) → eqb (slot_of row i) (slot_of row j) ≡ b → cond b (a i j) 0 ≡ 0
      at i j h l true e = none i j h l (eqb-true (slot_of row i) (slot_of row j) e)
      at i j h l false e = refl

  pub together_all : ((i j : ℕ) → i < n → j < n → slot_of row i ≡ slot_of row j) → direct n a row ≡ sum n λ i. sum n (a i)
  unfolding direct direct_to direct_boxes
  together_all same =
      sum_ext n (direct_to n a row) (λ i. sum n (a i))
      (λ i h. sum_ext n (direct_boxes a row i) (a i) (λ j l. ap (λ b. cond b (a i j) 0) (eq-eqb (slot_of row i) (slot_of row j) (same i j h l))))

pub all_moved : (y : Yard) (row : List ℕ) → AllMoved y (outcome y row)
all_moved y row = direct_and_splits y.trains (received y) row
