-- How large the counts and the sums over trains grow: one for each train, at most 255 boxes for a pair, where each entry of the table is a byte.
-- Assumes nothing.
use Rattle.std.specs.Prelude.{Bool, true, false, cond, List, ℕ, ◌+◌, ◌*◌, ◌≤◌, eqb, get_or}
use Rattle.std.proofs.Common.{arith, Fits, w8}
use Rattle.fold.specs.Fold.{bit, sum, count}
use Rattle.fold.specs.Sums.{sum_bound}
use Rattle.model.specs.Model.{cell, slot_of, outside_boxes, split_boxes, splits_to, direct_boxes, direct_to}

bit_most : (b : Bool) → bit b ≤ 1
bit_most true = omega arith
bit_most false = omega arith

pub count_most : (n : ℕ) (p : ℕ → Bool) → count n p ≤ n
unfolding count
count_most n p = omega (arith, sum_bound n 1 (λ i. bit (p i)) (λ i h. bit_most (p i)))

module _ (width : ℕ) (boxes : List ℕ) (bytes : (k : ℕ) → Fits w8 (get_or boxes k 0)) (row : List ℕ) where
  small : (i j : ℕ) → cell width boxes i j ≤ 255
  small i j = omega (arith, bytes (i * width + j))

  some_or_none : (b : Bool) (x : ℕ) → x ≤ 255 → (cond b x 0 ≤ 255) × (cond b 0 x ≤ 255)
  some_or_none true x h = (omega arith, omega arith)
  some_or_none false x h = (omega arith, omega arith)

  pub outside_most : (t i n : ℕ) → sum n (outside_boxes (cell width boxes) row t i) ≤ n * 255
  unfolding outside_boxes
  outside_most t i n = sum_bound n 255 (outside_boxes (cell width boxes) row t i) (λ j h. (some_or_none (eqb t (slot_of row j)) (cell width boxes i j) (small i j)).1)

  pub splits_most : (n i : ℕ) → splits_to n (cell width boxes) row i ≤ n * 255
  unfolding splits_to split_boxes
  splits_most n i = sum_bound n 255 (split_boxes (cell width boxes) row i) (λ j h. (some_or_none (eqb (slot_of row i) (slot_of row j)) (cell width boxes i j) (small i j)).1)

  pub direct_most : (n i : ℕ) → direct_to n (cell width boxes) row i ≤ n * 255
  unfolding direct_to direct_boxes
  direct_most n i = sum_bound n 255 (direct_boxes (cell width boxes) row i) (λ j h. (some_or_none (eqb (slot_of row i) (slot_of row j)) (cell width boxes i j) (small i j)).0)

  -- of at most 64 trains
  pub all_splits : (n : ℕ) → n ≤ 64 → sum n (splits_to n (cell width boxes) row) ≤ n * 16320
  all_splits n few = sum_bound n 16320 (splits_to n (cell width boxes) row) (λ i h. omega (arith, splits_most n i))

  pub all_direct : (n : ℕ) → n ≤ 64 → sum n (direct_to n (cell width boxes) row) ≤ n * 16320
  all_direct n few = sum_bound n 16320 (direct_to n (cell width boxes) row) (λ i h. omega (arith, direct_most n i))
