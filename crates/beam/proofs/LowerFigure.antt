-- Laws of LowerFigure.antt of specs/.
-- The lower figure of a day (document 02, order 9), and that no row that fits costs less (`figure_lower`). Two things hold in every such
-- row. A train revisits where a supplier's first slot is after its own last slot. And a train shares its slot with at most G - 1 others,
-- so at most the G - 1 largest of its supplies are moved directly.
-- Assumes nothing.
use Rattle.std.specs.Prelude.{◌≡◌, refl, Bool, ◌&&◌, List, ◌⊎◌, T}
use Rattle.std.proofs.Common.{sym, ap₂, ◌∙◌, inl, inr, add-le-add, mul-le-mul_left, lt→ltb, eqb→eq, eq-eqb, ne_eqb}
use Rattle.std.proofs.Math.Path.{ap, subst}
use Rattle.std.proofs.Math.Bool.{true, false, not, cond}
use Prim.Native.Nat.{ℕ, zero, suc, ◌+◌, ◌-◌, ◌≤◌, ◌<◌, zero-le, max}
use native.Mathlib.Omega.{arith}
use Rattle.std.proofs.Math.Dec.{ltb, eqb, ltb→lt}
use Rattle.fold.specs.Test.{of_true, both, both_of, not_of}
use Rattle.fold.specs.Fold.{bit, sum, count, some, some_at, some_of}
use Rattle.fold.specs.Sums.{sum_le, sum_ext, sum-add, sum_zero}
use Rattle.fold.specs.Counting.{le_or_lt, count_suc, count_zero, count_le, count_less, bit_yes}
use Rattle.model.specs.Model.{Yard, received, first_slot, last_slot, slot_of, supplies, late_supplier, revisiting, revisits, split_boxes, splits_to, splits, weighed, cost, load, fitting}
use Rattle.model.specs.Rows.{Fitting}
use Rattle.model.proofs.Rows.{fitting_is}
use Rattle.beam.specs.LowerFigure.{largest, surely_revisits, surely_split, lower_figure, LessLargest, NoOwnBoxes}

-- ---- at most k values add up to at most the k largest

pub largest-bound : (k n : ℕ) (f : ℕ → ℕ) (p : ℕ → Bool) → count n p ≤ k → sum n (λ j. cond (p j) (f j) 0) ≤ largest k n f
unfolding largest sum
largest-bound zero zero f p h = zero-le
largest-bound (suc k) zero f p h = zero-le
largest-bound zero (suc n) f p h = at (p n) refl (largest-bound zero n f p (omega (arith, count_suc p n)))
  where
    at : (b : Bool) → p n ≡ b → sum n (λ j. cond (p j) (f j) 0) ≤ 0 → sum n (λ j. cond (p j) (f j) 0) + cond b (f n) 0 ≤ 0
    at true e before = absurd (omega (arith, count_suc p n, bit_yes (p n) (of_true e)))
    at false e before = omega arith
largest-bound (suc k) (suc n) f p h = at (p n) refl (largest-bound k n f p) (largest-bound (suc k) n f p (omega (arith, count_suc p n)))
  where
    others : ℕ
    others = sum n (λ j. cond (p j) (f j) 0)

    at : (b : Bool) → p n ≡ b → (count n p ≤ k → others ≤ largest k n f) → others ≤ largest (suc k) n f
        → others + cond b (f n) 0 ≤ max (largest (suc k) n f) (largest k n f + f n)
    at true e one_less same = omega (arith, one_less (omega (arith, count_suc p n, bit_yes (p n) (of_true e))))
    at false e one_less same = omega arith

-- one index more
also_sums : (n : ℕ) (f : ℕ → ℕ) (p : ℕ → Bool) (b : Bool) (q : ℕ → Bool) → ((j : ℕ) → j < n → q j ≡ p j) → q n ≡ b
    → (count (suc n) q ≡ count n p + bit b) × (sum (suc n) (λ j. cond (q j) (f j) 0) ≡ sum n (λ j. cond (p j) (f j) 0) + cond b (f n) 0)
unfolding count sum
also_sums n f p b q below at = (
  ap₂ (λ x c. x + bit c) (sum_ext n (λ j. bit (q j)) (λ j. bit (p j)) (λ j l. ap bit (below j l))) at,
  ap₂ (λ x c. x + cond c (f n) 0) (sum_ext n (λ j. cond (q j) (f j) 0) (λ j. cond (p j) (f j) 0) (λ j l. ap (λ c. cond c (f j) 0) (below j l))) at,
)

-- and some k values, or fewer, add up to that: p passes at them
pub largest_reached : (k n : ℕ) (f : ℕ → ℕ) → (p : ℕ → Bool) × (count n p ≤ k) × (sum n (λ j. cond (p j) (f j) 0) ≡ largest k n f)
unfolding largest
largest_reached zero n f = (λ j. false, omega (arith, count_zero (λ j. false) n (λ i l t. t)), sum_zero n (λ j. 0) (λ j l. refl))
largest_reached (suc k) zero f = (λ j. false, omega (arith, count_zero (λ j. false) 0 (λ i l t. t)), sum_zero 0 (λ j. 0) (λ j l. refl))
largest_reached (suc k) (suc n) f = go (largest_reached (suc k) n f) (largest_reached k n f) (le_or_lt (largest k n f + f n) (largest (suc k) n f))
  where
    -- the test p below n, and the answer b at n
    also : Bool → (ℕ → Bool) → ℕ → Bool
    also b p j = cond (eqb j n) b (p j)

    below : (b : Bool) (p : ℕ → Bool) (j : ℕ) → j < n → also b p j ≡ p j
    below b p j l = ap (λ x. cond x b (p j)) (ne_eqb j n (λ e. omega arith))

    at : (b : Bool) (p : ℕ → Bool) → also b p n ≡ b
    at b p = ap (λ x. cond x b (p n)) (eq-eqb n n refl)

    with : (b : Bool) (p : ℕ → Bool) → (count (suc n) (also b p) ≡ count n p + bit b) × (sum (suc n) (λ j. cond (also b p j) (f j) 0) ≡ sum n (λ j. cond (p j) (f j) 0) + cond b (f n) 0)
    with b p = also_sums n f p b (also b p) (below b p) (at b p)

    go : ((p : ℕ → Bool) × (count n p ≤ suc k) × (sum n (λ j. cond (p j) (f j) 0) ≡ largest (suc k) n f))
        → ((p : ℕ → Bool) × (count n p ≤ k) × (sum n (λ j. cond (p j) (f j) 0) ≡ largest k n f))
        → (largest k n f + f n ≤ largest (suc k) n f) ⊎ (largest (suc k) n f < largest k n f + f n)
        → (p : ℕ → Bool) × (count (suc n) p ≤ suc k) × (sum (suc n) (λ j. cond (p j) (f j) 0) ≡ max (largest (suc k) n f) (largest k n f + f n))
    go (p, few, e) one (inl h) = let (c, s) = with false p in (also false p, omega arith, omega arith)
    go all (p, few, e) (inr h) = let (c, s) = with true p in (also true p, omega arith, omega arith)

pub less_largest : (y : Yard) (i : ℕ) → LessLargest y i
unfolding surely_split
less_largest y i =
    let (p, few, e) = largest_reached (y.tracks - 1) y.trains (received y i) in
    record {
      taken = p;
      few = few;
      is = ap (λ x. sum y.trains (received y i) - x) (sym e);
      no_more = λ others h. omega (arith, e, largest-bound (y.tracks - 1) y.trains (received y i) others h);
    }

module _ (y : Yard) (row : List ℕ) (is : Fitting y row) where
  surely_revisits_lem : (i : ℕ) → i < y.trains → T (surely_revisits y i) → T (revisiting y.trains (received y) row i)
  unfolding surely_revisits revisiting late_supplier
  surely_revisits_lem i l t =
      let (j, m, late) = some_of y.trains (λ j. supplies (received y) i j && ltb (last_slot y i) (first_slot y j)) t in
      let (supplied, after) = both_of (supplies (received y) i j) (ltb (last_slot y i) (first_slot y j)) late in
      some_at y.trains (late_supplier (received y) row i) j m
      (both (supplies (received y) i j) (ltb (slot_of row i) (slot_of row j)) supplied
      (lt→ltb (slot_of row i) (slot_of row j) (omega (arith, ltb→lt (last_slot y i) (first_slot y j) after, is.windowed i l, is.windowed j m))))

  -- train j has the slot of train i, and is another
  beside : ℕ → ℕ → Bool
  beside i j = eqb (slot_of row i) (slot_of row j) && not (eqb j i)

  few_beside : (i : ℕ) → i < y.trains → count y.trains (beside i) ≤ y.tracks - 1
  unfolding load beside
  few_beside i l = omega (arith, full (slot_of row i) refl)
    where
      full : (t : ℕ) → slot_of row i ≡ t → suc (count y.trains (beside i)) ≤ y.tracks
      full zero e = absurd (omega (arith, is.slotted i l))
      full (suc t) e =
          omega (
            arith,
            subst (λ x. count y.trains (λ j. eqb (slot_of row j) x) ≤ y.tracks) (sym e) (is.room t (omega (arith, is.slotted i l))),
            count_less (λ j. eqb (slot_of row j) (slot_of row i)) (beside i) y.trains i l (of_true (eq-eqb (slot_of row i) (slot_of row i) refl))
                (λ t. not_of (eqb i i) (both_of (eqb (slot_of row i) (slot_of row i)) (not (eqb i i)) t).1 (of_true (eq-eqb i i refl)))
                (λ j m d t.
                of_true (eq-eqb (slot_of row j) (slot_of row i) (sym (eqb→eq (slot_of row i) (slot_of row j) (both_of (eqb (slot_of row i) (slot_of row j)) (not (eqb j i)) t).0)))),
          )

  module _ (own : NoOwnBoxes y) where
    -- the boxes that train i receives are split, or come from a train beside it
    split_or_direct : (i : ℕ) → i < y.trains
        → sum y.trains (received y i) ≡ splits_to y.trains (received y) row i + sum y.trains (λ j. cond (beside i j) (received y i j) 0)
    unfolding splits_to split_boxes beside
    split_or_direct i l =
        sum_ext y.trains (received y i) (λ j. split_boxes (received y) row i j + cond (beside i j) (received y i j) 0)
        (λ j m. part j (eqb (slot_of row i) (slot_of row j)) (eqb j i) (λ t. ap (received y i) (eqb→eq j i t) ∙ own i l))
        ∙ sum-add y.trains (split_boxes (received y) row i) (λ j. cond (beside i j) (received y i j) 0)
      where
        part : (j : ℕ) (s d : Bool) → (T d → received y i j ≡ 0) → received y i j ≡ cond s 0 (received y i j) + cond (s && not d) (received y i j) 0
        part j true true e = e tt
        part j true false e = omega arith
        part j false d e = omega arith

    surely_split_lem : (i : ℕ) → i < y.trains → surely_split y i ≤ splits_to y.trains (received y) row i
    unfolding surely_split
    surely_split_lem i l = omega (
      arith,
      split_or_direct i l,
      largest-bound (y.tracks - 1) y.trains (received y i) (beside i) (few_beside i l),
    )

-- no row that fits costs less than the lower figure
pub figure_lower : (y : Yard) → NoOwnBoxes y → (row : List ℕ) → T (fitting y row) → lower_figure y ≤ cost y row
unfolding lower_figure weighed cost revisits splits
figure_lower y own row ok =
    let is = fitting_is y row ok in
    add-le-add
    (mul-le-mul_left y.revisit (count_le (surely_revisits y) (revisiting y.trains (received y) row) y.trains (surely_revisits_lem y row is)))
    (mul-le-mul_left y.split (sum_le y.trains (surely_split y) (splits_to y.trains (received y) row) (surely_split_lem y row is own)))
