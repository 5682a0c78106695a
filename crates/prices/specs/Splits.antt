-- The split moves of a set, which are the boxes that its trains receive from outside it: of train k alone; of a set and two trains above
-- it, from the sets with one of the two and with none; and a bound.
-- Assumes nothing.
use Rattle.std.specs.Prelude.{◌≡◌, refl, Bool, true, false, ◌||◌, ◌⊎◌, ◌≢◌, eqb}
use Rattle.std.proofs.Math.Path.{sym, ap, ap₂, subst}
use Rattle.std.proofs.Common.{◌∙◌, inl, inr, le_trans, pow-suc, pow_pos, pow_mono, eq-eqb, ne_eqb}
use Rattle.std.proofs.Math.Bool.{cond}
use Prim.Native.Nat.{ℕ, suc, ◌+◌, ◌*◌, ◌/◌, ◌%◌, ◌^◌, ◌≤◌, ◌<◌}
use Rattle.std.proofs.Math.Nat.{add-zero}
use native.Mathlib.Omega.{arith}
use Rattle.std.proofs.Math.Pow.{high}
use Rattle.fold.specs.Fold.{sum}
use Rattle.fold.specs.Sums.{sum_ext, sum-add, sum_only, sum_zero, sum_le, sum_bound}
use Rattle.fold.specs.Counting.{same_or}
use Rattle.sets.specs.Mask.{has}
use Rattle.sets.specs.Rest.{has_none}
use Rattle.staging.specs.Tables.{from_outside}
use Rattle.tables.specs.Needing.{has_join}

-- ---- the way to the laws: what one train brings to a set

-- the boxes of train i from train j, where j is outside s; from all trains outside s
unfoldable outside_boxes : (ℕ → ℕ → ℕ) → ℕ → ℕ → ℕ → ℕ
outside_boxes a s i j = cond (has s j) 0 (a i j)

unfoldable outside_to : ℕ → (ℕ → ℕ → ℕ) → ℕ → ℕ → ℕ
outside_to n a s i = sum n (outside_boxes a s i)

-- the boxes that the trains of m receive from train c
unfoldable inside_from : ℕ → (ℕ → ℕ → ℕ) → ℕ → ℕ → ℕ
inside_from n a m c = sum n λ i. cond (has m i) (a i c) 0

-- ---- a set m below 2 ^ k, and the train k

has_above : (k m : ℕ) → m < 2 ^ k → has m k ≡ false
unfolding has
has_above k m h =
    let e : m ≡ 0 * 2 ^ k + m = omega arith in
    ap (λ x. eqb (x / 2 ^ k % 2) 1) e ∙ ap (λ x. eqb (x % 2) 1) (high 0 k h)

sum_unit : (n k x : ℕ) → k < n → sum n (λ i. cond (eqb k i) x 0) ≡ x
sum_unit n k x l =
    sum_ext n (λ i. cond (eqb k i) x 0) (λ i. cond (eqb (suc k) (suc i)) x 0) (λ i h. ap (λ c. cond c x 0) (here i (same_or k i)))
    ∙ sum_only n (suc k) x (omega arith) l
  where
    here : (i : ℕ) → (k ≡ i) ⊎ (k ≢ i) → eqb k i ≡ eqb (suc k) (suc i)
    here i (inl e) = eq-eqb k i e ∙ sym (eq-eqb (suc k) (suc i) (ap suc e))
    here i (inr d) = ne_eqb k i d ∙ sym (ne_eqb (suc k) (suc i) (λ q. d (omega arith)))

-- by the three cases of a train: k; another one in m; another one outside m
either : (x y z : ℕ) (b : Bool) → (b ≡ true → x + y ≡ z) → cond b x 0 + cond b y 0 ≡ cond b z 0 + 0
either x y z true h = let e = h refl in omega arith
either x y z false h = refl

cond_le : (b : Bool) (x y z : ℕ) → x ≤ z → y ≤ z → cond b x y ≤ z
cond_le true x y z p q = p
cond_le false x y z p q = q

or_true : (b : Bool) → (b || true) ≡ true
or_true true = refl
or_true false = refl

or_false : (b : Bool) → (b || false) ≡ b
or_false true = refl
or_false false = refl

module _ (n : ℕ) (a : ℕ → ℕ → ℕ) (k m : ℕ) (l : k < n) (h : m < 2 ^ k) where
  -- the digits of the set with k
  joined_k : has (2 ^ k + m) k ≡ true
  joined_k = has_join n k m k l h l ∙ ap (λ c. has m k || c) (eq-eqb k k refl) ∙ or_true (has m k)

  joined_other : (j : ℕ) → j < n → k ≢ j → has (2 ^ k + m) j ≡ has m j
  joined_other j b d = has_join n k m j l h b ∙ ap (λ c. has m j || c) (ne_eqb k j d) ∙ or_false (has m j)

  -- what train i receives from outside m, k among them
  outside_join : (i : ℕ) → outside_to n a (2 ^ k + m) i + a i k ≡ outside_to n a m i
  unfolding outside_to outside_boxes
  outside_join i =
      ap (λ x. outside_to n a (2 ^ k + m) i + x) (sym (sum_unit n k (a i k) l))
      ∙ sym (sum-add n (outside_boxes a (2 ^ k + m) i) (λ j. cond (eqb k j) (a i k) 0))
      ∙ sum_ext n (λ j. outside_boxes a (2 ^ k + m) i j + cond (eqb k j) (a i k) 0) (outside_boxes a m i) (λ j b. at_j j b (same_or k j))
    where
      at_j : (j : ℕ) → j < n → (k ≡ j) ⊎ (k ≢ j) → cond (has (2 ^ k + m) j) 0 (a i j) + cond (eqb k j) (a i k) 0 ≡ cond (has m j) 0 (a i j)
      at_j j b (inl e) =
          subst (λ j. cond (has (2 ^ k + m) j) 0 (a i j) + cond (eqb k j) (a i k) 0 ≡ cond (has m j) 0 (a i j)) e
          (ap₂ (λ c d. cond c 0 (a i k) + cond d (a i k) 0) joined_k (eq-eqb k k refl) ∙ omega arith ∙ sym (ap (λ c. cond c 0 (a i k)) (has_above k m h)))
      at_j j b (inr d) =
          ap₂ (λ c d. cond c 0 (a i j) + cond d (a i k) 0) (joined_other j b d) (ne_eqb k j d) ∙ add-zero (cond (has m j) 0 (a i j))

  -- what the trains of the set with k receive from train c
  inside_join : (c : ℕ) → inside_from n a (2 ^ k + m) c ≡ inside_from n a m c + a k c
  unfolding inside_from
  inside_join c =
      sum_ext n (λ i. cond (has (2 ^ k + m) i) (a i c) 0) (λ i. cond (has m i) (a i c) 0 + cond (eqb k i) (a k c) 0) (λ i b. at_i i b (same_or k i))
      ∙ sum-add n (λ i. cond (has m i) (a i c) 0) (λ i. cond (eqb k i) (a k c) 0)
      ∙ ap (λ x. inside_from n a m c + x) (sum_unit n k (a k c) l)
    where
      Same : ℕ → Type 0
      Same i = cond (has (2 ^ k + m) i) (a i c) 0 ≡ cond (has m i) (a i c) 0 + cond (eqb k i) (a k c) 0

      at_i : (i : ℕ) → i < n → (k ≡ i) ⊎ (k ≢ i) → Same i
      at_i i b (inl e) =
          subst Same e
          (ap (λ d. cond d (a k c) 0) joined_k
          ∙ omega arith
          ∙ sym (ap₂ (λ d f. cond d (a k c) 0 + cond f (a k c) 0) (has_above k m h) (eq-eqb k k refl)))
      at_i i b (inr d) =
          ap (λ d. cond d (a i c) 0) (joined_other i b d)
          ∙ sym (ap (λ f. cond (has m i) (a i c) 0 + cond f (a k c) 0) (ne_eqb k i d) ∙ add-zero (cond (has m i) (a i c) 0))

  -- the set with k: k brings its boxes from outside, and what the others receive from k is split no longer
  split_join : from_outside n a (2 ^ k + m) + inside_from n a m k ≡ from_outside n a m + outside_to n a (2 ^ k + m) k
  unfolding from_outside inside_from outside_to outside_boxes
  split_join =
      sym (sum-add n (λ i. cond (has (2 ^ k + m) i) (outside_to n a (2 ^ k + m) i) 0) (λ i. cond (has m i) (a i k) 0))
      ∙ sum_ext n (λ i. cond (has (2 ^ k + m) i) (outside_to n a (2 ^ k + m) i) 0 + cond (has m i) (a i k) 0)
      (λ i. cond (has m i) (outside_to n a m i) 0 + cond (eqb k i) (outside_to n a (2 ^ k + m) k) 0) (λ i b. at_i i b (same_or k i))
      ∙ sum-add n (λ i. cond (has m i) (outside_to n a m i) 0) (λ i. cond (eqb k i) (outside_to n a (2 ^ k + m) k) 0)
      ∙ ap (λ x. from_outside n a m + x) (sum_unit n k (outside_to n a (2 ^ k + m) k) l)
    where
      Same : ℕ → Type 0
      Same i = cond (has (2 ^ k + m) i) (outside_to n a (2 ^ k + m) i) 0 + cond (has m i) (a i k) 0
          ≡ cond (has m i) (outside_to n a m i) 0 + cond (eqb k i) (outside_to n a (2 ^ k + m) k) 0

      at_k : (x y z : ℕ) (b c d : Bool) → b ≡ true → c ≡ false → d ≡ true → cond b x 0 + cond c y 0 ≡ cond c z 0 + cond d x 0
      at_k x y z b c d p q r = ap₂ (λ b c. cond b x 0 + cond c y 0) p q ∙ omega arith ∙ sym (ap₂ (λ c d. cond c z 0 + cond d x 0) q r)

      at_i : (i : ℕ) → i < n → (k ≡ i) ⊎ (k ≢ i) → Same i
      at_i i b (inl e) =
          subst Same e
          (at_k (outside_to n a (2 ^ k + m) k) (a k k) (outside_to n a m k) (has (2 ^ k + m) k) (has m k) (eqb k k) joined_k (has_above k m h) (eq-eqb k k refl))
      at_i i b (inr d) =
          ap (λ c. cond c (outside_to n a (2 ^ k + m) i) 0 + cond (has m i) (a i k) 0) (joined_other i b d)
          ∙ either (outside_to n a (2 ^ k + m) i) (a i k) (outside_to n a m i) (has m i) (λ q. outside_join i)
          ∙ sym (ap (λ c. cond (has m i) (outside_to n a m i) 0 + cond c (outside_to n a (2 ^ k + m) k) 0) (ne_eqb k i d))

pub split_empty : (n : ℕ) (a : ℕ → ℕ → ℕ) → from_outside n a 0 ≡ 0
unfolding from_outside
split_empty n a =
    sum_zero n (λ i. cond (has 0 i) (sum n λ j. cond (has 0 j) 0 (a i j)) 0)
    (λ i h. ap (λ c. cond c (sum n λ j. cond (has 0 j) 0 (a i j)) 0) (has_none i))

-- ---- the laws: train k alone; a set m below 2 ^ b, and the trains b and k above it

module _ (n : ℕ) (a : ℕ → ℕ → ℕ) (k : ℕ) (l : k < n) where
  pub split_alone : from_outside n a (2 ^ k) + a k k ≡ sum n (a k)
  unfolding outside_to outside_boxes inside_from
  split_alone =
      let all : outside_to n a 0 k ≡ sum n (a k) = sum_ext n (outside_boxes a 0 k) (a k) (λ j h. ap (λ c. cond c 0 (a k j)) (has_none j)) in
      let none : inside_from n a 0 k ≡ 0 = sum_zero n (λ i. cond (has 0 i) (a i k) 0) (λ i h. ap (λ c. cond c (a i k) 0) (has_none i)) in
      let one = ap (from_outside n a) (add-zero (2 ^ k)) in
      omega (arith, split_join n a k 0 l (pow_pos k), outside_join n a k 0 l (pow_pos k) k, split_empty n a)

  pub split_pair : (b m : ℕ) → b < k → m < 2 ^ b
      → from_outside n a (2 ^ k + (2 ^ b + m)) + (from_outside n a m + (a k b + a b k)) ≡ from_outside n a (2 ^ b + m) + from_outside n a (2 ^ k + m)
  split_pair b m q h =
      let both : 2 ^ b + m < 2 ^ k = omega (arith, pow-suc 2 b, pow_mono {i = suc b} {j = k} q) in
      let less : m < 2 ^ k = omega arith in
      omega (
        arith,
        split_join n a k (2 ^ b + m) l both,
        split_join n a k m l less,
        inside_join n a b m (omega arith) h k,
        outside_join n a k (2 ^ b + m) l both k,
        outside_join n a k m l less k,
        outside_join n a b m (omega arith) h k,
      )

  -- with train k a set has no more split moves than without it and train k alone together
  pub split_grows : (m : ℕ) → m < 2 ^ k → from_outside n a (2 ^ k + m) ≤ from_outside n a m + from_outside n a (2 ^ k)
  unfolding outside_to outside_boxes inside_from
  split_grows m h =
      let fewer : outside_to n a m k ≤ outside_to n a 0 k =
      sum_le n (outside_boxes a m k) (outside_boxes a 0 k)
      (λ j q. cond_le (has m j) 0 (a k j) (cond (has 0 j) 0 (a k j)) (omega arith) (let e = ap (λ c. cond c 0 (a k j)) (has_none j) in omega (arith, e))) in
      let none : inside_from n a 0 k ≡ 0 = sum_zero n (λ i. cond (has 0 i) (a i k) 0) (λ i q. ap (λ c. cond c (a i k) 0) (has_none i)) in
      let one = ap (from_outside n a) (add-zero (2 ^ k)) in
      omega (
        arith,
        split_join n a k m l h,
        outside_join n a k m l h k,
        split_join n a k 0 l (pow_pos k),
        outside_join n a k 0 l (pow_pos k) k,
        split_empty n a,
      )

-- where each train receives at most 255 boxes from each of 12
pub split_most : (n : ℕ) (a : ℕ → ℕ → ℕ) (s : ℕ) → n ≤ 12 → ((i j : ℕ) → a i j ≤ 255) → from_outside n a s ≤ 36720
unfolding from_outside
split_most n a s few byte =
    let each : (i : ℕ) → sum n (λ j. cond (has s j) 0 (a i j)) ≤ 3060 =
    λ i. le_trans (sum_bound n 255 (λ j. cond (has s j) 0 (a i j)) (λ j l. cond_le (has s j) 0 (a i j) 255 (omega arith) (byte i j))) (omega arith) in
    le_trans
    (sum_bound n 3060 (λ i. cond (has s i) (sum n λ j. cond (has s j) 0 (a i j)) 0)
    (λ i l. cond_le (has s i) (sum n λ j. cond (has s j) 0 (a i j)) 0 3060 (each i) (omega arith))) (omega arith)
