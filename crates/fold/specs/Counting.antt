-- Counts compared: what a count is at most, and how it changes where one index changes. A test's facts are stated as `T (p i)`.
-- Assumes nothing.
use Rattle.std.specs.Prelude.{◌≡◌, ◌⊎◌, ◌≢◌, Bool, true, false}
use Rattle.std.proofs.Math.Path.{refl}
use Rattle.std.proofs.Common.{subst, inl, inr, ⊎_elim, le_of_suc-le-suc, eq-or-lt_of_le}
use Prim.Native.Nat.{ℕ, zero, suc, ◌+◌, ◌≤◌, ◌<◌, zero-le}
use Rattle.std.proofs.Math.Decide.{ℕ_discrete, dec_le}
use native.Mathlib.Omega.{arith}
use Rattle.std.proofs.Math.Dec.{T}
use Rattle.fold.specs.Fold.{bit, sum, count, below_suc}

-- ---- two numbers

pub same_or : (i j : ℕ) → (i ≡ j) ⊎ (i ≢ j)
same_or i j = elim (ℕ_discrete i j) [ yes e ↦ inl e | no h ↦ inr h ]

pub le_or_lt : (i j : ℕ) → (i ≤ j) ⊎ (j < i)
le_or_lt i j = elim (dec_le i j) [ yes e ↦ inl e | no h ↦ inr (omega arith) ]

-- ---- one test's number

pub bit_yes : (b : Bool) → T b → bit b ≡ 1
bit_yes true t = refl
bit_yes false t = absurd t

pub bit_no : (b : Bool) → (T b → ⊥) → bit b ≡ 0
bit_no true h = absurd (h tt)
bit_no false h = refl

pub bit_le : (b : Bool) → bit b ≤ 1
bit_le true = omega arith
bit_le false = omega arith

bit_imp : (b c : Bool) → (T b → T c) → bit b ≤ bit c
bit_imp true c h = omega (arith, bit_yes c (h tt))
bit_imp false c h = zero-le

bit_or : (b c d : Bool) → (T b → T c ⊎ T d) → bit b ≤ bit c + bit d
bit_or true c d h = ⊎_elim (λ t. omega (arith, bit_yes c t)) (λ t. omega (arith, bit_yes d t)) (h tt)
bit_or false c d h = zero-le

-- ---- counts

module _ (p : ℕ → Bool) where
  pub count_suc : (k : ℕ) → count (suc k) p ≡ count k p + bit (p k)
  unfolding count sum
  count_suc k = refl

  pub count-bound : (k : ℕ) → count k p ≤ k
  unfolding count sum
  count-bound zero = zero-le
  count-bound (suc k) = omega (arith, count_suc k, count-bound k, bit_le (p k))

  pub count_zero : (k : ℕ) → ((i : ℕ) → i < k → T (p i) → ⊥) → count k p ≡ 0
  unfolding count sum
  count_zero zero h = refl
  count_zero (suc k) h = omega (arith, count_suc k, count_zero k (λ i l. h i (omega arith)), bit_no (p k) (h k (omega arith)))

  -- a count of 0 has no index that passes
  pub zero_count : (k : ℕ) → count k p ≤ 0 → (i : ℕ) → i < k → T (p i) → ⊥
  unfolding count sum
  zero_count zero h i l = omega arith
  zero_count (suc k) h i l =
      below_suc (λ (i : ℕ). T (p i) → ⊥) k (zero_count k (omega (arith, count_suc k))) (λ t. omega (arith, count_suc k, bit_yes (p k) t)) i l

-- q passes wherever p does
pub count_le : (p q : ℕ → Bool) (k : ℕ) → ((i : ℕ) → i < k → T (p i) → T (q i)) → count k p ≤ count k q
unfolding count sum
count_le p q zero h = zero-le
count_le p q (suc k) h =
    omega (arith, count_suc p k, count_suc q k, count_le p q k (λ i l. h i (omega arith)), bit_imp (p k) (q k) (h k (omega arith)))

-- q or r passes wherever p does
pub count_or : (p q r : ℕ → Bool) (k : ℕ) → ((i : ℕ) → i < k → T (p i) → T (q i) ⊎ T (r i)) → count k p ≤ count k q + count k r
unfolding count sum
count_or p q r zero h = zero-le
count_or p q r (suc k) h =
    omega (
      arith,
      count_suc p k,
      count_suc q k,
      count_suc r k,
      count_or p q r k (λ i l. h i (omega arith)),
      bit_or (p k) (q k) (r k) (h k (omega arith)),
    )

-- q passes at most where p does, and not at i, where p does: one less
pub count_less : (p q : ℕ → Bool) (k i : ℕ) → i < k → T (p i) → (T (q i) → ⊥) → ((j : ℕ) → j < k → j ≢ i → T (q j) → T (p j)) → suc (count k q) ≤ count k p
count_less p q zero i l yes-p no-q h = omega arith
count_less p q (suc k) i l yes-p no-q h =
    ⊎_elim
    (λ (e : i ≡ k). omega (
      arith,
      count_suc p k,
      count_suc q k,
      count_le q p k (λ j w. h j (omega arith) (omega arith)),
      bit_yes (p k) (subst (λ (x : ℕ). T (p x)) e yes-p),
      bit_no (q k) (subst (λ (x : ℕ). T (q x) → ⊥) e no-q),
    ))
    (λ (m : i < k). omega (
      arith,
      count_suc p k,
      count_suc q k,
      count_less p q k i m yes-p no-q (λ j w. h j (omega arith)),
      bit_imp (q k) (p k) (h k (omega arith) (omega arith)),
    ))
    (eq-or-lt_of_le (le_of_suc-le-suc l))

-- q passes at most where p does, but perhaps at i too: at most one more
pub count-more : (p q : ℕ → Bool) (k i : ℕ) → ((j : ℕ) → j < k → j ≢ i → T (q j) → T (p j)) → count k q ≤ suc (count k p)
unfolding count sum
count-more p q zero i h = zero-le
count-more p q (suc k) i h =
    ⊎_elim
    (λ (e : k ≡ i). omega (arith, count_suc p k, count_suc q k, count_le q p k (λ j w. h j (omega arith) (omega arith)), bit_le (q k)))
    (λ (d : k ≢ i). omega (arith, count_suc p k, count_suc q k, count-more p q k i (λ j w. h j (omega arith)), bit_imp (q k) (p k) (h k (omega arith) d)))
    (same_or k i)
