-- The trains with a supplier in a set: the sets with train k highest come from those below. With the loop that fills the table.
-- Assumes nothing.
use Rattle.std.specs.Prelude.{◌≡◌, refl, cond, ◌&&◌, ◌||◌, List, ◌⊎◌, ◌≢◌, T, eqb, length, set}
use Rattle.std.proofs.Math.Path.{sym}
use Rattle.std.proofs.Common.{ap, ap₂, ◌∙◌, subst, inl, inr, ⊎_elim, pow-suc, one-mul, arith, eqb→eq, pow_mono, eq-eqb, ne_eqb}
use Rattle.std.proofs.Math.Bool.{Bool}
use Prim.Native.Nat.{ℕ, suc, ◌+◌, ◌*◌, ◌%◌, ◌^◌, ◌≤◌, ◌<◌}
use Rattle.std.proofs.lemmas.Nat.{shl_whole}
use Rattle.std.specs.Int.Bits.{bit_or, or_shifted_r}
use Rattle.fold.specs.Test.{of_true, of_false, same_test_lem, both, both_of, left, right, either_of}
use Rattle.fold.specs.Fold.{some, some_at, some_of, none_i}
use Rattle.fold.specs.Sums.{sum_ext, sum_only}
use Rattle.fold.specs.Counting.{same_or}
use Rattle.sets.specs.Mask.{has, mask, has-mask, mask_ext, mask-has, mask_or, mask_empty}
use Rattle.model.specs.Model.{supplies}
use Rattle.sets.specs.Rest.{has_none}
use Rattle.staging.specs.Tables.{needing}
use Rattle.tables.specs.Entries.{receivers}
use Rattle.tables.specs.Filled.{Filled, filled_none, filled_next}
use Rattle.tables.specs.Doubled.{Doubled, train-added}

-- ---- a set m below 2 ^ k, and the train k: its digits

mask_unit : (n k : ℕ) → k < n → mask n (eqb k) ≡ 2 ^ k
unfolding mask
mask_unit n k l =
    sum_ext n (λ i. cond (eqb k i) (2 ^ i) 0) (λ i. cond (eqb (suc k) (suc i)) (2 ^ k) 0) (λ i h. here i (same_or k i))
    ∙ sum_only n (suc k) (2 ^ k) (omega arith) l
  where
    here : (i : ℕ) → (k ≡ i) ⊎ (k ≢ i) → cond (eqb k i) (2 ^ i) 0 ≡ cond (eqb (suc k) (suc i)) (2 ^ k) 0
    here i (inl e) = ap₂ (λ c x. cond c (2 ^ x) 0) (eq-eqb k i e ∙ sym (eq-eqb (suc k) (suc i) (ap suc e))) (sym e)
    here i (inr d) = simp (ne_eqb k i d, ne_eqb (suc k) (suc i) (λ q. d (omega arith)))

pub has_join : (n k m j : ℕ) → k < n → m < 2 ^ k → j < n → has (2 ^ k + m) j ≡ (has m j || eqb k j)
has_join n k m j l h b =
    let small : m < 2 ^ n = omega (arith, pow_mono {i = k} {j = n} (omega arith)) in
    let e : 2 ^ k + m ≡ mask n (λ j. has m j || eqb k j) =
    sym (ap₂ bit_or (mask-has n m small) (mask_unit n k l ∙ sym (one-mul (2 ^ k))) ∙ or_shifted_r 1 k m h ∙ ap (λ x. x + m) (one-mul (2 ^ k)))
    ∙ mask_or n (has m) (eqb k) in
    ap (λ x. has x j) e ∙ has-mask n (λ j. has m j || eqb k j) j b

-- ---- needing: of no train; of a set and the train k

module _ (n : ℕ) (a : ℕ → ℕ → ℕ) where
  pub needing_empty : needing n a 0 ≡ 0
  unfolding needing
  needing_empty =
      mask_empty n (λ i. some n λ j. has 0 j && supplies a i j)
      (λ i h. none_i n (λ j. has 0 j && supplies a i j) (λ j l t. of_false (has_none j) (both_of (has 0 j) (supplies a i j) t).0))

  pub needing_join : (k m : ℕ) → k < n → m < 2 ^ k → needing n a (2 ^ k + m) ≡ bit_or (needing n a m) (receivers n a k)
  unfolding needing receivers
  needing_join k m l h =
      mask_ext n (λ i. some n (within (2 ^ k + m) i)) (λ i. some n (within m i) || supplies a i k)
      (λ i b. same_test_lem (some n (within (2 ^ k + m) i)) (some n (within m i) || supplies a i k) (to i) (from i))
      ∙ sym (mask_or n (λ i. some n (within m i)) (λ i. supplies a i k))
    where
      within : ℕ → ℕ → ℕ → Bool
      within s i j = has s j && supplies a i j

      to : (i : ℕ) → T (some n (within (2 ^ k + m) i)) → T (some n (within m i) || supplies a i k)
      to i t =
          let (j, b, w) = some_of n (within (2 ^ k + m) i) t in
          let (p, q) = both_of (has (2 ^ k + m) j) (supplies a i j) w in
          ⊎_elim
          (λ z. left (some n (within m i)) (supplies a i k) (some_at n (within m i) j b (both (has m j) (supplies a i j) z q)))
          (λ z. right (some n (within m i)) (supplies a i k) (subst (λ x. T (supplies a i x)) (sym (eqb→eq k j z)) q))
          (either_of (has m j) (eqb k j) (subst T (has_join n k m j l h b) p))

      joins : (i j : ℕ) → j < n → T (has m j || eqb k j) → T (supplies a i j) → T (some n (within (2 ^ k + m) i))
      joins i j b t q = some_at n (within (2 ^ k + m) i) j b (both (has (2 ^ k + m) j) (supplies a i j) (subst T (sym (has_join n k m j l h b)) t) q)

      from : (i : ℕ) → T (some n (within m i) || supplies a i k) → T (some n (within (2 ^ k + m) i))
      from i t =
          ⊎_elim
          (λ z.
          let (j, b, w) = some_of n (within m i) z in
          let (p, q) = both_of (has m j) (supplies a i j) w in
          joins i j b (left (has m j) (eqb k j) p) q)
          (λ z. joins i k l (right (has m k) (eqb k k) (of_true (eq-eqb k k refl))) z)
          (either_of (some n (within m i)) (supplies a i k) t)

-- ---- the loop that fills needing

module _ (n : ℕ) (a : ℕ → ℕ → ℕ) where
  -- the empty set alone
  pub needing_first : (b : List ℕ) → 0 < length b → Filled (needing n a) 1 b (set b 0 0)
  needing_first b l = filled_next 0 (filled_none (needing n a) b) l (sym (needing_empty n a))

  -- the sets of the first k trains, and with them those of the first k + 1
  pub needing-next : {R : ℕ → ℕ → Type 0} {b₀ b c : List ℕ} (k size more : ℕ) → Filled (needing n a) (2 ^ k) b₀ b → size ≡ 2 ^ k → k < n
      → more ≡ receivers n a k → Doubled R size size b c → ((x v : ℕ) → R x v → v ≡ bit_or x more) → Filled (needing n a) (2 ^ (k + 1)) b₀ c
  needing-next k size more h e l r d q =
      train-added k h e d (λ m v i p. q (needing n a m) v p ∙ ap (bit_or (needing n a m)) r ∙ sym (needing_join n a k m l i))

-- 2 ^ k sets of the first k trains, and as many with train k: no more than 2 ^ n, and that is at most 4096
pub sets_fit : (k n size : ℕ) → size ≡ 2 ^ k → k < n → n ≤ 12 → (size + size ≤ 2 ^ n) × (2 ^ n ≤ 4096)
sets_fit k n size e l m = omega (arith, pow-suc 2 k, pow_mono {i = suc k} {j = n} l, pow_mono {i = n} {j = 12} m)

-- the code's shift gives as many
pub sets_shifted : (k : ℕ) → k ≤ 12 → 1 * 2 ^ k % 2 ^ 64 ≡ 2 ^ k
sets_shifted k l = shl_whole 1 1 k 64 (omega arith) (omega arith) ∙ one-mul (2 ^ k)
