-- The earliest and the latest of the slots 1 to n that passes a test: what they say, and that nothing else does.
-- Assumes nothing.
use Rattle.std.specs.Prelude.{◌≡◌, refl, Bool, true, false, cond, Option, None, Some, MatchOption, T}
use Rattle.std.specs.Option.{unwrap_or}
use Rattle.std.proofs.Common.{subst, le_of_suc-le-suc}
use Rattle.std.proofs.Math.Logic.{⊎_elim}
use Prim.Native.Nat.{ℕ, zero, suc, ◌+◌, ◌≤◌, ◌<◌}
use native.Mathlib.Omega.{arith}
use Rattle.fold.specs.Test.{of_true, of_false}
use Rattle.fold.specs.Counting.{le_or_lt}
use Rattle.fold.specs.Fold.{lowest_le, lowest-passes, lowest-before}
use Rattle.slot_times.specs.Slots.{earliest_slot, latest_slot}

-- ---- the earliest

module _ (n : ℕ) (p : ℕ → Bool) where
  pub earliest_from : 1 ≤ earliest_slot n p
  unfolding earliest_slot
  earliest_from = omega arith

  pub earliest_passes : earliest_slot n p ≤ n → T (p (earliest_slot n p))
  unfolding earliest_slot
  earliest_passes h = lowest-passes n (λ j. p (suc j)) h

  pub earliest_least : (k : ℕ) → 1 ≤ k → T (p k) → earliest_slot n p ≤ k
  unfolding earliest_slot
  earliest_least zero l t = absurd (omega arith)
  earliest_least (suc j) l t =
      ⊎_elim (λ (h : earliest_slot n p ≤ suc j). h) (λ (h : suc j < earliest_slot n p). absurd (lowest-before n (λ j. p (suc j)) j (le_of_suc-le-suc h) t))
      (le_or_lt (earliest_slot n p) (suc j))

  -- a loop that stops at the first slot that passes, or past the last
  pub is_earliest : (k : ℕ) → 1 ≤ k → k ≤ n + 1 → ((j : ℕ) → 1 ≤ j → j < k → T (p j) → ⊥) → (k ≤ n → T (p k)) → k ≡ earliest_slot n p
  is_earliest k l h before here =
      ⊎_elim
      (λ (up : k ≤ earliest_slot n p).
      ⊎_elim (λ (inside : k ≤ n). omega (arith, earliest_least k l (here inside))) (λ (past : n < k). omega (arith, at_most)) (le_or_lt k n))
      (λ (down : earliest_slot n p < k). absurd (before (earliest_slot n p) earliest_from down (earliest_passes (omega arith))))
      (le_or_lt k (earliest_slot n p))
    where
      at_most : earliest_slot n p ≤ n + 1
      at_most = unfold earliest_slot in omega (arith, lowest_le n (λ j. p (suc j)))

-- ---- the latest

pub latest_most : (n : ℕ) (p : ℕ → Bool) → latest_slot n p ≤ n
unfolding latest_slot
latest_most zero p = omega arith
latest_most (suc n) p = go (p (suc n)) (latest_most n p)
  where
    go : (b : Bool) → latest_slot n p ≤ n → cond b (suc n) (latest_slot n p) ≤ suc n
    go true h = omega arith
    go false h = omega arith

pub latest_passes : (n : ℕ) (p : ℕ → Bool) → 1 ≤ latest_slot n p → T (p (latest_slot n p))
unfolding latest_slot
latest_passes zero p h = absurd (omega arith)
latest_passes (suc n) p h = go (p (suc n)) refl h (latest_passes n p)
  where
    go : (b : Bool) → p (suc n) ≡ b → 1 ≤ cond b (suc n) (latest_slot n p) → (1 ≤ latest_slot n p → T (p (latest_slot n p))) → T (p (cond b (suc n) (latest_slot n p)))
    go true here l before = of_true here
    go false here l before = before l

pub latest_last : (n : ℕ) (p : ℕ → Bool) (k : ℕ) → k ≤ n → T (p k) → k ≤ latest_slot n p
unfolding latest_slot
latest_last zero p k h t = h
latest_last (suc n) p k h t = go (p (suc n)) refl (latest_last n p k)
  where
    go : (b : Bool) → p (suc n) ≡ b → (k ≤ n → T (p k) → k ≤ latest_slot n p) → k ≤ cond b (suc n) (latest_slot n p)
    go true here below = h
    go false here below =
        ⊎_elim (λ (l : k ≤ n). below l t) (λ (l : n < k). let same : k ≡ suc n = omega arith in absurd (of_false here (subst (λ i. T (p i)) same t))) (le_or_lt k n)

-- a loop that comes down from the last slot and stops at the first that passes, or at 0
pub is_latest : (n : ℕ) (p : ℕ → Bool) (k : ℕ) → k ≤ n → ((j : ℕ) → k < j → j ≤ n → T (p j) → ⊥) → (1 ≤ k → T (p k)) → k ≡ latest_slot n p
is_latest n p k h after here =
    ⊎_elim
    (λ (down : latest_slot n p ≤ k).
    ⊎_elim (λ (none : k ≤ 0). omega arith) (λ (inside : 0 < k). omega (arith, latest_last n p k h (here inside))) (le_or_lt k 0))
    (λ (up : k < latest_slot n p). absurd (after (latest_slot n p) up (latest_most n p) (latest_passes n p (omega arith))))
    (le_or_lt (latest_slot n p) k)

-- ---- what a search up from the first slot finds, and one down from the last

pub earliest_found : (n : ℕ) (p : ℕ → Bool) (r : Option ℕ)
    → MatchOption r ((k : ℕ) → 1 ≤ k → k < n + 1 → p k ≡ false) (λ i. (1 ≤ i) × (i < n + 1) × (p i ≡ true) × ((k : ℕ) → 1 ≤ k → k < i → p k ≡ false))
    → unwrap_or r (n + 1) ≡ earliest_slot n p
earliest_found n p None none = is_earliest n p (n + 1) (omega arith) (omega arith) (λ j l h. of_false (none j l h)) (λ h. absurd (omega arith))
earliest_found n p (Some i) (from, to, here, before) = is_earliest n p i from (omega arith) (λ j l h. of_false (before j l h)) (λ h. of_true here)

pub latest_found : (n : ℕ) (p : ℕ → Bool) (r : Option ℕ)
    → MatchOption r ((k : ℕ) → 1 ≤ k → k < n + 1 → p k ≡ false) (λ i. (1 ≤ i) × (i < n + 1) × (p i ≡ true) × ((k : ℕ) → i < k → k < n + 1 → p k ≡ false))
    → unwrap_or r 0 ≡ latest_slot n p
latest_found n p None none = is_latest n p 0 (omega arith) (λ j l h. of_false (none j (omega arith) (omega arith))) (λ h. absurd (omega arith))
latest_found n p (Some i) (from, to, here, after) = is_latest n p i (omega arith) (λ j l h. of_false (after j l (omega arith))) (λ h. of_true here)
