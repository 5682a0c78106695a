-- The lowest index below a bound that passes a test, or that none does.
-- Assumes nothing.
use Rattle.std.specs.Prelude.{◌≡◌, Bool, cond, ℕ, ◌⊎◌, ltb, ◌≤◌, ◌<◌, Option, Some, None}
use Rattle.std.proofs.Common.{ap, ◌∙◌, arith, inl, inr, lt-ltb, le-ltb}
use Rattle.fold.specs.Counting.{le_or_lt}
use Rattle.fold.specs.Fold.{lowest}

-- the lowest index below n that passes, where one does
unfoldable pub first_below : ℕ → (ℕ → Bool) → Option ℕ
first_below n p = cond (ltb (lowest n p) n) (Some (lowest n p)) None

pub first_below-is : (n : ℕ) (p : ℕ → Bool) (i : ℕ) → Some i ≡ first_below n p → (i ≡ lowest n p) × (i < n)
unfolding first_below
first_below-is n p i e = go (lowest n p) (le_or_lt n (lowest n p)) e
  where
    go : (k : ℕ) → (n ≤ k) ⊎ (k < n) → Some i ≡ cond (ltb k n) (Some k) None → (i ≡ k) × (i < n)
    go k (inl h) e = absurd (let q : ◌≡◌ {A = Option ℕ} (Some i) None = e ∙ ap (λ b. cond b (Some k) None) (le-ltb k n h) in let z : ◌≡◌ {A = ℕ} 0 1 = cc in omega arith)
    go k (inr h) e = let q : Some i ≡ Some k = e ∙ ap (λ b. cond b (Some k) None) (lt-ltb k n h) in let same : i ≡ k = cc in (same, rw same h)

pub first_below-none : (n : ℕ) (p : ℕ → Bool) → None ≡ first_below n p → n ≤ lowest n p
unfolding first_below
first_below-none n p e = go (lowest n p) (le_or_lt n (lowest n p)) e
  where
    go : (k : ℕ) → (n ≤ k) ⊎ (k < n) → None ≡ cond (ltb k n) (Some k) None → n ≤ k
    go k (inl h) e = h
    go k (inr h) e = absurd (let q : ◌≡◌ {A = Option ℕ} None (Some k) = e ∙ ap (λ b. cond b (Some k) None) (lt-ltb k n h) in let z : ◌≡◌ {A = ℕ} 0 1 = cc in omega arith)
