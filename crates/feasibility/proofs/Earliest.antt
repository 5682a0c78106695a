-- Laws of Earliest.antt of specs/.
-- Of the indices below n that pass a test, one with the least value, or there is none.
-- Assumes nothing.
use Rattle.std.specs.Prelude.{Bool, ◌&&◌, ◌⊎◌, ℕ, ◌≤◌, ◌<◌, T}
use Rattle.std.proofs.Math.Logic.{inl, inr, ⊎_elim}
use Rattle.std.proofs.Common.{arith, le→leb}
use Rattle.std.proofs.Math.Dec.{leb, leb→le}
use Rattle.fold.specs.Test.{both, both_of}
use Rattle.fold.specs.Fold.{some, some_at, some_of, lowest, lowest-passes, lowest-before}
use Rattle.fold.specs.Counting.{le_or_lt}
use Rattle.feasibility.specs.Earliest.{Earliest}

-- the values lie below m
module _ (n m : ℕ) (p : ℕ → Bool) (value : ℕ → ℕ) (small : (i : ℕ) → i < n → value i < m) where
  -- some index passes with a value up to v
  upto : ℕ → Bool
  upto v = some n λ i. p i && leb (value i) v

  upto_at : (i v : ℕ) → i < n → T (p i) → value i ≤ v → T (upto v)
  unfolding upto
  upto_at i v h t l = some_at n (λ i. p i && leb (value i) v) i h (both (p i) (leb (value i) v) t (le→leb (value i) v l))

  -- every index that passes has at least the lowest value
  not_below : (j : ℕ) → j < n → T (p j) → lowest m upto ≤ value j
  not_below j h t =
      ⊎_elim (λ (l : lowest m upto ≤ value j). l)
      (λ (l : value j < lowest m upto). absurd (lowest-before m upto (value j) l (upto_at j (value j) h t (omega arith))))
      (le_or_lt (lowest m upto) (value j))

  pub earliest : ((i : ℕ) → i < n → T (p i) → ⊥) ⊎ ((i : ℕ) × Earliest n p value i)
  unfolding upto
  earliest =
      ⊎_elim
      (λ (l : m ≤ lowest m upto). inl (λ i h t. omega (arith, small i h, not_below i h t)))
      (λ (l : lowest m upto < m).
      let (i, h, t) = some_of n (λ i. p i && leb (value i) (lowest m upto)) (lowest-passes m upto l) in
      let (passes, le) = both_of (p i) (leb (value i) (lowest m upto)) t in
      let few = leb→le (value i) (lowest m upto) le in
      inr (i, record { below = h; passes = passes; least = λ j k s. omega (arith, not_below j k s) }))
      (le_or_lt m (lowest m upto))
