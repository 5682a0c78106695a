-- Of the indices below n that pass a test, one with the least value, or there is none.
-- Assumes nothing.
use Rattle.std.specs.Prelude.{Bool, ◌&&◌, ◌⊎◌, ℕ, ◌≤◌, ◌<◌, T}
use Rattle.std.proofs.Math.Logic.{inl, inr, ⊎_elim}
use Rattle.std.proofs.Common.{arith, le→leb}
use Rattle.std.proofs.Math.Dec.{leb, leb→le}
use Rattle.fold.specs.Test.{both, both_of}
use Rattle.fold.specs.Fold.{some, some_at, some_of, lowest, lowest-passes, lowest-before}
use Rattle.fold.specs.Counting.{le_or_lt}

-- i passes, and no index that passes has a smaller value
pub record Earliest (n : ℕ) (p : ℕ → Bool) (value : ℕ → ℕ) (i : ℕ) : Type 0 where
  pub below : i < n
  pub passes : T (p i)
  pub least : (j : ℕ) → j < n → T (p j) → value i ≤ value j
