-- The entries of the tables: of n trains that receive a i j boxes from each other.
-- Assumes nothing.
use Rattle.std.specs.Prelude.{ℕ}
use Rattle.sets.specs.Mask.{mask}
use Rattle.model.specs.Model.{supplies}

-- the trains that receive from train k
unfoldable pub receivers : ℕ → (ℕ → ℕ → ℕ) → ℕ → ℕ
receivers n a k = mask n λ i. supplies a i k
