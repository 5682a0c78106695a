-- Schedules: a list of sets, one for each stage, that uses up a set r. At stage t the set s may be chosen where it is a subset of what
-- remains, r, and passes the test `ok t r s`; it contributes `w t r s`. Test and contribution are any functions.
-- Schedules of equal value are compared by `Ahead`: at the lowest stage where they differ, the one with the larger set comes first.
-- Assumes nothing.
use Rattle.std.specs.Prelude.{◌≡◌, refl, Bool, List, [], ◌∷◌, ℕ, zero, suc, ◌+◌, ◌-◌, ◌≤◌, ◌<◌, T}
use Rattle.std.proofs.Common.{sym, ap, ap₂, ◌∙◌, subst, arith, le_of_suc-le-suc, le_antisymm}
use Rattle.fold.specs.Fold.{sum, below_suc}
use Rattle.fold.specs.Sums.{sum_ext, sum_cons}
use Rattle.fold.specs.Listed.{listed}
use Rattle.sets.specs.Subset.{Sub}

-- ---- definitions

-- of a stage, of what remains there and of the set that is chosen: a test and a contribution
abbrev pub Test : Type 0
Test = ℕ → ℕ → ℕ → Bool

abbrev pub Contribution : Type 0
Contribution = ℕ → ℕ → ℕ → ℕ

-- a schedule from stage t on, where r remains: after its last set nothing does
abbrev pub Schedule : Test → ℕ → ℕ → List ℕ → Type 0
Schedule ok t r [] = r ≡ 0
Schedule ok t r (s ∷ p) = Sub s r × T (ok t r s) × Schedule ok (suc t) (r - s) p

-- the sum of what its sets contribute
abbrev pub value : Contribution → ℕ → ℕ → List ℕ → ℕ
value w t r [] = 0
value w t r (s ∷ p) = value w (suc t) (r - s) p + w t r s

-- f comes first, or the two agree below k: at the lowest index where they differ f is the larger
abbrev pub Ahead : ℕ → (ℕ → ℕ) → (ℕ → ℕ) → Type 0
Ahead k f g = (t : ℕ) → t < k → ((u : ℕ) → u < t → f u ≡ g u) → g t ≤ f t
