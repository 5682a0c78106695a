-- What is among the first values of a list.
-- Assumes nothing.
use Rattle.std.specs.Prelude.{refl, ℕ, zero, suc, ◌≤◌, take}
use Rattle.std.proofs.Common.{⊎_elim, arith}
use mathlib.Core.List.Memᴰ
use mathlib.Core.List.{List, [], ◌∷◌, Memᴰ}

module _ {X : Type 0} where
  pub take_of : (k : ℕ) (l : List X) (x : X) → Memᴰ x (take k l) → Memᴰ x l
  take_of zero l x at = absurd (Memᴰ.not-nil at)
  take_of (suc k) [] x at = absurd (Memᴰ.not-nil at)
  take_of (suc k) (z ∷ l) x at = ⊎_elim (λ q. Memᴰ.head q) (λ a. Memᴰ.tail (take_of k l x a)) (Memᴰ.cases_cons at)

  -- where the list has a value and one is taken, there is a first
  pub take-some : (k : ℕ) (l : List X) (x : X) → 1 ≤ k → Memᴰ x l → (z : X) × Memᴰ z (take k l)
  take-some zero l x h at = absurd (omega arith)
  take-some (suc k) [] x h at = absurd (Memᴰ.not-nil at)
  take-some (suc k) (z ∷ l) x h at = (z, Memᴰ.head refl)
