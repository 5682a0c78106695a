-- Laws of Workspace.antt of specs/.
-- A workspace of which only the first N words are used: those behind them stay as they were. And what stands in it after a write.
-- Assumes nothing.
use Rattle.std.specs.Prelude.{◌≡◌, refl, ◌≢◌, List, ℕ, ◌<◌, length, get_or, set, drop}
use Rattle.std.proofs.Common.{sym, ◌∙◌, subst, ⊎_elim, length-set, get_or-set_same, get_or-set_other, drop-set-lt}
use Rattle.fold.specs.Counting.{same_or}
use Rattle.optimum.specs.Workspace.{at, Kept}

pub kept_here : (N : ℕ) (a : List ℕ) → Kept N a a
kept_here N a = record { long = refl; rest = refl }

module _ {N : ℕ} {a₀ a : List ℕ} where
  pub kept_then : {b : List ℕ} → Kept N a₀ a → Kept N a b → Kept N a₀ b
  kept_then h k = record { long = k.long ∙ h.long; rest = k.rest ∙ h.rest }

  pub kept_set : (x v : ℕ) → Kept N a₀ a → x < N → Kept N a₀ (set a x v)
  kept_set x v h l = record { long = length-set a x v ∙ h.long; rest = drop-set-lt N a x v l ∙ h.rest }

-- the word f x is written at x: f's values stand there, and wherever else they stood
pub set_at : (a : List ℕ) (x v : ℕ) (f : ℕ → ℕ) → x < length a → v ≡ f x → (i : ℕ) → (i ≢ x → at a i ≡ f i) → at (set a x v) i ≡ f i
set_at a x v f l e i h =
    ⊎_elim (λ (z : i ≡ x). subst (λ y. at (set a x v) y ≡ f y) (sym z) (get_or-set_same a x v 0 l ∙ e))
    (λ (z : i ≢ x). get_or-set_other a x i v 0 z ∙ h z) (same_or i x)
