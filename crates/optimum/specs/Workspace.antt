-- A workspace of which only the first N words are used: those behind them stay as they were. And what stands in it after a write.
-- Assumes nothing.
use Rattle.std.specs.Prelude.{◌≡◌, refl, ◌≢◌, List, ℕ, ◌<◌, length, get_or, set, drop}
use Rattle.std.proofs.Common.{sym, ◌∙◌, subst, ⊎_elim, length-set, get_or-set_same, get_or-set_other, drop-set-lt}
use Rattle.fold.specs.Counting.{same_or}

-- what stands at an index
abbrev pub at : List ℕ → ℕ → ℕ
at a i = get_or a i 0

-- a was a₀, and at most its first N words have changed
pub record Kept (N : ℕ) (a₀ a : List ℕ) : Type 0 where
  pub long : length a ≡ length a₀
  pub rest : drop N a ≡ drop N a₀
