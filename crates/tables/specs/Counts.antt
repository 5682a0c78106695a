-- How many trains a set has: the sets with train k highest come from those below. With the loop that fills the table.
-- Assumes nothing.
use Rattle.std.specs.Prelude.{◌≡◌, refl, List, ℕ, ◌+◌, ◌^◌, ◌<◌, length, set}
use Rattle.std.proofs.Common.{sym, ap, ◌∙◌, add_comm, one-mul}
use Rattle.std.specs.Int.Count.{ones}
use Rattle.std.proofs.lemmas.Nat.{ones_cat}
use Rattle.tables.specs.Filled.{Filled, filled_none, filled_next}
use Rattle.tables.specs.Doubled.{Doubled, train-added}

-- a set m below 2 ^ k, and the train k
ones_join : (k m : ℕ) → m < 2 ^ k → ones (2 ^ k + m) ≡ ones m + 1
unfolding ones
ones_join k m h = ap (λ x. ones (x + m)) (sym (one-mul (2 ^ k))) ∙ ones_cat k 1 m h ∙ add_comm 1 (ones m)

ones_empty : ones 0 ≡ 0
unfolding ones
ones_empty = refl

-- ---- the loop that fills the table: the empty set alone; the sets of the first k trains, and with them those of the first k + 1

pub count_first : (b : List ℕ) → 0 < length b → Filled ones 1 b (set b 0 0)
count_first b l = filled_next 0 (filled_none ones b) l (sym ones_empty)

pub count_next : {R : ℕ → ℕ → Type 0} {b₀ b c : List ℕ} (k size : ℕ) → Filled ones (2 ^ k) b₀ b → size ≡ 2 ^ k → Doubled R size size b c
    → ((m v : ℕ) → R m v → v ≡ m + 1) → Filled ones (2 ^ (k + 1)) b₀ c
count_next k size h e d r = train-added k h e d (λ m v q p. r (ones m) v p ∙ sym (ones_join k m q))
