-- The trains bound inside an interval, one train after another, and the test of an overbooked interval as statements: 1 ≤ a ≤ b ≤ T,
-- and more trains bound inside than its slots have tracks.
-- Assumes nothing.
use Rattle.std.specs.Prelude.{◌≡◌, Bool, ◌&&◌, List, ℕ, ◌+◌, ◌-◌, ◌*◌, ◌≤◌, ◌<◌, T, get_or}
use Rattle.std.proofs.Common.{⊎_elim, lt→ltb, le→leb}
use Rattle.std.proofs.Math.Dec.{leb, ltb→lt}
use Rattle.fold.specs.Test.{both, both_of}
use Rattle.fold.specs.Fold.{bit, count_next}
use Rattle.fold.specs.Counting.{le_or_lt}
use Rattle.model.specs.Model.{Yard, first_slot, last_slot, bound, bound_inside, exceeds, overbooked}

-- train i is bound inside a..b
abbrev pub is_bound : Yard → ℕ → ℕ → ℕ → Bool
is_bound y a b i = leb a (first_slot y i) && leb (last_slot y i) b

-- the windows of the trains lie in the day's slots
abbrev pub Windows : Yard → Type 0
Windows y = (i : ℕ) → i < y.trains → (1 ≤ first_slot y i) × (first_slot y i ≤ last_slot y i) × (last_slot y i ≤ y.slots)

-- no interval is overbooked
abbrev pub Spacious : Yard → Type 0
Spacious y = (a b : ℕ) → T (overbooked y a b) → ⊥

module _ (y : Yard) (a b : ℕ) where
  -- the tracks of the slots a..b
  abbrev pub places : ℕ
  places = y.tracks * (b - a + 1)
