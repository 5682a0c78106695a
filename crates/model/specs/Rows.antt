-- Fitting and allowed rows: the test as a record of statements, and the complete list of all rows of n slots in 1..m.
-- Assumes nothing.
use Rattle.std.specs.Prelude.{◌≡◌, Bool, ℕ, zero, suc, ◌≤◌, ◌<◌, eqb, length}
use mathlib.Core.List.{List, [], ◌∷◌, ◌++◌, map}
use Rattle.fold.specs.Fold.{each}
use Rattle.model.specs.Model.{Yard, first_slot, last_slot, slot_of, in_slots, in_window, load, roomy}

-- ---- what the test of a fitting row says

pub record Fitting (y : Yard) (row : List ℕ) : Type 0 where
  pub long : length row ≡ y.trains
  pub slotted : (i : ℕ) → i < y.trains → (1 ≤ slot_of row i) × (slot_of row i ≤ y.slots)
  pub windowed : (i : ℕ) → i < y.trains → (first_slot y i ≤ slot_of row i) × (slot_of row i ≤ last_slot y i)
  pub room : (t : ℕ) → t < y.slots → load y.trains row (suc t) ≤ y.tracks

module _ (y : Yard) (row : List ℕ) where
  -- a slot for each position; one of 1 to T, (2); in its window, (12); room in each slot, (3)
  abbrev pub long : Bool
  long = eqb (length row) y.trains

  abbrev pub slotted : Bool
  slotted = each y.trains (in_slots y.slots row)

  abbrev pub windowed : Bool
  windowed = each y.trains (in_window y.first y.last row)

  abbrev pub spacious : Bool
  spacious = each y.slots λ t. roomy y.trains y.tracks row (suc t)

-- ---- every row of n slots in 1..m, and that none is missing

unfoldable pub spread : ℕ → List (List ℕ) → List (List ℕ)
spread zero rows = []
spread (suc t) rows = map (λ r. suc t ∷ r) rows ++ spread t rows

unfoldable pub all_rows : ℕ → ℕ → List (List ℕ)
unfolding spread
all_rows zero m = [] ∷ []
all_rows (suc n) m = spread m (all_rows n m)
