-- The answer of the search for the first overbooked interval, and what its two loops know of the intervals passed.
-- Assumes nothing.
use Rattle.std.specs.Prelude.{◌≡◌, List, [], ℕ, ◌+◌, ◌≤◌, ◌<◌, T, Option, Some, None}
use Rattle.std.proofs.Math.Option.{none, some}
use Rattle.std.proofs.Common.{⊎_elim, arith}
use Rattle.fold.specs.Fold.{below_suc}
use Rattle.fold.specs.Counting.{le_or_lt}
use Rattle.model.specs.Model.{Yard, bound_inside, exceeds, overbooked}
use Rattle.model.specs.Overbooked.{first_overbooked, overbooked_from, overbooked_first, overbooked_last}
use Rattle.model.proofs.Overbooked.{overbooked-range, first_is}
use Rattle.feasibility.specs.declared.Overbooked.{Overbooked}

-- ---- the answer

-- the answer names the model's first overbooked interval of the day, with the number of trains bound inside, or there is none
abbrev pub Finds : Yard → Option Overbooked → Type 0
Finds y None = first_overbooked y ≡ none
Finds y (Some o) = (first_overbooked y ≡ some (record { first = o.first; last = o.last })) × (o.trains ≡ bound_inside y o.first o.last)

-- the day of which the search is given all that it needs: n trains with their windows, tracks and slots
abbrev pub windows_only : ℕ → ℕ → ℕ → List ℕ → List ℕ → Yard
windows_only n tracks slots first last = record {
  trains = n;
  tracks = tracks;
  slots = slots;
  revisit = 0;
  split = 0;
  numbers = [];
  first = first;
  last = last;
  groups = [];
  width = 0;
  boxes = [];
}

-- ---- the loops

module _ (y : Yard) where
  -- no interval that begins before slot a is overbooked; none that begins at a and ends before b is
  abbrev pub NoneBefore : ℕ → Type 0
  NoneBefore a = (x : ℕ) → x < a → (z : ℕ) → T (overbooked y x z) → ⊥

  abbrev pub NoneFrom : ℕ → ℕ → Type 0
  NoneFrom a b = (z : ℕ) → z < b → T (overbooked y a z) → ⊥
