-- The procedures do not look at groups (order 4 of document 02 judges only their complete rows): with other groups the rows are the same.
-- Assumes nothing.
use Rattle.std.specs.Prelude.{◌≡◌, refl, List, ℕ}
use Rattle.model.specs.Model.{Yard}
use Rattle.procedures.specs.Procedures.{first_come, myopic}

-- the day with other groups
abbrev pub regrouped : List ℕ → Yard → Yard
regrouped groups y = record {
  trains = y.trains;
  tracks = y.tracks;
  slots = y.slots;
  revisit = y.revisit;
  split = y.split;
  numbers = y.numbers;
  first = y.first;
  last = y.last;
  groups = groups;
  width = y.width;
  boxes = y.boxes;
}

pub first_blind : (groups : List ℕ) (y : Yard) → first_come (regrouped groups y) ≡ first_come y
first_blind groups y = refl

pub myopic_blind : (groups : List ℕ) (y : Yard) → myopic (regrouped groups y) ≡ myopic y
myopic_blind groups y = refl
