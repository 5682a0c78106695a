-- The fullest long days: 36 trains with the greatest numbers, the greatest weights, 255 boxes from each train to each other one, and any
-- windows. They are sound, and reach the greatest sizes of the two files (Longest.antt; long_planfile's Reached.antt).
-- Assumes nothing.
use Rattle.std.specs.Prelude.{◌≡◌, refl, Bool, true, false, cond, List, ℕ, suc, ◌+◌, ◌*◌, ◌/◌, ◌%◌, ◌≤◌, ◌<◌, T, eqb, length, get_or, replicate}
use Rattle.std.proofs.Common.{sym, ap, ◌∙◌, ⊎_elim, eq-eqb}
use native.Mathlib.Omega.{arith}
use Rattle.std.proofs.lemmas.List.{length-replicate, get_or-replicate}
use Rattle.fold.specs.Listed.{listed, length-listed, listed_at}
use Rattle.model.specs.Model.{Yard, received}
use Rattle.day.specs.Sound.{sound}
use Rattle.day.specs.SoundDay.{day_sound}
use Rattle.long_day.specs.LongDay.{long_limits}

-- the boxes at place q of the table: none from a train to itself
unfoldable pub full_boxes : ℕ → ℕ
full_boxes q = cond (eqb (q / 36) (q % 36)) 0 255

abbrev pub full_numbers : List ℕ
full_numbers = listed 36 λ i. 99964 + i

abbrev pub full_day : List ℕ → List ℕ → Yard
full_day first last = record {
  trains = 36;
  tracks = 4;
  slots = 12;
  revisit = 65535;
  split = 65535;
  numbers = full_numbers;
  first = first;
  last = last;
  groups = replicate 36 0;
  width = 36;
  boxes = listed 1296 full_boxes;
}
