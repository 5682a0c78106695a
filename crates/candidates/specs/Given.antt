-- What the search is given: the numbers of a long day within the limits of order 9, and its tables by train. What a set of trains costs, of these.
-- Assumes nothing.
use Rattle.std.specs.Prelude.{◌≡◌, List, ℕ, ◌+◌, ◌-◌, ◌*◌, ◌≤◌, ◌<◌, length}
use Rattle.std.specs.Int.Bits.{bit_and}
use Rattle.std.specs.Int.Count.{ones}
use Rattle.fold.specs.Fold.{sum}
use Rattle.sets.specs.Rest.{full}
use Rattle.model.specs.Model.{Yard}
use Rattle.optimum.specs.Workspace.{at}
use Rattle.staging.specs.Tables.{needing, from_outside}
use Rattle.beam.specs.SlotCosts.{suppliers_of}
use Rattle.beam_tables.specs.declared.Boxes.{Boxes}
use Rattle.beam_tables.specs.Given.{AreGiven, received}
use Rattle.candidates.specs.declared.Sizes.{Sizes}
use Rattle.candidates.specs.declared.DayTables.{DayTables}

pub record Tables (t : DayTables) : Type 0 where
  pub given : AreGiven t.boxes
  pub all_is : t.sizes.all ≡ full t.boxes.trains
  pub few_tracks : t.sizes.tracks ≤ 4
  pub few_slots : t.sizes.slots ≤ 12
  pub light_revisit : t.sizes.revisit ≤ 65535
  pub light_split : t.sizes.split ≤ 65535
  pub suppliers_long : t.boxes.trains ≤ length t.suppliers.now
  pub incoming_long : t.boxes.trains ≤ length t.incoming.now
  pub suppliers_is : (i : ℕ) → i < t.boxes.trains → at t.suppliers.now i ≡ suppliers_of t.boxes.trains (received t.boxes) i
  pub incoming_is : (i : ℕ) → i < t.boxes.trains → at t.incoming.now i ≡ sum t.boxes.trains (received t.boxes i)
  pub incoming_low : (i : ℕ) → i < t.boxes.trains → at t.incoming.now i ≤ 9180

-- the trains of s with a supplier in what it leaves of r; and what s costs (10)
abbrev pub late_of : DayTables → ℕ → ℕ → ℕ
late_of t r s = ones (bit_and s (needing t.boxes.trains (received t.boxes) (r - s)))

abbrev pub price_of : DayTables → ℕ → ℕ → ℕ
price_of t r s = t.sizes.revisit * late_of t r s + t.sizes.split * from_outside t.boxes.trains (received t.boxes) s

-- ---- the day

-- the trains' numbers, groups and windows, of which only the windows are read
pub record Trains : Type 0 where
  pub numbers : List ℕ
  pub groups : List ℕ
  pub first : List ℕ
  pub last : List ℕ

abbrev pub yard_of : Sizes → Trains → Boxes → Yard
yard_of z d boxes = record {
  trains = boxes.trains;
  tracks = z.tracks;
  slots = z.slots;
  revisit = z.revisit;
  split = z.split;
  numbers = d.numbers;
  first = d.first;
  last = d.last;
  groups = d.groups;
  width = boxes.width;
  boxes = boxes.table.now;
}

abbrev pub yard_in : DayTables → Trains → Yard
yard_in t d = yard_of t.sizes d t.boxes
