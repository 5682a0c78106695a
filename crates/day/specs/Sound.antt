-- Sound days: the limits of document 01's day file, as data, and the test that a day record keeps them. (01: a record is sound if
-- some day file reads to it; unused positions hold 0.) Stated over plain data and any limits.
-- Assumes nothing.
use Rattle.std.specs.Prelude.{Bool, true, false, not, cond, ◌&&◌, List, [], ◌∷◌, ℕ, zero, suc, ◌*◌, ltb, leb, eqb, length, get_or, replicate}
use Rattle.fold.specs.Fold.{each}
use Rattle.model.specs.Model.{Yard, cell, group_of}
use Rattle.day.specs.declared.Day.{Day}
use Rattle.day.specs.declared.Head.{Head}
use Rattle.day.specs.declared.Limits.{Limits}

-- ---- the limits of 01, the greatest values of each field; the least is 1, and 0 for a weight. Train numbers: order 2 of 02; groups: order 4
abbrev pub day_limits : Limits
day_limits = record { trains = 12; tracks = 12; slots = 8; weight = 65535; number = 99999; boxes = 255; groups = 12 }

-- ---- the record as plain data: its head, four columns, and a table of boxes of some width

abbrev pub head_of : Day → Head
head_of d = record { trains = d.trains; tracks = d.tracks; slots = d.slots; revisit = d.revisit; split = d.split }

abbrev pub day_from : Head → List ℕ → List ℕ → List ℕ → List ℕ → ℕ → List ℕ → Yard
day_from h numbers first last groups width boxes = record {
  trains = h.trains;
  tracks = h.tracks;
  slots = h.slots;
  revisit = h.revisit;
  split = h.split;
  numbers = numbers;
  first = first;
  last = last;
  groups = groups;
  width = width;
  boxes = boxes;
}

abbrev pub yard : Day → Yard
yard d = day_from (head_of d) d.numbers d.first d.last d.groups 12 d.boxes

-- a record of zeros, which a call that is refused gives beside the refusal
abbrev pub zero_day : Limits → Yard
zero_day l = record {
  trains = 0;
  tracks = 0;
  slots = 0;
  revisit = 0;
  split = 0;
  numbers = replicate l.trains 0;
  first = replicate l.trains 0;
  last = replicate l.trains 0;
  groups = replicate l.trains 0;
  width = l.trains;
  boxes = replicate (l.trains * l.trains) 0;
}

-- ---- the fields of a row and their ranges, 01's table of the day file

pub record Range : Type 0 where
  pub least : ℕ
  pub greatest : ℕ

abbrev pub range : ℕ → ℕ → Range
range least greatest = record { least = least; greatest = greatest }

abbrev pub between : Range → ℕ → Bool
between r x = leb r.least x && leb x r.greatest

-- the values of a row lie in their ranges
unfoldable pub within : List Range → List ℕ → Bool
within [] values = true
within (r ∷ ranges) [] = false
within (r ∷ ranges) (v ∷ values) = between r v && within ranges values

-- `trains tracks slots revisit split`
unfoldable pub head_ranges : Limits → List Range
head_ranges l = range 1 l.trains ∷ range 1 l.tracks ∷ range 1 l.slots ∷ range 0 l.weight ∷ range 0 l.weight ∷ []

-- `train first last`, of a day of T slots
unfoldable pub train_ranges : Limits → ℕ → List Range
train_ranges l slots = range 1 l.number ∷ range 1 slots ∷ range 1 slots ∷ []

-- `to from boxes`
unfoldable pub move_ranges : Limits → List Range
move_ranges l = range 1 l.number ∷ range 1 l.number ∷ range 1 l.boxes ∷ []

-- `group train`, order 4 of 02
unfoldable pub group_ranges : Limits → List Range
group_ranges l = range 1 l.groups ∷ range 1 l.number ∷ []

-- ---- a record's rows of the first two sections

abbrev pub head_row : Yard → List ℕ
head_row y = y.trains ∷ y.tracks ∷ y.slots ∷ y.revisit ∷ y.split ∷ []

abbrev pub train_row : List ℕ → List ℕ → List ℕ → ℕ → List ℕ
train_row numbers first last i = get_or numbers i 0 ∷ get_or first i 0 ∷ get_or last i 0 ∷ []

-- ---- the positions

-- the train number before position i, 0 before the first
unfoldable pub number_before : List ℕ → ℕ → ℕ
number_before numbers zero = 0
number_before numbers (suc i) = get_or numbers i 0

-- position i of a train: its fields lie in their ranges, its number rises, its window is in order
unfoldable pub train_sound : Limits → ℕ → List ℕ → List ℕ → List ℕ → ℕ → Bool
train_sound l slots numbers first last i =
    within (train_ranges l slots) (train_row numbers first last i)
    && ltb (number_before numbers i) (get_or numbers i 0) && leb (get_or first i 0) (get_or last i 0)

-- position i holds no train
unfoldable pub unused : List ℕ → List ℕ → List ℕ → ℕ → Bool
unused numbers first last i = eqb (get_or numbers i 0) 0 && eqb (get_or first i 0) 0 && eqb (get_or last i 0) 0

unfoldable pub position_sound : Limits → ℕ → ℕ → List ℕ → List ℕ → List ℕ → ℕ → Bool
position_sound l n slots numbers first last i =
    cond (ltb i n) (train_sound l slots numbers first last i) (unused numbers first last i)

-- position i is in no group or in one of the limits' numbers, and in none where it holds no train
unfoldable pub group_sound : Limits → ℕ → List ℕ → ℕ → Bool
group_sound l n groups i = cond (ltb i n) (leb (group_of groups i) l.groups) (eqb (group_of groups i) 0)

-- ---- the boxes

-- boxes pass between two different trains, and keep their limit
unfoldable pub pair_sound : Limits → ℕ → ℕ → List ℕ → ℕ → ℕ → Bool
pair_sound l n width boxes i j =
    cond (ltb i n && ltb j n && not (eqb i j)) (leb (cell width boxes i j) l.boxes) (eqb (cell width boxes i j) 0)

unfoldable pub receiver_sound : Limits → ℕ → ℕ → List ℕ → ℕ → Bool
receiver_sound l n width boxes i = each l.trains (pair_sound l n width boxes i)

-- ---- the record

-- the record has a place for each train that the limits allow, and a table of boxes between them
unfoldable pub shaped : Limits → Yard → Bool
shaped l y =
    eqb y.width l.trains && eqb (length y.numbers) l.trains && eqb (length y.first) l.trains
    && eqb (length y.last) l.trains && eqb (length y.groups) l.trains && eqb (length y.boxes) (l.trains * l.trains)

unfoldable pub sound : Limits → Yard → Bool
sound l y =
    shaped l y
    && within (head_ranges l) (head_row y)
    && each l.trains (position_sound l y.trains y.slots y.numbers y.first y.last)
    && each l.trains (receiver_sound l y.trains y.width y.boxes)
    && each l.trains (group_sound l y.trains y.groups)
