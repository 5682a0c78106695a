-- Days written by hand, each with its trains, windows, groups and boxes, padded to a day record; and what they become, call by call, each
-- written out again.
-- Assumes nothing.
use Rattle.std.specs.Prelude.{List, [], ◌∷◌, ◌++◌, ℕ, suc, ◌-◌, ◌*◌, length, replicate}
use Rattle.fold.specs.Listed.{listed}
use Rattle.model.specs.Model.{Yard}
use Rattle.known_days.specs.Days.{padded}

-- A, a row for each train with the boxes that it receives from each
abbrev pub box_rows : List (List ℕ) → List ℕ
box_rows [] = []
box_rows (row ∷ rows) = padded row ++ box_rows rows

-- n trains, G tracks, T slots, two weights, train numbers, first slots, last slots, groups, rows of boxes
abbrev pub yard_of : ℕ → ℕ → ℕ → ℕ → ℕ → List ℕ → List ℕ → List ℕ → List ℕ → List (List ℕ) → Yard
yard_of n tracks slots revisit split numbers first last groups boxes = record {
  trains = n;
  tracks = tracks;
  slots = slots;
  revisit = revisit;
  split = split;
  numbers = padded numbers;
  first = padded first;
  last = padded last;
  groups = padded groups;
  width = 12;
  boxes = box_rows boxes ++ replicate (144 - 12 * length boxes) 0;
}

-- ---- days with no room for one more train

abbrev pub narrow : Yard
narrow = yard_of 3 1 3 1 1 (10 ∷ 20 ∷ 30 ∷ []) (1 ∷ 2 ∷ 2 ∷ []) (1 ∷ 3 ∷ 3 ∷ []) [] []

abbrev pub joint : Yard
joint =
    yard_of 3 2 2 1 1 (10 ∷ 20 ∷ 30 ∷ []) (1 ∷ 1 ∷ 1 ∷ []) (1 ∷ 2 ∷ 2 ∷ []) []
    ((0 ∷ 0 ∷ 0 ∷ []) ∷ (0 ∷ 0 ∷ 4 ∷ []) ∷ (0 ∷ 0 ∷ 0 ∷ []) ∷ [])

abbrev pub joint_with25 : Yard
joint_with25 =
    yard_of 4 2 2 1 1 (10 ∷ 20 ∷ 25 ∷ 30 ∷ []) (1 ∷ 1 ∷ 2 ∷ 1 ∷ []) (1 ∷ 2 ∷ 2 ∷ 2 ∷ []) []
    ((0 ∷ 0 ∷ 0 ∷ 0 ∷ []) ∷ (0 ∷ 0 ∷ 0 ∷ 4 ∷ []) ∷ (0 ∷ 0 ∷ 0 ∷ 0 ∷ []) ∷ (0 ∷ 0 ∷ 0 ∷ 0 ∷ []) ∷ [])

abbrev pub convoy : Yard
convoy = yard_of 3 2 3 1 1 (10 ∷ 20 ∷ 30 ∷ []) (2 ∷ 2 ∷ 1 ∷ []) (2 ∷ 3 ∷ 3 ∷ []) (0 ∷ 5 ∷ 5 ∷ []) []

abbrev pub convoy_with25 : Yard
convoy_with25 = yard_of 4 2 3 1 1 (10 ∷ 20 ∷ 25 ∷ 30 ∷ []) (2 ∷ 2 ∷ 2 ∷ 1 ∷ []) (2 ∷ 3 ∷ 3 ∷ 3 ∷ []) (0 ∷ 5 ∷ 0 ∷ 5 ∷ []) []

-- ---- one day and what it becomes; every pair of trains has another number of boxes, and 10 and 30 are group 3

abbrev pub busy : Yard
busy =
    yard_of 4 2 3 11 2 (10 ∷ 20 ∷ 30 ∷ 40 ∷ []) (1 ∷ 2 ∷ 1 ∷ 1 ∷ []) (3 ∷ 3 ∷ 2 ∷ 3 ∷ []) (3 ∷ 0 ∷ 3 ∷ 0 ∷ [])
    ((0 ∷ 39 ∷ 28 ∷ 29 ∷ []) ∷ (17 ∷ 0 ∷ 6 ∷ 37 ∷ []) ∷ (24 ∷ 7 ∷ 0 ∷ 2 ∷ []) ∷ (16 ∷ 27 ∷ 33 ∷ 0 ∷ []) ∷ [])

abbrev pub busy_with25 : Yard
busy_with25 =
    yard_of 5 2 3 11 2 (10 ∷ 20 ∷ 25 ∷ 30 ∷ 40 ∷ []) (1 ∷ 2 ∷ 1 ∷ 1 ∷ 1 ∷ []) (3 ∷ 3 ∷ 3 ∷ 2 ∷ 3 ∷ []) (3 ∷ 0 ∷ 0 ∷ 3 ∷ 0 ∷ [])
    ((0 ∷ 39 ∷ 0 ∷ 28 ∷ 29 ∷ []) ∷ (17 ∷ 0 ∷ 0 ∷ 6 ∷ 37 ∷ []) ∷ (0 ∷ 0 ∷ 0 ∷ 0 ∷ 0 ∷ []) ∷ (24 ∷ 7 ∷ 0 ∷ 0 ∷ 2 ∷ []) ∷ (16 ∷ 27 ∷ 0 ∷ 33 ∷ 0 ∷ []) ∷ [])

abbrev pub busy_to25 : Yard
busy_to25 =
    yard_of 5 2 3 11 2 (10 ∷ 20 ∷ 25 ∷ 30 ∷ 40 ∷ []) (1 ∷ 2 ∷ 1 ∷ 1 ∷ 1 ∷ []) (3 ∷ 3 ∷ 3 ∷ 2 ∷ 3 ∷ []) (3 ∷ 0 ∷ 0 ∷ 3 ∷ 0 ∷ [])
    ((0 ∷ 39 ∷ 0 ∷ 28 ∷ 29 ∷ []) ∷ (17 ∷ 0 ∷ 0 ∷ 6 ∷ 37 ∷ []) ∷ (0 ∷ 0 ∷ 0 ∷ 0 ∷ 98 ∷ []) ∷ (24 ∷ 7 ∷ 0 ∷ 0 ∷ 2 ∷ []) ∷ (16 ∷ 27 ∷ 0 ∷ 33 ∷ 0 ∷ []) ∷ [])

abbrev pub busy_from25 : Yard
busy_from25 =
    yard_of 5 2 3 11 2 (10 ∷ 20 ∷ 25 ∷ 30 ∷ 40 ∷ []) (1 ∷ 2 ∷ 1 ∷ 1 ∷ 1 ∷ []) (3 ∷ 3 ∷ 3 ∷ 2 ∷ 3 ∷ []) (3 ∷ 0 ∷ 0 ∷ 3 ∷ 0 ∷ [])
    ((0 ∷ 39 ∷ 0 ∷ 28 ∷ 29 ∷ []) ∷ (17 ∷ 0 ∷ 0 ∷ 6 ∷ 37 ∷ []) ∷ (0 ∷ 0 ∷ 0 ∷ 0 ∷ 98 ∷ []) ∷ (24 ∷ 7 ∷ 0 ∷ 0 ∷ 2 ∷ []) ∷ (16 ∷ 27 ∷ 72 ∷ 33 ∷ 0 ∷ []) ∷ [])

abbrev pub busy_without30 : Yard
busy_without30 =
    yard_of 4 2 3 11 2 (10 ∷ 20 ∷ 25 ∷ 40 ∷ []) (1 ∷ 2 ∷ 1 ∷ 1 ∷ []) (3 ∷ 3 ∷ 3 ∷ 3 ∷ []) (3 ∷ 0 ∷ 0 ∷ 0 ∷ [])
    ((0 ∷ 39 ∷ 0 ∷ 29 ∷ []) ∷ (17 ∷ 0 ∷ 0 ∷ 37 ∷ []) ∷ (0 ∷ 0 ∷ 0 ∷ 98 ∷ []) ∷ (16 ∷ 27 ∷ 72 ∷ 0 ∷ []) ∷ [])

abbrev pub busy_to10 : Yard
busy_to10 =
    yard_of 4 2 3 11 2 (10 ∷ 20 ∷ 25 ∷ 40 ∷ []) (1 ∷ 2 ∷ 1 ∷ 1 ∷ []) (3 ∷ 3 ∷ 3 ∷ 3 ∷ []) (3 ∷ 0 ∷ 0 ∷ 0 ∷ [])
    ((0 ∷ 39 ∷ 0 ∷ 73 ∷ []) ∷ (17 ∷ 0 ∷ 0 ∷ 37 ∷ []) ∷ (0 ∷ 0 ∷ 0 ∷ 98 ∷ []) ∷ (16 ∷ 27 ∷ 72 ∷ 0 ∷ []) ∷ [])

abbrev pub busy_with35 : Yard
busy_with35 =
    yard_of 5 2 3 11 2 (10 ∷ 20 ∷ 25 ∷ 35 ∷ 40 ∷ []) (1 ∷ 2 ∷ 1 ∷ 2 ∷ 1 ∷ []) (3 ∷ 3 ∷ 3 ∷ 3 ∷ 3 ∷ []) (3 ∷ 0 ∷ 0 ∷ 0 ∷ 0 ∷ [])
    ((0 ∷ 39 ∷ 0 ∷ 0 ∷ 73 ∷ []) ∷ (17 ∷ 0 ∷ 0 ∷ 0 ∷ 37 ∷ []) ∷ (0 ∷ 0 ∷ 0 ∷ 0 ∷ 98 ∷ []) ∷ (0 ∷ 0 ∷ 0 ∷ 0 ∷ 0 ∷ []) ∷ (16 ∷ 27 ∷ 72 ∷ 0 ∷ 0 ∷ []) ∷ [])

abbrev pub busy_to35 : Yard
busy_to35 =
    yard_of 5 2 3 11 2 (10 ∷ 20 ∷ 25 ∷ 35 ∷ 40 ∷ []) (1 ∷ 2 ∷ 1 ∷ 2 ∷ 1 ∷ []) (3 ∷ 3 ∷ 3 ∷ 3 ∷ 3 ∷ []) (3 ∷ 0 ∷ 0 ∷ 0 ∷ 0 ∷ [])
    ((0 ∷ 39 ∷ 0 ∷ 0 ∷ 73 ∷ []) ∷ (17 ∷ 0 ∷ 0 ∷ 0 ∷ 37 ∷ []) ∷ (0 ∷ 0 ∷ 0 ∷ 0 ∷ 98 ∷ []) ∷ (67 ∷ 0 ∷ 0 ∷ 0 ∷ 0 ∷ []) ∷ (16 ∷ 27 ∷ 72 ∷ 0 ∷ 0 ∷ []) ∷ [])

abbrev pub busy_to20 : Yard
busy_to20 =
    yard_of 5 2 3 11 2 (10 ∷ 20 ∷ 25 ∷ 35 ∷ 40 ∷ []) (1 ∷ 2 ∷ 1 ∷ 2 ∷ 1 ∷ []) (3 ∷ 3 ∷ 3 ∷ 3 ∷ 3 ∷ []) (3 ∷ 0 ∷ 0 ∷ 0 ∷ 0 ∷ [])
    ((0 ∷ 39 ∷ 0 ∷ 0 ∷ 73 ∷ []) ∷ (17 ∷ 0 ∷ 0 ∷ 89 ∷ 37 ∷ []) ∷ (0 ∷ 0 ∷ 0 ∷ 0 ∷ 98 ∷ []) ∷ (67 ∷ 0 ∷ 0 ∷ 0 ∷ 0 ∷ []) ∷ (16 ∷ 27 ∷ 72 ∷ 0 ∷ 0 ∷ []) ∷ [])

-- ---- for the refusals of each call; a day with one train; days with eleven and twelve

abbrev pub plain : Yard
plain =
    yard_of 3 2 3 2 1 (5 ∷ 700 ∷ 99999 ∷ []) (1 ∷ 1 ∷ 1 ∷ []) (2 ∷ 3 ∷ 3 ∷ []) []
    ((0 ∷ 3 ∷ 0 ∷ []) ∷ (0 ∷ 0 ∷ 0 ∷ []) ∷ (0 ∷ 5 ∷ 0 ∷ []) ∷ [])

abbrev pub plain_with1 : Yard
plain_with1 =
    yard_of 4 2 3 2 1 (1 ∷ 5 ∷ 700 ∷ 99999 ∷ []) (1 ∷ 1 ∷ 1 ∷ 1 ∷ []) (3 ∷ 2 ∷ 3 ∷ 3 ∷ []) []
    ((0 ∷ 0 ∷ 0 ∷ 0 ∷ []) ∷ (0 ∷ 0 ∷ 3 ∷ 0 ∷ []) ∷ (0 ∷ 0 ∷ 0 ∷ 0 ∷ []) ∷ (0 ∷ 0 ∷ 5 ∷ 0 ∷ []) ∷ [])

abbrev pub plain_for1 : Yard
plain_for1 =
    yard_of 3 2 3 2 1 (1 ∷ 5 ∷ 700 ∷ []) (1 ∷ 1 ∷ 1 ∷ []) (3 ∷ 2 ∷ 3 ∷ []) []
    ((0 ∷ 0 ∷ 0 ∷ []) ∷ (0 ∷ 0 ∷ 3 ∷ []) ∷ (0 ∷ 0 ∷ 0 ∷ []) ∷ [])

abbrev pub plain_without_last : Yard
plain_without_last =
    yard_of 2 2 3 2 1 (5 ∷ 700 ∷ []) (1 ∷ 1 ∷ []) (2 ∷ 3 ∷ []) []
    ((0 ∷ 3 ∷ []) ∷ (0 ∷ 0 ∷ []) ∷ [])

abbrev pub plain_with_last : Yard
plain_with_last =
    yard_of 3 2 3 2 1 (5 ∷ 700 ∷ 99999 ∷ []) (1 ∷ 1 ∷ 1 ∷ []) (2 ∷ 3 ∷ 3 ∷ []) []
    ((0 ∷ 3 ∷ 0 ∷ []) ∷ (0 ∷ 0 ∷ 0 ∷ []) ∷ (0 ∷ 0 ∷ 0 ∷ []) ∷ [])

abbrev pub plain_full : Yard
plain_full =
    yard_of 3 2 3 2 1 (5 ∷ 700 ∷ 99999 ∷ []) (1 ∷ 1 ∷ 1 ∷ []) (2 ∷ 3 ∷ 3 ∷ []) []
    ((0 ∷ 3 ∷ 0 ∷ []) ∷ (0 ∷ 0 ∷ 0 ∷ []) ∷ (0 ∷ 255 ∷ 0 ∷ []) ∷ [])

abbrev pub plain_with6 : Yard
plain_with6 =
    yard_of 4 2 3 2 1 (5 ∷ 6 ∷ 700 ∷ 99999 ∷ []) (1 ∷ 2 ∷ 1 ∷ 1 ∷ []) (2 ∷ 3 ∷ 3 ∷ 3 ∷ []) []
    ((0 ∷ 0 ∷ 3 ∷ 0 ∷ []) ∷ (0 ∷ 0 ∷ 0 ∷ 0 ∷ []) ∷ (0 ∷ 0 ∷ 0 ∷ 0 ∷ []) ∷ (0 ∷ 0 ∷ 5 ∷ 0 ∷ []) ∷ [])

abbrev pub plain_with7 : Yard
plain_with7 =
    yard_of 5 2 3 2 1 (5 ∷ 6 ∷ 7 ∷ 700 ∷ 99999 ∷ []) (1 ∷ 2 ∷ 3 ∷ 1 ∷ 1 ∷ []) (2 ∷ 3 ∷ 3 ∷ 3 ∷ 3 ∷ []) []
    ((0 ∷ 0 ∷ 0 ∷ 3 ∷ 0 ∷ []) ∷ (0 ∷ 0 ∷ 0 ∷ 0 ∷ 0 ∷ []) ∷ (0 ∷ 0 ∷ 0 ∷ 0 ∷ 0 ∷ []) ∷ (0 ∷ 0 ∷ 0 ∷ 0 ∷ 0 ∷ []) ∷ (0 ∷ 0 ∷ 0 ∷ 5 ∷ 0 ∷ []) ∷ [])

abbrev pub plain_served : Yard
plain_served =
    yard_of 4 2 3 2 1 (5 ∷ 6 ∷ 700 ∷ 99999 ∷ []) (1 ∷ 2 ∷ 1 ∷ 1 ∷ []) (2 ∷ 3 ∷ 3 ∷ 3 ∷ []) []
    ((0 ∷ 0 ∷ 3 ∷ 0 ∷ []) ∷ (0 ∷ 0 ∷ 0 ∷ 0 ∷ []) ∷ (0 ∷ 0 ∷ 0 ∷ 0 ∷ []) ∷ (9 ∷ 0 ∷ 5 ∷ 0 ∷ []) ∷ [])

abbrev pub solo : Yard
solo = yard_of 1 1 2 1 1 (10 ∷ []) (1 ∷ []) (2 ∷ []) [] []

abbrev pub solo_with20 : Yard
solo_with20 = yard_of 2 1 2 1 1 (10 ∷ 20 ∷ []) (1 ∷ 1 ∷ []) (2 ∷ 2 ∷ []) [] []

abbrev pub solo20 : Yard
solo20 = yard_of 1 1 2 1 1 (20 ∷ []) (1 ∷ []) (2 ∷ []) [] []

abbrev pub solo_with30 : Yard
solo_with30 = yard_of 2 1 2 1 1 (20 ∷ 30 ∷ []) (1 ∷ 1 ∷ []) (2 ∷ 2 ∷ []) [] []

abbrev pub solo30 : Yard
solo30 = yard_of 1 1 2 1 1 (30 ∷ []) (1 ∷ []) (2 ∷ []) [] []

abbrev pub eleven : Yard
eleven = yard_of 11 12 1 1 1 (listed 11 suc) (replicate 11 1) (replicate 11 1) [] []

abbrev pub twelve : Yard
twelve = yard_of 12 12 1 1 1 (listed 12 suc) (replicate 12 1) (replicate 12 1) [] []

-- ---- a group that loses its members

abbrev pub trio : Yard
trio =
    yard_of 4 3 3 1 1 (10 ∷ 20 ∷ 30 ∷ 40 ∷ []) (1 ∷ 1 ∷ 2 ∷ 1 ∷ []) (3 ∷ 3 ∷ 3 ∷ 3 ∷ []) (0 ∷ 7 ∷ 7 ∷ 7 ∷ [])
    ((0 ∷ 1 ∷ 2 ∷ 4 ∷ []) ∷ (8 ∷ 0 ∷ 0 ∷ 0 ∷ []) ∷ (0 ∷ 0 ∷ 0 ∷ 0 ∷ []) ∷ (16 ∷ 32 ∷ 0 ∷ 0 ∷ []) ∷ [])

abbrev pub trio_without30 : Yard
trio_without30 =
    yard_of 3 3 3 1 1 (10 ∷ 20 ∷ 40 ∷ []) (1 ∷ 1 ∷ 1 ∷ []) (3 ∷ 3 ∷ 3 ∷ []) (0 ∷ 7 ∷ 7 ∷ [])
    ((0 ∷ 1 ∷ 4 ∷ []) ∷ (8 ∷ 0 ∷ 0 ∷ []) ∷ (16 ∷ 32 ∷ 0 ∷ []) ∷ [])

abbrev pub trio_one : Yard
trio_one =
    yard_of 2 3 3 1 1 (10 ∷ 40 ∷ []) (1 ∷ 1 ∷ []) (3 ∷ 3 ∷ []) (0 ∷ 7 ∷ [])
    ((0 ∷ 4 ∷ []) ∷ (16 ∷ 0 ∷ []) ∷ [])

abbrev pub trio_with20 : Yard
trio_with20 =
    yard_of 3 3 3 1 1 (10 ∷ 20 ∷ 40 ∷ []) (1 ∷ 1 ∷ 1 ∷ []) (3 ∷ 3 ∷ 3 ∷ []) (0 ∷ 0 ∷ 7 ∷ [])
    ((0 ∷ 0 ∷ 4 ∷ []) ∷ (0 ∷ 0 ∷ 0 ∷ []) ∷ (16 ∷ 0 ∷ 0 ∷ []) ∷ [])

abbrev pub trio_again : Yard
trio_again =
    yard_of 4 3 3 1 1 (10 ∷ 20 ∷ 30 ∷ 40 ∷ []) (1 ∷ 1 ∷ 2 ∷ 1 ∷ []) (3 ∷ 3 ∷ 3 ∷ 3 ∷ []) (0 ∷ 0 ∷ 0 ∷ 7 ∷ [])
    ((0 ∷ 0 ∷ 0 ∷ 4 ∷ []) ∷ (0 ∷ 0 ∷ 0 ∷ 0 ∷ []) ∷ (0 ∷ 0 ∷ 0 ∷ 0 ∷ []) ∷ (16 ∷ 0 ∷ 0 ∷ 0 ∷ []) ∷ [])

-- ---- days without boxes: set numbers decide

abbrev pub even : Yard
even = yard_of 2 1 3 1 1 (10 ∷ 30 ∷ []) (1 ∷ 1 ∷ []) (3 ∷ 3 ∷ []) [] []

abbrev pub even_with20 : Yard
even_with20 = yard_of 3 1 3 1 1 (10 ∷ 20 ∷ 30 ∷ []) (1 ∷ 1 ∷ 1 ∷ []) (3 ∷ 3 ∷ 3 ∷ []) [] []

abbrev pub even20 : Yard
even20 = yard_of 2 1 3 1 1 (20 ∷ 30 ∷ []) (1 ∷ 1 ∷ []) (3 ∷ 3 ∷ []) [] []

abbrev pub even_with40 : Yard
even_with40 = yard_of 3 1 3 1 1 (20 ∷ 30 ∷ 40 ∷ []) (1 ∷ 1 ∷ 1 ∷ []) (3 ∷ 3 ∷ 3 ∷ []) [] []

abbrev pub level : Yard
level = yard_of 4 2 3 1 1 (10 ∷ 20 ∷ 30 ∷ 40 ∷ []) (1 ∷ 1 ∷ 1 ∷ 1 ∷ []) (3 ∷ 3 ∷ 3 ∷ 3 ∷ []) [] []

abbrev pub level_without20 : Yard
level_without20 = yard_of 3 2 3 1 1 (10 ∷ 30 ∷ 40 ∷ []) (1 ∷ 1 ∷ 1 ∷ []) (3 ∷ 3 ∷ 3 ∷ []) [] []

abbrev pub level_with15 : Yard
level_with15 = yard_of 4 2 3 1 1 (10 ∷ 15 ∷ 30 ∷ 40 ∷ []) (1 ∷ 2 ∷ 1 ∷ 1 ∷ []) (3 ∷ 3 ∷ 3 ∷ 3 ∷ []) [] []

abbrev pub level_with12 : Yard
level_with12 = yard_of 5 2 3 1 1 (10 ∷ 12 ∷ 15 ∷ 30 ∷ 40 ∷ []) (1 ∷ 2 ∷ 2 ∷ 1 ∷ 1 ∷ []) (3 ∷ 3 ∷ 3 ∷ 3 ∷ 3 ∷ []) [] []

abbrev pub level_without10 : Yard
level_without10 = yard_of 4 2 3 1 1 (12 ∷ 15 ∷ 30 ∷ 40 ∷ []) (2 ∷ 2 ∷ 1 ∷ 1 ∷ []) (3 ∷ 3 ∷ 3 ∷ 3 ∷ []) [] []

-- ---- two pairs of trains that belong together, until other boxes are set

abbrev pub pairs : Yard
pairs =
    yard_of 4 2 2 1 1 (10 ∷ 20 ∷ 30 ∷ 40 ∷ []) (1 ∷ 1 ∷ 1 ∷ 1 ∷ []) (2 ∷ 2 ∷ 2 ∷ 2 ∷ []) []
    ((0 ∷ 5 ∷ 0 ∷ 0 ∷ []) ∷ (0 ∷ 0 ∷ 0 ∷ 0 ∷ []) ∷ (0 ∷ 0 ∷ 0 ∷ 6 ∷ []) ∷ (0 ∷ 0 ∷ 0 ∷ 0 ∷ []) ∷ [])

abbrev pub pairs_across : Yard
pairs_across =
    yard_of 4 2 2 1 1 (10 ∷ 20 ∷ 30 ∷ 40 ∷ []) (1 ∷ 1 ∷ 1 ∷ 1 ∷ []) (2 ∷ 2 ∷ 2 ∷ 2 ∷ []) []
    ((0 ∷ 5 ∷ 50 ∷ 0 ∷ []) ∷ (0 ∷ 0 ∷ 0 ∷ 0 ∷ []) ∷ (0 ∷ 0 ∷ 0 ∷ 6 ∷ []) ∷ (0 ∷ 0 ∷ 0 ∷ 0 ∷ []) ∷ [])

abbrev pub pairs_to30 : Yard
pairs_to30 =
    yard_of 4 2 2 1 1 (10 ∷ 20 ∷ 30 ∷ 40 ∷ []) (1 ∷ 1 ∷ 1 ∷ 1 ∷ []) (2 ∷ 2 ∷ 2 ∷ 2 ∷ []) []
    ((0 ∷ 5 ∷ 50 ∷ 0 ∷ []) ∷ (0 ∷ 0 ∷ 0 ∷ 0 ∷ []) ∷ (0 ∷ 0 ∷ 0 ∷ 7 ∷ []) ∷ (0 ∷ 0 ∷ 0 ∷ 0 ∷ []) ∷ [])

abbrev pub pairs_to40 : Yard
pairs_to40 =
    yard_of 4 2 2 1 1 (10 ∷ 20 ∷ 30 ∷ 40 ∷ []) (1 ∷ 1 ∷ 1 ∷ 1 ∷ []) (2 ∷ 2 ∷ 2 ∷ 2 ∷ []) []
    ((0 ∷ 5 ∷ 50 ∷ 0 ∷ []) ∷ (0 ∷ 0 ∷ 0 ∷ 0 ∷ []) ∷ (0 ∷ 0 ∷ 0 ∷ 7 ∷ []) ∷ (0 ∷ 0 ∷ 9 ∷ 0 ∷ []) ∷ [])

abbrev pub pairs_to20 : Yard
pairs_to20 =
    yard_of 4 2 2 1 1 (10 ∷ 20 ∷ 30 ∷ 40 ∷ []) (1 ∷ 1 ∷ 1 ∷ 1 ∷ []) (2 ∷ 2 ∷ 2 ∷ 2 ∷ []) []
    ((0 ∷ 5 ∷ 50 ∷ 0 ∷ []) ∷ (3 ∷ 0 ∷ 0 ∷ 0 ∷ []) ∷ (0 ∷ 0 ∷ 0 ∷ 7 ∷ []) ∷ (0 ∷ 0 ∷ 9 ∷ 0 ∷ []) ∷ [])

-- ---- days that are refused as they begin

abbrev pub crowded : Yard
crowded = yard_of 3 1 2 1 1 (1 ∷ 2 ∷ 3 ∷ []) (1 ∷ 1 ∷ 1 ∷ []) (2 ∷ 2 ∷ 2 ∷ []) (4 ∷ 0 ∷ 4 ∷ []) []

abbrev pub unmatched : Yard
unmatched = yard_of 2 2 2 1 1 (1 ∷ 2 ∷ []) (1 ∷ 2 ∷ []) (1 ∷ 2 ∷ []) (1 ∷ 1 ∷ []) []

abbrev pub heavy : Yard
heavy = yard_of 1 1 2 65536 1 (10 ∷ []) (1 ∷ []) (2 ∷ []) [] []

-- ---- for states made by hand: a day with a window of one slot and a group

abbrev pub strict : Yard
strict = yard_of 3 2 2 1 1 (10 ∷ 20 ∷ 30 ∷ []) (1 ∷ 1 ∷ 1 ∷ []) (1 ∷ 2 ∷ 2 ∷ []) (0 ∷ 4 ∷ 4 ∷ []) []

-- ---- unsound days

abbrev pub bad_numbers : Yard
bad_numbers = yard_of 3 2 2 1 1 (10 ∷ 20 ∷ 20 ∷ []) (1 ∷ 1 ∷ 1 ∷ []) (1 ∷ 2 ∷ 2 ∷ []) (0 ∷ 4 ∷ 4 ∷ []) []

abbrev pub bad_window : Yard
bad_window = yard_of 3 2 2 1 1 (10 ∷ 20 ∷ 30 ∷ []) (1 ∷ 1 ∷ 1 ∷ []) (1 ∷ 2 ∷ 3 ∷ []) (0 ∷ 4 ∷ 4 ∷ []) []

abbrev pub bad_group : Yard
bad_group = yard_of 3 2 2 1 1 (10 ∷ 20 ∷ 30 ∷ []) (1 ∷ 1 ∷ 1 ∷ []) (1 ∷ 2 ∷ 2 ∷ []) (13 ∷ 4 ∷ 4 ∷ []) []

abbrev pub bad_boxes : Yard
bad_boxes =
    yard_of 3 2 2 1 1 (10 ∷ 20 ∷ 30 ∷ []) (1 ∷ 1 ∷ 1 ∷ []) (1 ∷ 2 ∷ 2 ∷ []) (0 ∷ 4 ∷ 4 ∷ [])
    ((1 ∷ 0 ∷ 0 ∷ []) ∷ (0 ∷ 0 ∷ 0 ∷ []) ∷ (0 ∷ 0 ∷ 0 ∷ []) ∷ [])

abbrev pub past_group : Yard
past_group = yard_of 3 2 2 1 1 (10 ∷ 20 ∷ 30 ∷ []) (1 ∷ 1 ∷ 1 ∷ []) (1 ∷ 2 ∷ 2 ∷ []) (0 ∷ 4 ∷ 4 ∷ 4 ∷ []) []

abbrev pub past_boxes : Yard
past_boxes =
    yard_of 3 2 2 1 1 (10 ∷ 20 ∷ 30 ∷ []) (1 ∷ 1 ∷ 1 ∷ []) (1 ∷ 2 ∷ 2 ∷ []) (0 ∷ 4 ∷ 4 ∷ [])
    ((0 ∷ 0 ∷ 0 ∷ 1 ∷ []) ∷ (0 ∷ 0 ∷ 0 ∷ []) ∷ (0 ∷ 0 ∷ 0 ∷ []) ∷ [])

abbrev pub thirteen : Yard
thirteen = yard_of 13 12 1 1 1 (listed 12 suc) (replicate 12 1) (replicate 12 1) [] []

-- ---- for states with a dearer plan: P1 of document 01, and the same with a third slot

abbrev pub paper : Yard
paper =
    yard_of 4 2 2 1 1 (1 ∷ 2 ∷ 3 ∷ 4 ∷ []) (1 ∷ 1 ∷ 1 ∷ 1 ∷ []) (2 ∷ 2 ∷ 2 ∷ 2 ∷ []) []
    ((0 ∷ 0 ∷ 0 ∷ 1 ∷ []) ∷ (0 ∷ 0 ∷ 0 ∷ 0 ∷ []) ∷ (3 ∷ 0 ∷ 0 ∷ 5 ∷ []) ∷ (0 ∷ 6 ∷ 1 ∷ 0 ∷ []) ∷ [])

abbrev pub paper_wide : Yard
paper_wide =
    yard_of 4 2 3 1 1 (1 ∷ 2 ∷ 3 ∷ 4 ∷ []) (1 ∷ 1 ∷ 1 ∷ 1 ∷ []) (3 ∷ 3 ∷ 3 ∷ 3 ∷ []) []
    ((0 ∷ 0 ∷ 0 ∷ 1 ∷ []) ∷ (0 ∷ 0 ∷ 0 ∷ 0 ∷ []) ∷ (3 ∷ 0 ∷ 0 ∷ 5 ∷ []) ∷ (0 ∷ 6 ∷ 1 ∷ 0 ∷ []) ∷ [])

abbrev pub paper_without3 : Yard
paper_without3 =
    yard_of 3 2 2 1 1 (1 ∷ 2 ∷ 4 ∷ []) (1 ∷ 1 ∷ 1 ∷ []) (2 ∷ 2 ∷ 2 ∷ []) []
    ((0 ∷ 0 ∷ 1 ∷ []) ∷ (0 ∷ 0 ∷ 0 ∷ []) ∷ (0 ∷ 6 ∷ 0 ∷ []) ∷ [])

abbrev pub paper_with5 : Yard
paper_with5 =
    yard_of 5 2 3 1 1 (1 ∷ 2 ∷ 3 ∷ 4 ∷ 5 ∷ []) (1 ∷ 1 ∷ 1 ∷ 1 ∷ 2 ∷ []) (3 ∷ 3 ∷ 3 ∷ 3 ∷ 3 ∷ []) []
    ((0 ∷ 0 ∷ 0 ∷ 1 ∷ 0 ∷ []) ∷ (0 ∷ 0 ∷ 0 ∷ 0 ∷ 0 ∷ []) ∷ (3 ∷ 0 ∷ 0 ∷ 5 ∷ 0 ∷ []) ∷ (0 ∷ 6 ∷ 1 ∷ 0 ∷ 0 ∷ []) ∷ (0 ∷ 0 ∷ 0 ∷ 0 ∷ 0 ∷ []) ∷ [])

abbrev pub paper_without2 : Yard
paper_without2 =
    yard_of 3 2 3 1 1 (1 ∷ 3 ∷ 4 ∷ []) (1 ∷ 1 ∷ 1 ∷ []) (3 ∷ 3 ∷ 3 ∷ []) []
    ((0 ∷ 0 ∷ 1 ∷ []) ∷ (3 ∷ 0 ∷ 5 ∷ []) ∷ (0 ∷ 1 ∷ 0 ∷ []) ∷ [])

abbrev pub paper_new2 : Yard
paper_new2 =
    yard_of 4 2 3 1 1 (1 ∷ 2 ∷ 3 ∷ 4 ∷ []) (1 ∷ 3 ∷ 1 ∷ 1 ∷ []) (3 ∷ 3 ∷ 3 ∷ 3 ∷ []) []
    ((0 ∷ 0 ∷ 0 ∷ 1 ∷ []) ∷ (0 ∷ 0 ∷ 0 ∷ 0 ∷ []) ∷ (3 ∷ 0 ∷ 0 ∷ 5 ∷ []) ∷ (0 ∷ 0 ∷ 1 ∷ 0 ∷ []) ∷ [])

abbrev pub paper_no_to1 : Yard
paper_no_to1 =
    yard_of 4 2 3 1 1 (1 ∷ 2 ∷ 3 ∷ 4 ∷ []) (1 ∷ 3 ∷ 1 ∷ 1 ∷ []) (3 ∷ 3 ∷ 3 ∷ 3 ∷ []) []
    ((0 ∷ 0 ∷ 0 ∷ 0 ∷ []) ∷ (0 ∷ 0 ∷ 0 ∷ 0 ∷ []) ∷ (3 ∷ 0 ∷ 0 ∷ 5 ∷ []) ∷ (0 ∷ 0 ∷ 1 ∷ 0 ∷ []) ∷ [])

abbrev pub paper_to4 : Yard
paper_to4 =
    yard_of 4 2 3 1 1 (1 ∷ 2 ∷ 3 ∷ 4 ∷ []) (1 ∷ 3 ∷ 1 ∷ 1 ∷ []) (3 ∷ 3 ∷ 3 ∷ 3 ∷ []) []
    ((0 ∷ 0 ∷ 0 ∷ 0 ∷ []) ∷ (0 ∷ 0 ∷ 0 ∷ 0 ∷ []) ∷ (3 ∷ 0 ∷ 0 ∷ 5 ∷ []) ∷ (8 ∷ 0 ∷ 1 ∷ 0 ∷ []) ∷ [])

-- ---- days of eight slots, and of seven trains and more

abbrev pub late : Yard
late = yard_of 2 1 8 1 1 (10 ∷ 20 ∷ []) (5 ∷ 1 ∷ []) (6 ∷ 8 ∷ []) [] []

abbrev pub late_with30 : Yard
late_with30 = yard_of 3 1 8 1 1 (10 ∷ 20 ∷ 30 ∷ []) (5 ∷ 1 ∷ 5 ∷ []) (6 ∷ 8 ∷ 8 ∷ []) [] []

abbrev pub seven : Yard
seven = yard_of 7 12 1 11 2 (listed 7 suc) (replicate 7 1) (replicate 7 1) (0 ∷ 0 ∷ 0 ∷ 0 ∷ 0 ∷ 9 ∷ 9 ∷ []) []

abbrev pub eight : Yard
eight = yard_of 8 12 1 11 2 (listed 8 suc) (replicate 8 1) (replicate 8 1) (0 ∷ 0 ∷ 0 ∷ 0 ∷ 0 ∷ 9 ∷ 9 ∷ []) []

abbrev pub eight_to7 : Yard
eight_to7 =
    yard_of 8 12 1 11 2 (listed 8 suc) (replicate 8 1) (replicate 8 1) (0 ∷ 0 ∷ 0 ∷ 0 ∷ 0 ∷ 9 ∷ 9 ∷ [])
    ([] ∷ [] ∷ [] ∷ [] ∷ [] ∷ [] ∷ (200 ∷ []) ∷ [])

abbrev pub eight_without6 : Yard
eight_without6 =
    yard_of 7 12 1 11 2 (1 ∷ 2 ∷ 3 ∷ 4 ∷ 5 ∷ 7 ∷ 8 ∷ []) (replicate 7 1) (replicate 7 1) (0 ∷ 0 ∷ 0 ∷ 0 ∷ 0 ∷ 9 ∷ [])
    ([] ∷ [] ∷ [] ∷ [] ∷ [] ∷ (200 ∷ []) ∷ [])

abbrev pub halves : Yard
halves = yard_of 6 3 2 1 1 (listed 6 suc) (1 ∷ 1 ∷ 1 ∷ 2 ∷ 2 ∷ 2 ∷ []) (1 ∷ 1 ∷ 1 ∷ 2 ∷ 2 ∷ 2 ∷ []) [] []
