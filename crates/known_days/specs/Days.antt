-- Days written by hand: windows and moves as document 01 lists them, padded to a day record.
-- Assumes nothing.
use Rattle.std.specs.Prelude.{cond, List, [], ◌∷◌, ◌++◌, ℕ, suc, ◌+◌, ◌-◌, ◌*◌, ◌/◌, ◌%◌, eqb, ltb, length, set, replicate}
use Rattle.fold.specs.Listed.{listed}
use Rattle.day.specs.declared.Day.{Day}

-- a row of the day file's third section, `to from boxes`, with positions counted from 1
pub data Move : Type 0 where
  move : ℕ → ℕ → ℕ → Move

unfoldable pub box_table : List Move → List ℕ
box_table [] = replicate 144 0
box_table (move to from boxes ∷ moves) = set (box_table moves) ((to - 1) * 12 + (from - 1)) boxes

unfoldable pub padded : List ℕ → List ℕ
padded l = l ++ replicate (12 - length l) 0

-- n trains with the numbers 1 to n, G tracks, T slots, two weights, first slots, last slots, moves
unfoldable pub day_of : ℕ → ℕ → ℕ → ℕ → ℕ → List ℕ → List ℕ → List Move → Day
unfolding box_table padded listed
day_of n tracks slots revisit split first last moves = record {
  trains = n;
  tracks = tracks;
  slots = slots;
  revisit = revisit;
  split = split;
  numbers = padded (listed n suc);
  first = padded first;
  last = padded last;
  groups = replicate 12 0;
  boxes = box_table moves;
}

-- windows 1..T and weights 1
unfoldable pub open_day : ℕ → ℕ → ℕ → List Move → Day
unfolding day_of
open_day n tracks slots moves = day_of n tracks slots 1 1 (replicate n 1) (replicate n slots) moves

-- windows 1..T and weights 0: all rows cost the same
unfoldable pub weightless : ℕ → ℕ → ℕ → List Move → Day
unfolding day_of
weightless n tracks slots moves = day_of n tracks slots 0 0 (replicate n 1) (replicate n slots) moves

-- a box to each of the trains 1 to 11 from train 12
unfoldable pub from_twelve : List Move
unfolding listed
from_twelve = listed 11 λ i. move (suc i) 12 1

-- eight of the pairs of four trains, each with another power of two
unfoldable pub paired : List Move
paired =
    move 1 2 1 ∷ move 1 3 2 ∷ move 1 4 4 ∷ move 2 1 8 ∷ move 2 4 16 ∷ move 3 1 32 ∷ move 3 4 64 ∷ move 4 2 128 ∷ []

-- boxes to each of n trains from each one before it, another number for each pair
unfoldable pub one_way : ℕ → List Move
unfolding listed
one_way n = listed (12 * n) λ q. move (suc (q / 12)) (suc (q % 12)) (cond (ltb (q % 12) (q / 12)) (suc q) 0)

-- 255 boxes to each of 12 trains from each other one
unfoldable pub fullest : List Move
unfolding listed
fullest = listed 144 λ q. move (suc (q / 12)) (suc (q % 12)) (cond (eqb (q / 12) (q % 12)) 0 255)

-- P1's day, its weights, and the first slot of train 4
unfoldable pub paper_day : ℕ → ℕ → ℕ → Day
unfolding day_of
paper_day revisit split first4 =
    day_of 4 2 2 revisit split (1 ∷ 1 ∷ 1 ∷ first4 ∷ []) (2 ∷ 2 ∷ 2 ∷ 2 ∷ [])
    (move 1 4 1 ∷ move 3 1 3 ∷ move 3 4 5 ∷ move 4 2 6 ∷ move 4 3 1 ∷ [])

-- three boxes, and the weight of a revisit; that of a split move is 1. Train 1 is bound to slot 2 and train 4 to slot 1, so trains 2 and 3
-- have a slot each: two rows are allowed. The smallest day that the test program found (`days below`) on which a weight above 0 is too small
unfoldable pub three_boxes : ℕ → Day
unfolding day_of
three_boxes revisit = day_of 4 2 2 revisit 1 (2 ∷ 1 ∷ 1 ∷ 1 ∷ []) (2 ∷ 2 ∷ 2 ∷ 1 ∷ []) (move 1 3 1 ∷ move 2 3 1 ∷ move 2 4 1 ∷ [])

-- two trains with numbers of their own, and moves
unfoldable pub numbered : List ℕ → List Move → Day
unfolding padded box_table
numbered numbers moves = record {
  trains = 2;
  tracks = 1;
  slots = 2;
  revisit = 1;
  split = 1;
  numbers = padded numbers;
  first = padded (1 ∷ 1 ∷ []);
  last = padded (2 ∷ 2 ∷ []);
  groups = replicate 12 0;
  boxes = box_table moves;
}

-- a day with these groups, 0 for a train in none
unfoldable pub in_groups : List ℕ → Day → Day
unfolding padded
in_groups groups d = record {
  trains = d.trains;
  tracks = d.tracks;
  slots = d.slots;
  revisit = d.revisit;
  split = d.split;
  numbers = d.numbers;
  first = d.first;
  last = d.last;
  groups = padded groups;
  boxes = d.boxes;
}
