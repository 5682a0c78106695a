-- Long days written by hand: windows and moves as document 01 lists them, padded to a record of 36 trains.
-- Assumes nothing.
use Rattle.std.specs.Prelude.{List, [], ◌∷◌, ◌++◌, ℕ, suc, ◌+◌, ◌-◌, ◌*◌, length, set, replicate}
use Rattle.fold.specs.Listed.{listed}
use Rattle.known_days.specs.Days.{Move, move}
use Rattle.long_day.specs.declared.LongDay.{LongDay}

unfoldable pub box_table : List Move → List ℕ
box_table [] = replicate 1296 0
box_table (move to from boxes ∷ moves) = set (box_table moves) ((to - 1) * 36 + (from - 1)) boxes

unfoldable pub padded : List ℕ → List ℕ
padded l = l ++ replicate (36 - length l) 0

-- n trains with the numbers 1 to n, G tracks, T slots, two weights, first slots, last slots, moves
unfoldable pub long_day : ℕ → ℕ → ℕ → ℕ → ℕ → List ℕ → List ℕ → List Move → LongDay
unfolding box_table padded listed
long_day n tracks slots revisit split first last moves = record {
  trains = n;
  tracks = tracks;
  slots = slots;
  revisit = revisit;
  split = split;
  numbers = padded (listed n suc);
  first = padded first;
  last = padded last;
  boxes = box_table moves;
}

-- windows 1..T
unfoldable pub open_long : ℕ → ℕ → ℕ → ℕ → ℕ → List Move → LongDay
unfolding long_day
open_long n tracks slots revisit split moves = long_day n tracks slots revisit split (replicate n 1) (replicate n slots) moves

-- the source's example with these weights
unfoldable pub paper_long : ℕ → ℕ → LongDay
unfolding open_long
paper_long revisit split = open_long 4 2 2 revisit split (move 1 4 1 ∷ move 3 1 3 ∷ move 3 4 5 ∷ move 4 2 6 ∷ move 4 3 1 ∷ [])
