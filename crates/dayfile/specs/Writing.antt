-- What a day is written as (document 01, "The day file"; order 4 of 02: the groups). Which group numbers there are is the limits'.
-- Assumes nothing.
use Rattle.std.specs.Prelude.{cond, List, [], ◌∷◌, ◌++◌, ℕ, suc, ◌*◌, ◌/◌, ◌%◌, ◌≤◌, eqb, get_or}
use Rattle.fold.specs.Listed.{listed, joined}
use Rattle.model.specs.Model.{Yard, group_of}
use Rattle.day.specs.Sound.{head_row, train_row}
use Rattle.day.specs.declared.Limits.{Limits}
use Rattle.dayfile.specs.Reading.{head_names, train_names, move_names, group_names, File}
use Rattle.lines.specs.Lines.{row_text, rows_text}

-- the fourth section, which is left out where no train has a group
abbrev pub groups_text : List (List ℕ) → List ℕ
groups_text [] = []
groups_text (r ∷ rows) = group_names ++ rows_text (r ∷ rows)

unfoldable pub file_text : File → List ℕ
file_text f =
    head_names ++ row_text f.head ++ train_names ++ rows_text f.trains ++ move_names ++ rows_text f.moves ++ groups_text f.groups

-- ---- the rows of a day

-- the move at place q of the table of boxes, where x boxes stand: no row where there are none
abbrev pub move_row : List ℕ → ℕ → ℕ → ℕ → List ℕ
move_row numbers width q x = get_or numbers (q / width) 0 ∷ get_or numbers (q % width) 0 ∷ x ∷ []

unfoldable pub move_rows : List ℕ → ℕ → List ℕ → ℕ → List (List ℕ)
move_rows numbers width boxes q = cond (eqb (get_or boxes q 0) 0) [] (move_row numbers width q (get_or boxes q 0) ∷ [])

-- the row of position i where it is in group g, else none
unfoldable pub member_rows : List ℕ → List ℕ → ℕ → ℕ → List (List ℕ)
member_rows numbers groups g i = cond (eqb (group_of groups i) g) ((g ∷ get_or numbers i 0 ∷ []) ∷ []) []

-- the rows of group g, of n trains
unfoldable pub group_rows : ℕ → List ℕ → List ℕ → ℕ → List (List ℕ)
group_rows n numbers groups g = joined n (member_rows numbers groups g)

unfoldable pub file_of_lem : Limits → Yard → File
file_of_lem l y = record {
  head = head_row y;
  trains = listed y.trains (train_row y.numbers y.first y.last);
  moves = joined (y.width * y.width) (move_rows y.numbers y.width y.boxes);
  groups = joined l.groups λ g. group_rows y.trains y.numbers y.groups (suc g);
}

-- ---- the text: the names lines, each with its rows

unfoldable pub day_text : Limits → Yard → List ℕ
day_text l y = file_text (file_of_lem l y)

-- ---- limits of at most five digits, so that every value can be written

pub record Short (l : Limits) : Type 0 where
  pub trains : l.trains ≤ 99999
  pub tracks : l.tracks ≤ 99999
  pub slots : l.slots ≤ 99999
  pub weight : l.weight ≤ 99999
  pub number : l.number ≤ 99999
  pub boxes : l.boxes ≤ 99999
  pub groups : l.groups ≤ 99999
