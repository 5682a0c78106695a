-- The text of a day's sections as the code puts them.
-- Assumes nothing.
use Rattle.std.specs.Prelude.{List, ◌++◌, ℕ, ◌*◌, ◌≤◌, length}
use Rattle.fold.specs.Listed.{joined}
use Rattle.model.specs.Groups.{GroupsUpTo}
use Rattle.day.specs.Sound.{train_row}
use Rattle.day.specs.declared.Parts.{Parts}
use Rattle.lines.specs.Lines.{row_text, rows_text}
use Rattle.dayfile.specs.Reading.{head_names, train_names, move_names}
use Rattle.dayfile.specs.Writing.{move_rows}

-- the first section, by the fields of its row
abbrev pub head_text : List ℕ → List ℕ
head_text row = head_names ++ row_text row

-- the second section, of n trains
abbrev pub train_text : List ℕ → List ℕ → List ℕ → ℕ → List ℕ
train_text numbers first last i = row_text (train_row numbers first last i)

abbrev pub trains_text : List ℕ → List ℕ → List ℕ → ℕ → List ℕ
trains_text numbers first last n = train_names ++ joined n (train_text numbers first last)

-- the third section, by the places of the table of boxes
abbrev pub move_text : List ℕ → ℕ → List ℕ → ℕ → List ℕ
move_text numbers width boxes q = rows_text (move_rows numbers width boxes q)

abbrev pub moves_text : List ℕ → ℕ → List ℕ → List ℕ
moves_text numbers width boxes = move_names ++ joined (width * width) (move_text numbers width boxes)

-- what writing asks of a lent day
pub record Writable (p : Parts) : Type 0 where
  pub numbered : p.head.trains ≤ length p.numbers.now
  pub firsts : p.head.trains ≤ length p.first.now
  pub lasts : p.head.trains ≤ length p.last.now
  pub members : p.head.trains ≤ length p.groups.now
  pub places : p.limits.trains ≤ length p.numbers.now
  pub table : p.limits.trains * p.limits.trains ≤ length p.boxes.now
  pub low : GroupsUpTo p.limits.groups p.head.trains p.groups.now
