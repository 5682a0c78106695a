-- What a plan is written as (document 01, "The program").
-- Assumes nothing.
use Rattle.std.specs.Prelude.{List, [], ◌∷◌, ◌++◌, ℕ, length, get_or}
use Rattle.fold.specs.Listed.{listed}
use Rattle.model.specs.Model.{Yard, Outcome, outcome, slot_of}
use Rattle.day.specs.Answer.{Answer}
use Rattle.day.specs.declared.Limits.{Limits}
use Rattle.counting.specs.Counting.{figures_of}
use Rattle.valuing.specs.Valuing.{row_checks}
use Rattle.lines.specs.Lines.{ascii, row_text, rows_text}
use Rattle.output.specs.Output.{writes, leaves}
use Rattle.output.specs.Laws.{Filled, filled}

-- ---- the plan file: the row's four numbers (order 6 of 02), then train numbers in file order, each with its slot

unfoldable pub value_names : List ℕ
value_names = ascii "revisits splits direct cost\n"

unfoldable pub slot_names : List ℕ
slot_names = ascii "train slot\n"

abbrev pub slot_row : List ℕ → List ℕ → ℕ → List ℕ
slot_row numbers row i = get_or numbers i 0 ∷ slot_of row i ∷ []

-- a row of n trains with these numbers, whose outcome is o
unfoldable pub plan_lines : ℕ → List ℕ → Outcome → List ℕ → List ℕ
plan_lines n numbers o row = value_names ++ row_text (figures_of o) ++ slot_names ++ rows_text (listed n (slot_row numbers row))

abbrev pub plan_text : Yard → List ℕ → List ℕ
plan_text y row = plan_lines y.trains y.numbers (outcome y row) row

-- ---- the call: valuing's checks, then the plan's text is written into the output

abbrev pub plan_writes : Limits → Yard → List ℕ → ℕ → Answer ℕ
plan_writes l y row size = writes (row_checks l y row) (plan_text y row) size

abbrev pub plan_leaves : Limits → Yard → List ℕ → List ℕ → List ℕ
plan_leaves l y row out = leaves (row_checks l y row) (plan_text y row) out

pub plan_filled : (l : Limits) (y : Yard) (row out : List ℕ) → Filled (plan_text y row) out (plan_writes l y row (length out)) (plan_leaves l y row out)
plan_filled l y row out = filled (row_checks l y row) (plan_text y row) out
