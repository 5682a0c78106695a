-- The text of a plan in its two sections, as the code puts them; and that 8 comes before all else.
-- Assumes nothing.
use Rattle.std.specs.Prelude.{◌≡◌, false, List, [], ◌∷◌, ◌++◌, ℕ, ◌+◌, length}
use Rattle.std.proofs.Common.{ap, ◌∙◌, append_assoc, length-append}
use Rattle.fold.specs.Listed.{joined}
use Rattle.model.specs.Model.{Yard, Outcome}
use Rattle.day.specs.Answer.{refuses}
use Rattle.day.specs.Sound.{sound}
use Rattle.day.specs.declared.Limits.{Limits}
use Rattle.counting.specs.Counting.{figures_of}
use Rattle.lines.specs.Lines.{row_text}
use Rattle.output.specs.Output.{writes}
use Rattle.output.specs.Laws.{rows_listed}
use Rattle.planfile.specs.PlanText.{value_names, slot_names, slot_row, plan_lines, plan_writes}

-- ---- 8 is given whatever the row and the output are

pub plan_unsound : (l : Limits) (y : Yard) (row : List ℕ) (size : ℕ) → sound l y ≡ false → plan_writes l y row size ≡ refuses 8 (0 ∷ [])
unfolding writes
plan_unsound l y row size s = rw s

-- ---- the two sections, as the code puts them

abbrev pub value_lines : Outcome → List ℕ
value_lines o = value_names ++ row_text (figures_of o)

abbrev pub slot_line : List ℕ → List ℕ → ℕ → List ℕ
slot_line numbers row i = row_text (slot_row numbers row i)

abbrev pub slot_lines : List ℕ → List ℕ → ℕ → List ℕ
slot_lines numbers row n = slot_names ++ joined n (slot_line numbers row)

module _ (n : ℕ) (numbers : List ℕ) (o : Outcome) (row : List ℕ) where
  pub plan_lines_lem : plan_lines n numbers o row ≡ value_lines o ++ slot_lines numbers row n
  unfolding plan_lines
  plan_lines_lem = rw (rows_listed n (slot_row numbers row)) (append_assoc (value_lines o) slot_names (joined n (slot_line numbers row)))

  pub plan_length : length (plan_lines n numbers o row) ≡ length (value_lines o) + length (slot_lines numbers row n)
  plan_length = ap length plan_lines_lem ∙ length-append (value_lines o) (slot_lines numbers row n)
