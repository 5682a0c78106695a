-- Planning the long day of a text at a width (order 9 of document 02): what is answered, what is told, and what is left in the row and in the
-- number of trains. Where the text is no long day's file, or there is no room to tell six numbers, planning does not begin and all of it
-- stays. Checking a text is `read_day` of dayfile's Reading.antt, and valuing a row `value_text` of text_value, at the limits of long days.
-- Assumes nothing.
use Rattle.std.specs.Prelude.{List, [], ◌∷◌, ◌++◌, ℕ}
use Rattle.model.specs.Model.{Yard}
use Rattle.day.specs.Answer.{Answer, on_given, where_given}
use Rattle.counting.specs.Counting.{figures_of}
use Rattle.telling.specs.Telling.{day_with, told_by, after_by, slots_in}
use Rattle.long_day.specs.LongDay.{long_limits}
use Rattle.long_planning.specs.LongPlanning.{LongOutcome, long_planned, long_row_after}

-- ---- the numbers: those of the row, the number of full slots and the lower figure; or what the refusal carries, and then zeros

abbrev pub long_number_count : ℕ
long_number_count = 6

abbrev pub long_figures : LongOutcome → List ℕ
long_figures o = figures_of o.row ++ (o.full ∷ o.lower ∷ [])

abbrev pub long_numbers_told : Answer LongOutcome → List ℕ
long_numbers_told = told_by long_number_count long_figures

abbrev pub long_numbers_after : Answer LongOutcome → List ℕ → List ℕ
long_numbers_after = after_by long_number_count long_figures

-- ---- the call: a text, a width, and so many bytes of row and numbers lent

abbrev pub long_day_for : List ℕ → ℕ → Answer Yard
long_day_for text size = day_with long_number_count long_limits text size

unfoldable pub long_plan_for : List ℕ → ℕ → ℕ → ℕ → Answer LongOutcome
long_plan_for text width bytes size = on_given (long_day_for text size) λ y. long_planned long_limits y width bytes

unfoldable pub long_row_for : List ℕ → ℕ → ℕ → List ℕ → List ℕ
long_row_for text width size row = where_given (long_day_for text size) row λ y. long_row_after long_limits y width row

unfoldable pub long_slots_for : List ℕ → ℕ → ℕ → ℕ → ℕ
long_slots_for text width bytes size = where_given (long_day_for text size) 0 λ y. slots_in y (long_planned long_limits y width bytes)
