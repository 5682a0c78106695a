-- What planning a long day answers (order 9 of document 02), for any record, any width and any row lent: the checks 8, 21 and 10, then the row
-- that the beam search finds, with its four numbers, the number of slots after which more merged partial plans than the width remained, and
-- the lower figure; or 9 with the first overbooked interval. And what it leaves in the row.
-- Assumes nothing.
use Rattle.std.specs.Prelude.{Bool, cond, ◌&&◌, List, [], ◌∷◌, ℕ, leb, length, Result}
use Rattle.std.proofs.Math.Option.{Option, none, some}
use Rattle.model.specs.Model.{Yard, Outcome, outcome}
use Rattle.model.specs.Overbooked.{first_overbooked}
use Rattle.day.specs.Sound.{sound}
use Rattle.day.specs.Answer.{Answer, gives, answered, Check, must, checked, holding}
use Rattle.day.specs.declared.Limits.{Limits}
use Rattle.counting.specs.Counting.{outcome_of}
use Rattle.planning.specs.Planning.{no_row, placed}
use Rattle.beam.specs.Beam.{full_slots, beam_row}
use Rattle.beam.specs.LowerFigure.{lower_figure}
use Rattle.long_planning.specs.declared.LongValue.{LongValue}
use Rattle.day.specs.declared.Refusal.{Refusal}

-- the row's four numbers; the number of full slots, those after which more merged partial plans than the width remained; the lower figure
pub record LongOutcome : Type 0 where
  pub row : Outcome
  pub full : ℕ
  pub lower : ℕ

-- ---- the code's answer in the papers' numbers

abbrev pub long_outcome_of : LongValue → LongOutcome
long_outcome_of v = record { row = outcome_of v.value; full = v.full; lower = v.lower }

abbrev pub answer : Result LongValue Refusal → Answer LongOutcome
answer = answered long_outcome_of

-- ---- the checks: 8 the record is sound, 21 the width is one of 1 to 64, 10 the row has n bytes

abbrev pub is_width : ℕ → Bool
is_width width = leb 1 width && leb width 64

abbrev pub long_checks : Limits → Yard → ℕ → ℕ → List Check
long_checks l y width bytes = must (sound l y) 8 (0 ∷ []) ∷ must (is_width width) 21 (0 ∷ []) ∷ must (leb y.trains bytes) 10 (0 ∷ []) ∷ []

-- ---- the answer

-- the row of the search, or the refusal where it finds none
abbrev pub found_answer : Yard → ℕ → Option (List ℕ) → Answer LongOutcome
found_answer y width (some row) = gives (record { row = outcome y row; full = full_slots y width; lower = lower_figure y })
found_answer y width none = no_row y (first_overbooked y)

unfoldable pub long_planned : Limits → Yard → ℕ → ℕ → Answer LongOutcome
long_planned l y width bytes = checked (long_checks l y width bytes) (found_answer y width (beam_row y width))

-- ---- the row: that of the search in the first n bytes; all of it stays where a check fails or none is found

unfoldable pub long_row_after : Limits → Yard → ℕ → List ℕ → List ℕ
long_row_after l y width row = cond (holding (long_checks l y width (length row))) (placed (beam_row y width) row) row
