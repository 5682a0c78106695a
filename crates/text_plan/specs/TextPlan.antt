-- Planning the day of a text: what is answered, and what is left in the row, in the two areas and in the number of trains. Where the text
-- is no day file, or there is no room to tell four numbers, planning does not begin and all of it stays.
-- Assumes nothing.
use Rattle.std.specs.Prelude.{List, ℕ}
use Rattle.model.specs.Model.{Yard, Outcome}
use Rattle.day.specs.Answer.{Answer, where_given}
use Rattle.day.specs.declared.Limits.{Limits}
use Rattle.planning.specs.Planning.{planned, begins, row_after, open_words}
use Rattle.telling.specs.Telling.{day_for, for_day, slots_in}

-- the caller lends so many words of cost, words of choice, bytes of row and numbers
unfoldable pub plan_for : Limits → List ℕ → ℕ → ℕ → ℕ → ℕ → Answer Outcome
plan_for l text costs choices bytes size = for_day l text size λ y. planned l y costs choices bytes

unfoldable pub row_for : Limits → List ℕ → ℕ → ℕ → ℕ → List ℕ → List ℕ
row_for l text costs choices size row = where_given (day_for l text size) row λ y. row_after l y costs choices row

-- the words of an area that may hold anything
unfoldable pub open_for : (Yard → ℕ) → Limits → List ℕ → ℕ → ℕ → ℕ → ℕ → ℕ
open_for words l text costs choices bytes size = where_given (day_for l text size) 0 λ y. open_words (begins l y costs choices bytes) (words y)

unfoldable pub slots_for : Limits → List ℕ → ℕ → ℕ → ℕ → ℕ → ℕ
slots_for l text costs choices bytes size = where_given (day_for l text size) 0 λ y. slots_in y (planned l y costs choices bytes)
