-- The state of a moving day as a program keeps it: the day file's bytes, the number of closed slots, the slots of its trains. What such
-- a state is, and what a caller is told and lent memory holds when a call gives a new one.
-- Assumes nothing.
use Rattle.std.specs.Prelude.{cond, List, [], ◌∷◌, ◌++◌, ℕ, leb, eqb, length, drop}
use Rattle.fold.specs.Column.{column}
use Rattle.model.specs.Model.{Yard, slot_of}
use Rattle.day.specs.Answer.{Answer, gives, refuses, on_given, where_given, must, checked}
use Rattle.day.specs.declared.Limits.{Limits}
use Rattle.dayfile.specs.Reading.{read_day}
use Rattle.dayfile.specs.Writing.{day_text}
use Rattle.telling.specs.Telling.{number_count, numbers_told}
use Rattle.rolling.specs.Rolling.{State, plan_of}

-- ---- the state that is kept as a text, a number and a row: 8 where the row has another length than the day has trains

abbrev pub state_with : Yard → ℕ → List ℕ → State
state_with y closed row = record { day = y; closed = closed; row = column y.width y.trains (slot_of row) }

unfoldable pub kept_state : Limits → List ℕ → ℕ → List ℕ → Answer State
kept_state l text closed row =
    on_given (read_day l text) λ y. checked (must (eqb (length row) y.trains) 8 (0 ∷ []) ∷ []) (gives (state_with y closed row))

-- ---- what a caller is told of a new state: the closed slots, the trains, the bytes of the day file, and 0; or what the refusal carries

abbrev pub figures_of_state : Limits → State → List ℕ
figures_of_state l s = s.closed ∷ s.day.trains ∷ length (day_text l s.day) ∷ 0 ∷ []

abbrev pub state_told : Limits → Answer State → List ℕ
state_told l (gives s) = figures_of_state l s
state_told l (refuses k carries) = numbers_told (refuses k carries)

-- where there is room for them they are the first numbers, and those beyond stay
unfoldable pub state_numbers : Limits → Answer State → List ℕ → List ℕ
state_numbers l a numbers = cond (leb number_count (length numbers)) (state_told l a ++ drop number_count numbers) numbers

-- ---- lent output: the new day file and the new plan in the first bytes; those beyond stay, after a refusal all

abbrev pub day_after : Limits → Answer State → List ℕ → List ℕ
day_after l a out = where_given a out λ s. day_text l s.day ++ drop (length (day_text l s.day)) out

abbrev pub plan_after : Answer State → List ℕ → List ℕ
plan_after a out = where_given a out λ s. plan_of s ++ drop (length (plan_of s)) out
