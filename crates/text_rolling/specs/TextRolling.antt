-- The calls of a moving day on a state that is kept as a text, a number and a row: what each answers, and whether planning begins. 10 where
-- there is no room for what is told, else reading's refusal, else what the call answers.
-- Assumes nothing.
use Rattle.std.specs.Prelude.{Bool, false, ◌&&◌, List, [], ◌∷◌, ℕ, leb}
use Rattle.day.specs.Answer.{Answer, on_given, where_given, must, checked}
use Rattle.day.specs.declared.Limits.{Limits}
use Rattle.dayfile.specs.Reading.{read_day}
use Rattle.dayfile.specs.Size.{day_bytes}
use Rattle.telling.specs.Telling.{number_count}
use Rattle.rolling.specs.Rolling.{State, Change, close, change, state_after, begun, state_begins, begun_begins}
use Rattle.state_text.specs.StateText.{kept_state}

-- ---- room: four numbers; for a new plan a byte for each train that there may be; for a new day file the most bytes of one

abbrev pub plan_room : Limits → ℕ → ℕ → Bool
plan_room l slots size = leb number_count size && leb l.trains slots

abbrev pub state_room : Limits → ℕ → ℕ → ℕ → Bool
state_room l bytes slots size = leb number_count size && (leb day_bytes bytes && leb l.trains slots)

-- 10 where there is none
abbrev pub with_room : {X : Type 0} → Bool → Answer X → Answer X
with_room room a = checked (must room 10 (0 ∷ []) ∷ []) a

-- ---- the answers; a caller lends so many words of cost and choice, bytes of day file and slots, and numbers

unfoldable pub begin_for : Limits → List ℕ → ℕ → ℕ → ℕ → ℕ → Answer State
begin_for l text costs choices slots size = on_given (with_room (plan_room l slots size) (read_day l text)) λ y. begun l y costs choices

unfoldable pub close_for : Limits → List ℕ → ℕ → List ℕ → ℕ → Answer State
close_for l text closed row size = on_given (with_room (leb number_count size) (kept_state l text closed row)) λ s. state_after l s close

unfoldable pub change_for : Limits → List ℕ → ℕ → List ℕ → Change → ℕ → ℕ → ℕ → ℕ → ℕ → Answer State
change_for l text closed row c costs choices bytes slots size =
    on_given (with_room (state_room l bytes slots size) (kept_state l text closed row)) λ s. state_after l s (change c costs choices)

-- ---- whether planning begins

unfoldable pub begin_opens : Limits → List ℕ → ℕ → ℕ → ℕ → ℕ → Bool
begin_opens l text costs choices slots size = where_given (with_room (plan_room l slots size) (read_day l text)) false λ y. begun_begins l y costs choices

unfoldable pub change_opens : Limits → List ℕ → ℕ → List ℕ → Change → ℕ → ℕ → ℕ → ℕ → ℕ → Bool
change_opens l text closed row c costs choices bytes slots size =
    where_given (with_room (state_room l bytes slots size) (kept_state l text closed row)) false λ s. state_begins l s (change c costs choices)
