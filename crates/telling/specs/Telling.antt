-- What a caller who lends room for numbers is told about the day of a text: the four numbers of a row, or what the refusal carries. The
-- same of any count of numbers, for calls that tell more than a row's.
-- Assumes nothing.
use Rattle.std.specs.Prelude.{cond, List, [], ◌∷◌, ◌++◌, ℕ, zero, suc, leb, length, get_or, drop, Result, Ok, Err}
use Rattle.model.specs.Model.{Yard, Outcome}
use Rattle.day.specs.Answer.{Answer, gives, refuses, on_given, where_given, must, checked, carried}
use Rattle.day.specs.declared.Limits.{Limits}
use Rattle.day.specs.declared.Refusal.{Refusal}
use Rattle.counting.specs.Counting.{figures_of}
use Rattle.dayfile.specs.Reading.{read_day}

-- how many numbers are told: as many as a row has, revisits, split moves, direct moves and cost
abbrev pub number_count : ℕ
number_count = 4

-- ---- the day of a text, for a caller who lends room for `size` numbers: 10 where these are fewer, else what reading answers

abbrev pub day_with : ℕ → Limits → List ℕ → ℕ → Answer Yard
day_with count l text size = checked (must (leb count size) 10 (0 ∷ []) ∷ []) (read_day l text)

abbrev pub day_for : Limits → List ℕ → ℕ → Answer Yard
day_for = day_with number_count

-- what is answered for that day
abbrev pub for_day : {X : Type 0} → Limits → List ℕ → ℕ → (Yard → Answer X) → Answer X
for_day l text size f = on_given (day_for l text size) f

-- ---- the numbers

-- so many of the values that a refusal carries, from the i-th on, and then zeros
abbrev pub carried_from : List ℕ → ℕ → ℕ → List ℕ
carried_from carries i zero = []
carried_from carries i (suc count) = get_or carries i 0 ∷ carried_from carries (suc i) count

-- the figures of what is given, or what the refusal carries and then zeros
abbrev pub told_by : {X : Type 0} → ℕ → (X → List ℕ) → Answer X → List ℕ
told_by count figures (gives x) = figures x
told_by count figures (refuses k carries) = carried_from carries 0 count

-- where there is room for them they are the first numbers, and those beyond stay
unfoldable pub after_by : {X : Type 0} → ℕ → (X → List ℕ) → Answer X → List ℕ → List ℕ
after_by count figures a numbers = cond (leb count (length numbers)) (told_by count figures a ++ drop count numbers) numbers

-- those of a row, in the order of the plan file's names line
abbrev pub numbers_told : Answer Outcome → List ℕ
numbers_told = told_by number_count figures_of

abbrev pub numbers_after : Answer Outcome → List ℕ → List ℕ
numbers_after = after_by number_count figures_of

-- the slots written where a plan is told: as many as the day has trains, or none
abbrev pub slots_in : {X : Type 0} → Yard → Answer X → ℕ
slots_in y a = where_given a 0 λ o. y.trains

-- the line of a verdict's refusal, 0 where it is accepted
abbrev pub verdict_line : Result Unit Refusal → ℕ
verdict_line (Ok u) = 0
verdict_line (Err r) = get_or (carried r) 0 0
