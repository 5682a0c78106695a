-- What valuing answers, for any record and any row: the checks 8, 11, 12, 13 of document 01 and 17 of document 02 in this order, else the
-- model's four numbers.
-- Assumes nothing.
use Rattle.std.specs.Prelude.{Bool, not, List, [], ◌∷◌, ℕ, suc, eqb, length, Result}
use Rattle.fold.specs.Fold.{each, lowest}
use Rattle.model.specs.Model.{Yard, Outcome, outcome, in_window, roomy, kept, parted}
use Rattle.day.specs.Sound.{sound}
use Rattle.day.specs.Answer.{Answer, gives, answered, Check, must, checked}
use Rattle.day.specs.declared.Limits.{Limits}
use Rattle.day.specs.declared.Refusal.{Refusal}
use Rattle.counting.specs.Counting.{outcome_of}
use Rattle.counting.specs.declared.Value.{Value}

-- ---- the code's answer in 01's numbers

abbrev pub answer : Result Value Refusal → Answer Outcome
answer = answered outcome_of

-- ---- the checks

-- position i + 1 has a slot outside its window; slot t + 1 holds more than G trains
unfoldable pub strays : List ℕ → List ℕ → List ℕ → ℕ → Bool
strays first last row i = not (in_window first last row i)

unfoldable pub overfull : ℕ → ℕ → List ℕ → ℕ → Bool
overfull n tracks row t = not (roomy n tracks row (suc t))

-- of a sound day: 11 the row has n slots, 12 each slot lies in its train's window, 13 no slot holds more than G trains, 17 the members of
-- each group share one slot
abbrev pub slot_checks : Limits → Yard → List ℕ → List Check
slot_checks l y row =
    must (eqb (length row) y.trains) 11 (0 ∷ [])
    ∷ must (each y.trains (in_window y.first y.last row)) 12 (suc (lowest y.trains (strays y.first y.last row)) ∷ [])
    ∷ must (each y.slots λ t. roomy y.trains y.tracks row (suc t)) 13 (suc (lowest y.slots (overfull y.trains y.tracks row)) ∷ [])
    ∷ must (kept y.trains y.groups row) 17 (suc (lowest l.groups λ g. parted y.trains y.groups row (suc g)) ∷ [])
    ∷ []

-- a row of a sound day
unfoldable pub valued_row : Limits → Yard → List ℕ → Answer Outcome
valued_row l y row = checked (slot_checks l y row) (gives (outcome y row))

-- 8 the record is sound, then those
abbrev pub row_checks : Limits → Yard → List ℕ → List Check
row_checks l y row = must (sound l y) 8 (0 ∷ []) ∷ slot_checks l y row

unfoldable pub valued : Limits → Yard → List ℕ → Answer Outcome
valued l y row = checked (row_checks l y row) (gives (outcome y row))
