-- What the planning call answers, for any record and any areas: the checks 8 and 10 of document 01, then the best plan, or 9 with the
-- first overbooked interval, or 16 of document 02; and what it leaves in lent memory.
-- Assumes nothing.
use Rattle.std.specs.Prelude.{◌≡◌, Bool, cond, ◌&&◌, List, [], ◌∷◌, ◌++◌, ◌⊎◌, ℕ, ◌*◌, ◌^◌, leb, length, drop, Result}
use Rattle.std.proofs.Math.Option.{Option, none, some}
use Rattle.model.specs.Model.{Yard, Outcome, outcome, bound_inside}
use Rattle.model.specs.BestOf.{best_of}
use Rattle.model.specs.Overbooked.{Interval, first_overbooked}
use Rattle.day.specs.Sound.{sound}
use Rattle.day.specs.Answer.{Answer, gives, refuses, answered, on_given, Check, must, checked}
use Rattle.day.specs.declared.Limits.{Limits}
use Rattle.counting.specs.Counting.{outcome_of}
use Rattle.counting.specs.declared.Value.{Value}
use Rattle.day.specs.declared.Refusal.{Refusal}

-- ---- the code's answer in 01's numbers

abbrev pub answer : Result Value Refusal → Answer Outcome
answer = answered outcome_of

-- ---- the words that planning needs of the two areas: 2^n of cost, T × 2^n of choice

abbrev pub cost_words : Yard → ℕ
cost_words y = 2 ^ y.trains

abbrev pub choice_words : Yard → ℕ
choice_words y = y.slots * 2 ^ y.trains

-- words that suffice for every day: callers that are lent no areas have their own of this size, and calls that plan several days or a changing
-- one need as many, whatever the trains are
abbrev pub cost_area : ℕ
cost_area = 4096

abbrev pub choice_area : ℕ
choice_area = 32768

abbrev pub areas_suffice : ℕ → ℕ → Bool
areas_suffice costs choices = leb cost_area costs && leb choice_area choices

-- the areas and the row are long enough
abbrev pub suffices : Yard → ℕ → ℕ → ℕ → Bool
suffices y costs choices bytes = leb (cost_words y) costs && leb (choice_words y) choices && leb y.trains bytes

-- ---- the answer

-- where no row is allowed: 9 with the first overbooked interval and the trains bound inside; 16 where none is overbooked
abbrev pub no_row : {X : Type 0} → Yard → Option Interval → Answer X
no_row y (some w) = refuses 9 (w.first ∷ w.last ∷ bound_inside y w.first w.last ∷ [])
no_row y none = refuses 16 (0 ∷ [])

-- the number of such a refusal
abbrev pub NoRowRefusal : ℕ → Type 0
NoRowRefusal k = (k ≡ 9) ⊎ (k ≡ 16)

-- the best row, or the refusal where there is none
abbrev pub best_row : Yard → Option (List ℕ) → Answer (List ℕ)
best_row y (some row) = gives row
best_row y none = no_row y (first_overbooked y)

abbrev pub best_answer : Yard → Option (List ℕ) → Answer Outcome
best_answer y best = on_given (best_row y best) λ row. gives (outcome y row)

abbrev pub plan_checks : Limits → Yard → ℕ → ℕ → ℕ → List Check
plan_checks l y costs choices bytes = must (sound l y) 8 (0 ∷ []) ∷ must (suffices y costs choices bytes) 10 (0 ∷ []) ∷ []

unfoldable pub planned : Limits → Yard → ℕ → ℕ → ℕ → Answer Outcome
planned l y costs choices bytes = checked (plan_checks l y costs choices bytes) (best_answer y (best_of y))

-- ---- lent memory

-- both checks hold
abbrev pub begins : Limits → Yard → ℕ → ℕ → ℕ → Bool
begins l y costs choices bytes = sound l y && suffices y costs choices bytes

-- the best plan in the first n bytes of the row
abbrev pub placed : Option (List ℕ) → List ℕ → List ℕ
placed (some best) row = best ++ drop (length best) row
placed none row = row

unfoldable pub row_after : Limits → Yard → ℕ → ℕ → List ℕ → List ℕ
row_after l y costs choices row = cond (begins l y costs choices (length row)) (placed (best_of y) row) row

-- of an area all words but the first `open_words` stay; those may hold anything. None is open where a check fails.
abbrev pub open_words : Bool → ℕ → ℕ
open_words begun words = cond begun words 0

abbrev pub Stays : ℕ → List ℕ → List ℕ → Type 0
Stays words before after = drop words after ≡ drop words before
