-- What a row of slots comes to beside the planned cost: 14 with the lowest position that is left without a slot, then 14 with 0 where the row
-- parts a group (order 4 of document 02), else its four numbers and the saving.
-- Assumes nothing.
use Rattle.std.specs.Prelude.{◌≡◌, List, [], ◌∷◌, ℕ, suc, eqb, ℤ, pos, ◌-ℤ◌}
use Rattle.model.specs.Model.{Yard, Outcome, outcome, cost, kept}
use Rattle.day.specs.Answer.{Answer, gives, refuses, judged, Check, must, checked}
use Rattle.counting.specs.Counting.{outcome_of, no_outcome}
use Rattle.procedures.specs.Procedures.{left_over}
use Rattle.comparing.specs.declared.Baseline.{Baseline}

-- a row's four numbers, and its cost less the planned cost
pub record Comparison : Type 0 where
  pub outcome : Outcome
  pub saving : ℤ

-- ---- the numbers of the code's record

abbrev pub comparison_of : Baseline → Comparison
comparison_of b = record { outcome = outcome_of b.value; saving = b.saving }

-- the numbers beside the answer, zeros with a refusal
abbrev pub comparison_or_zero : Answer Comparison → Comparison
comparison_or_zero (gives c) = c
comparison_or_zero (refuses k carries) = record { outcome = no_outcome; saving = pos 0 }

-- ---- the answer

-- 14 every train has a slot, and the members of each group have the same
abbrev pub served_checks : Yard → List ℕ → List Check
served_checks y row =
    must (eqb (left_over y.trains row) y.trains) 14 (suc (left_over y.trains row) ∷ [])
    ∷ must (kept y.trains y.groups row) 14 (0 ∷ [])
    ∷ []

-- a row on a day whose planned cost is given
unfoldable pub against : Yard → List ℕ → ℕ → Answer Comparison
against y row best = checked (served_checks y row) (gives record { outcome = outcome y row; saving = pos (cost y row) -ℤ pos best })

-- the code's record says an answer, with its numbers or zeros beside it
pub record Says (a : Answer Comparison) (b : Baseline) : Type 0 where
  pub says : judged b.verdict (comparison_of b) ≡ a
  pub beside : comparison_of b ≡ comparison_or_zero a
