-- What comparing a procedure with planning on the day of a text comes to.
-- Assumes nothing.
use Rattle.std.specs.Prelude.{List, ℕ}
use Rattle.model.specs.Model.{Yard, Outcome}
use Rattle.day.specs.Answer.{Answer, gives, refuses}
use Rattle.day.specs.declared.Limits.{Limits}
use Rattle.planning.specs.Planning.{cost_area, choice_area}
use Rattle.comparing.specs.Comparing.{Comparison}
use Rattle.baselines.specs.Baselines.{compared}
use Rattle.telling.specs.Telling.{for_day}

unfoldable pub compare_text : (Yard → List ℕ) → Limits → List ℕ → ℕ → Answer Comparison
compare_text procedure l text size = for_day l text size λ y. compared l y (procedure y) cost_area choice_area

-- its numbers without the saving
abbrev pub outcomes : Answer Comparison → Answer Outcome
outcomes (gives c) = gives c.outcome
outcomes (refuses k carries) = refuses k carries
