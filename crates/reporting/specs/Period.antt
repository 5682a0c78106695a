-- What the report over a period answers (document 02, order 10; its season), for any text and any areas: 10, then 22 for a 367th day, then
-- the report over what reading and planning answer for each day of the text; and what it leaves in lent memory.
-- Assumes nothing.
use Rattle.std.specs.Prelude.{Bool, List, [], ◌∷◌, map, ℕ, leb, length}
use Rattle.day.specs.Answer.{Answer, gives, refuses, Check, must, checked, holding}
use Rattle.day.specs.declared.Limits.{Limits}
use Rattle.planning.specs.Planning.{areas_suffice}
use Rattle.parting.specs.Parting.{days}
use Rattle.day_figures.specs.Figures.{day_answer}
use Rattle.day_figures.specs.declared.Figures.{Figures}
use Rattle.period_report.specs.Report.{most_days, report_of}
use Rattle.period_report.specs.declared.Report.{Report}

-- the answers to the days of a text
abbrev pub answers : Limits → List ℕ → List (Answer Figures)
answers l text = map (day_answer l) (days text)

-- ---- the call

-- 10 the areas; 22 the days, bad and empty ones among them
abbrev pub period_checks : List ℕ → ℕ → ℕ → List Check
period_checks text costs choices = must (areas_suffice costs choices) 10 (0 ∷ []) ∷ must (leb (length (days text)) most_days) 22 (0 ∷ []) ∷ []

unfoldable pub period_report : Limits → List ℕ → ℕ → ℕ → Answer Report
period_report l text costs choices = checked (period_checks text costs choices) (gives (report_of (answers l text)))

-- the report beside the answer: with a refusal that of no days, which is all zeros
abbrev pub report_or_zero : Answer Report → Report
report_or_zero (gives r) = r
report_or_zero (refuses k carries) = report_of []

-- ---- lent memory: of the two areas the words that every day can be planned in may change, and none where a check fails

abbrev pub period_begins : List ℕ → ℕ → ℕ → Bool
period_begins text costs choices = holding (period_checks text costs choices)
