-- What yard-season prints for a text (docs/FORMAT.md): the lines of the report over its days, or the two lines of refusal 22. This file is what a
-- reader must believe of the program.
-- Assumes nothing.
use Rattle.std.specs.Prelude.{List, [], ℕ, length}
use Rattle.day.specs.Answer.{Answer}
use Rattle.day.specs.Sound.{day_limits}
use Rattle.planning.specs.Planning.{cost_area, choice_area}
use Rattle.output.specs.Output.{writes, leaves}
use Rattle.output.specs.Laws.{Filled, filled}
use Rattle.answering.specs.Answering.{reply_by}
use Rattle.report_text.specs.ReportText.{report_text}
use Rattle.reporting.specs.Period.{period_report}

-- in areas that suffice for every day
unfoldable pub period_text : List ℕ → List ℕ
period_text text = reply_by report_text (period_report day_limits text cost_area choice_area)

-- ---- the call: the answer is written into the output, with no check before

abbrev pub period_writes : List ℕ → ℕ → Answer ℕ
period_writes text size = writes [] (period_text text) size

abbrev pub period_leaves : List ℕ → List ℕ → List ℕ
period_leaves text out = leaves [] (period_text text) out

pub period_filled : (text out : List ℕ) → Filled (period_text text) out (period_writes text (length out)) (period_leaves text out)
period_filled text out = filled [] (period_text text) out
