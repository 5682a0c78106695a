-- What a caller who lends room for numbers is told about the days of a text (document 02, order 10): the numbers of the report, in the order of
-- include/yard.h, or what the refusal carries and zeros.
-- Assumes nothing.
use Rattle.std.specs.Prelude.{List, [], ◌∷◌, ◌++◌, ℕ, leb}
use Rattle.day.specs.Answer.{Answer, must, checked}
use Rattle.day.specs.declared.Limits.{Limits}
use Rattle.planning.specs.Planning.{cost_area, choice_area}
use Rattle.telling.specs.Telling.{after_by}
use Rattle.period_report.specs.declared.Mean.{Mean}
use Rattle.period_report.specs.declared.Report.{Report}
use Rattle.reporting.specs.Period.{period_report}

-- how many numbers a report has
abbrev pub report_count : ℕ
report_count = 40

abbrev pub mean_numbers : Mean → List ℕ
mean_numbers m = m.quotient ∷ m.remainder ∷ []

-- the totals, and behind them the means
abbrev pub figure_numbers : Report → List ℕ
figure_numbers r =
    r.totals.revisits ∷ r.totals.splits ∷ r.totals.direct ∷ r.totals.boxes ∷ r.totals.savings
    ∷ (mean_numbers r.means.revisits ++ mean_numbers r.means.splits ++ mean_numbers r.means.direct ++ mean_numbers r.means.boxes)

-- the days planned at 0 and those refused under k at k; the totals from 27 on; the means from 32 on
abbrev pub report_numbers : Report → List ℕ
report_numbers r = r.days ++ figure_numbers r

-- the report over the days of a text, for a caller who lends room for `size` numbers and no areas: 10 where these are fewer
unfoldable pub report_for : Limits → List ℕ → ℕ → Answer Report
report_for l text size = checked (must (leb report_count size) 10 (0 ∷ []) ∷ []) (period_report l text cost_area choice_area)

abbrev pub report_after : Answer Report → List ℕ → List ℕ
report_after = after_by report_count report_numbers
