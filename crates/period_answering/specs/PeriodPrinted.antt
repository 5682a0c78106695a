-- What yard-season prints for any text, in the words of order 10:
--   period-printed   the lines of the report over the days of the text, each as reading and planning answer it, where these are up to 366; else
--                    the two lines of 22, and no totals.
-- reporting's Promised.antt and day_figures' Means.antt say what the figures are.
-- Assumes nothing.
use Rattle.std.specs.Prelude.{◌≡◌, List, map, ◌⊎◌, ℕ, ◌≤◌, ◌<◌, length}
use Rattle.std.proofs.Common.{ap, inl, inr, ⊎_elim, arith}
use Rattle.fold.specs.Counting.{le_or_lt}
use Rattle.day.specs.Sound.{day_limits}
use Rattle.decimal.specs.Decimal.{digits_within}
use Rattle.lines.specs.Lines.{ascii, row_text}
use Rattle.refusal_text.specs.RefusalText.{line_names, refusal_text}
use Rattle.answering.specs.Answering.{reply_by}
use Rattle.parting.specs.Parting.{days}
use Rattle.day_figures.specs.Figures.{day_answer}
use Rattle.period_report.specs.Report.{report_of}
use Rattle.report_text.specs.ReportText.{report_text}
use Rattle.reporting.specs.Promised.{report_taken, report_many}
use Rattle.period_answering.specs.PeriodAnswering.{period_text}

pub record PrintsReport (text printed : List ℕ) : Type 0 where
  pub few : length (days text) ≤ 366
  pub lines : printed ≡ report_text (report_of (map (day_answer day_limits) (days text)))

pub record PrintsMany (text printed : List ℕ) : Type 0 where
  pub many : 366 < length (days text)
  pub lines : printed ≡ ascii "refusal line\n22 0\n"

pub period_printed : (text : List ℕ) → PrintsReport text (period_text text) ⊎ PrintsMany text (period_text text)
unfolding period_text refusal_text line_names row_text digits_within
period_printed text =
    ⊎_elim
    (λ (h : length (days text) ≤ 366). inl (record { few = h; lines = ap (reply_by report_text) (report_taken text 4096 32768 (omega arith) (omega arith) h) }))
    (λ (h : 366 < length (days text)). inr (record { many = h; lines = ap (reply_by report_text) (report_many text 4096 32768 (omega arith) (omega arith) h) }))
    (le_or_lt (length (days text)) 366)
