-- What the functions of a season can return, as include/yard.h says:
--   season-no-numbers      yard_season, without room for forty numbers: 10, whatever the text;
--   season-many            with room, and more than 366 days: 22;
--   season-taken           else 0, and the report is that over the days of the text;
--   season-returns         so with room it is 0 or 22, and never 10;
--   season-answer-returns  yard_season_answer, lent 512 bytes: 0, and the count of bytes is the answer's.
-- reporting's Promised.antt says what a report is, `report_places` of text_period which number stands where.
-- Assumes nothing.
use Rattle.std.specs.Prelude.{◌≡◌, List, map, ◌⊎◌, ℕ, ◌≤◌, ◌<◌, length}
use Rattle.std.proofs.Common.{ap, ◌∙◌, inl, inr, ⊎_elim, arith}
use borrow.Author.Tests.{le-leb}
use Rattle.fold.specs.Counting.{le_or_lt}
use Rattle.day.specs.Answer.{gives, code}
use Rattle.day.specs.Sound.{day_limits}
use Rattle.output.specs.Output.{writes}
use Rattle.parting.specs.Parting.{days}
use Rattle.day_figures.specs.Figures.{day_answer}
use Rattle.period_report.specs.Report.{report_of}
use Rattle.reporting.specs.Promised.{report_taken, report_many}
use Rattle.report_text.specs.Size.{report_bytes}
use Rattle.period_answering.specs.PeriodAnswering.{period_text, period_writes}
use Rattle.text_period.specs.TextPeriod.{report_for}
use Rattle.text_period.specs.Laws.{without_forty, with_forty}
use Rattle.yard.specs.Interface.{count}

module _ (text : List ℕ) where
  pub season_no_numbers : (numbers : List ℕ) → length numbers < 40 → code (report_for day_limits text (length numbers)) ≡ 10
  season_no_numbers numbers h = ap code (without_forty text numbers h).0

  module _ (size : ℕ) (room : 40 ≤ size) where
    pub season_many : 366 < length (days text) → code (report_for day_limits text size) ≡ 22
    season_many h = ap code (with_forty text size room ∙ report_many text 4096 32768 (omega arith) (omega arith) h)

    pub season_taken : length (days text) ≤ 366 → report_for day_limits text size ≡ gives (report_of (map (day_answer day_limits) (days text)))
    season_taken h = with_forty text size room ∙ report_taken text 4096 32768 (omega arith) (omega arith) h

    pub season_returns : let k = code (report_for day_limits text size) in (k ≡ 0) ⊎ (k ≡ 22)
    season_returns = ⊎_elim (λ (h : length (days text) ≤ 366). inl (ap code (season_taken h))) (λ (h : 366 < length (days text)). inr (season_many h)) (le_or_lt (length (days text)) 366)

  -- 512 bytes suffice, by the contract of `answer_period`
  pub season_answer_returns : length (period_text text) ≤ report_bytes → (size : ℕ) → 512 ≤ size → (code (period_writes text size) ≡ 0) × (count (period_writes text size) ≡ length (period_text text))
  unfolding writes
  season_answer_returns most size h = let e = le-leb (length (period_text text)) size (omega arith) in (rw e, rw e)
