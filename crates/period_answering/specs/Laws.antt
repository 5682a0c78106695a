-- How the answer to a period's text comes about: a report that is given fits, and a refusal's two lines do.
-- Assumes nothing.
use Rattle.std.specs.Prelude.{◌≡◌, refl, List, ℕ, ◌≤◌, ◌<◌, length, get_or}
use Rattle.std.proofs.Common.{sym, ap, ◌∙◌, subst, arith}
use Rattle.std.proofs.lemmas.List.{length-map}
use Rattle.day.specs.Answer.{Answer, gives}
use Rattle.day.specs.Sound.{day_limits}
use Rattle.planning.specs.Planning.{cost_area, choice_area}
use Rattle.answering.specs.Answering.{reply_by}
use Rattle.parting.specs.Parting.{days}
use Rattle.day_figures.specs.Figures.{day_answer}
use Rattle.day_figures.specs.Laws.{Within}
use Rattle.period_report.specs.Report.{counters, mean, means_of}
use Rattle.period_report.specs.Laws.{tally_size, days-within, mean-most}
use Rattle.period_report.specs.declared.Report.{Report}
use Rattle.report_text.specs.ReportText.{report_text}
use Rattle.report_text.specs.Laws.{Countable}
use Rattle.report_text.specs.Size.{report_bytes, most_total, MeanWithin, MeansWithin, report_size}
use Rattle.reporting.specs.Period.{answers, period_report}
use Rattle.reporting.specs.Promised.{report_is, report_most}
use Rattle.period_answering.specs.PeriodAnswering.{period_text}

pub reply_is : (text : List ℕ) {a : Answer Report} → a ≡ period_report day_limits text cost_area choice_area → reply_by report_text a ≡ period_text text
unfolding period_text
reply_is text e = ap (reply_by report_text) e

-- ---- a report that is given

module _ (text : List ℕ) (r : Report) (said : period_report day_limits text cost_area choice_area ≡ gives r) where
  few : (k : ℕ) → k < counters → get_or r.days k 0 ≤ 366
  few k h =
      let all = answers day_limits text in
      omega (
        arith,
        ap (λ (r : Report). get_or r.days k 0) (report_is text cost_area choice_area r said).0,
        days-within all k h,
        length-map (days text) (day_answer day_limits),
        (report_is text cost_area choice_area r said).1,
      )

  pub given_countable : Countable r.days
  given_countable = record {
    size = ap (λ (r : Report). length r.days) (report_is text cost_area choice_area r said).0 ∙ tally_size (answers day_limits text);
    few = λ k h. omega (arith, few k h);
  }

  totals : Within most_total r.totals
  totals = report_most text cost_area choice_area r said

  -- a mean's two numbers are no more than its total
  mean-within : (total planned : ℕ) → total ≤ most_total → MeanWithin most_total (mean total planned)
  mean-within total planned h = let (q, m) = mean-most total planned in (omega arith, omega arith)

  means : MeansWithin most_total r.means
  means =
      subst (MeansWithin most_total)
      (sym (subst (λ (r : Report). r.means ≡ means_of r.totals (get_or r.days 0 0)) (sym (report_is text cost_area choice_area r said).0) refl))
      (record {
        revisits = mean-within r.totals.revisits (get_or r.days 0 0) totals.revisits;
        splits = mean-within r.totals.splits (get_or r.days 0 0) totals.splits;
        direct = mean-within r.totals.direct (get_or r.days 0 0) totals.direct;
        boxes = mean-within r.totals.boxes (get_or r.days 0 0) totals.boxes;
      })

  pub given_fits : length (report_text r) ≤ report_bytes
  given_fits = report_size r (record { days = few; totals = totals; means = means })
