-- `period_answering::put_period` meets its contract. A report that is given fits; a refusal's two lines do.
-- where the function began, from behind the report; that place, from each of the two cases
use mathlib.Core.Path.{◌≡◌, sym, ap, ◌∙◌}
use native.Mathlib.Omega.{arith}
use Rattle.day.specs.Answer.{gives, refusal, judged}
use Rattle.day.specs.Sound.{day_limits}
use Rattle.output.specs.Laws.{put_count}
use Rattle.planning.specs.Planning.{cost_area, choice_area}
use Rattle.answering.specs.Laws.{fits_most}
use Rattle.reporting.specs.Period.{period_report}
use Rattle.report_text.specs.Size.{report_bytes}
use Rattle.period_answering.specs.Laws.{reply_is, given_countable, given_fits}
use Rattle.period_answering.proofs.put_period.Goals as goal

pub put_report-requires : goal.put_report-requires
put_report-requires c =
    let given : period_report day_limits c.args.text.now cost_area choice_area ≡ gives c.report_period-reported.result.report = let p = c.report_period-reported in
    sym p.ensures.report_value ∙ ap (λ v. judged v p.result.report) c.in-Ok.is in
    let r = c.report_period-reported.result.report in
    (given_countable c.args.text.now r given, omega (arith, given_fits c.args.text.now r given, c.requires))

pub returns-in-Ok : goal.returns-in-Ok
returns-in-Ok c =
    let given : period_report day_limits c.args.text.now cost_area choice_area ≡ gives c.report_period-reported.result.report = let p = c.report_period-reported in
    sym p.ensures.report_value ∙ ap (λ v. judged v p.result.report) c.in-Ok.is in
    let q = c.put_report.ensures in
    let text = c.args.text.now in
    (rw (← reply_is text (sym given)) q, omega (arith, put_count q, given_fits text c.report_period-reported.result.report given))

pub returns-in-Err : goal.returns-in-Err
returns-in-Err c =
    let refused : refusal c.in-Err.refusal ≡ period_report day_limits c.args.text.now cost_area choice_area = let p = c.report_period-reported in
    sym (ap (λ v. judged v p.result.report) c.in-Err.is) ∙ p.ensures.report_value in
    rw (← reply_is c.args.text.now refused) (fits_most report_bytes (omega arith) c.put_refusal.ensures)
