-- `text_period::tell_report` meets its contract. The room, then the report or the refusal; in both cases the report beside it is stored.
-- ---- the places: past the test of the room, from behind the report; and behind the report, from behind the storing
use mathlib.Core.Path.{◌≡◌, ◌∙◌}
use native.Mathlib.Omega.{arith}
use lib.ListN.{length}
use borrow.Author.Rules.{rules}
use Rattle.refusals.specs.Numbers.{judged-number}
use Rattle.period_report.specs.Report.{counters}
use Rattle.text_period.specs.Laws.{numbers_length, tells_short, tells_report}
use Rattle.text_period.proofs.tell_report.Goals as goal

pub returns-then-numbers-lt40 : goal.returns-then-numbers-lt40
returns-then-numbers-lt40 c =
    let told = tells_short c.args.text.now c.args.numbers.now c.if-numbers-lt40.true in
    record { value = told.0; numbers_after = told.1 }

pub returns : goal.returns
returns c =
    let size : length c.report_period-reported.result.report.days ≡ counters = search rules in
    let a = c.args in
    let p = c.report_period-reported in
    let told = tells_report a.text.now a.numbers.now (omega (arith, c.if-numbers-lt40.false)) p.ensures.report_value p.ensures.report_value_2 (numbers_length p.result.report size)
    (c.number_of.ensures ∙ judged-number p.result.verdict p.result.report) c.store_report.ensures in
    record { value = told.0; numbers_after = told.1 }
