-- `report_text::put_report` meets its contract. The three parts of the text, one after the other.
-- where the function began, from the call for the days; the place after that call, from the one for the refusals; and the one after that,
-- from the call for the figures
use native.Mathlib.Omega.{arith}
use Rattle.decimal.specs.PlaceLaws.{put_text}
use Rattle.report_text.specs.Laws.{report_lines, report_length}
use Rattle.report_text.proofs.put_report.Goals as goal

pub put_days-refusals-requires : goal.put_days-refusals-requires
put_days-refusals-requires c = (c.requires.0, omega (arith, report_length c.args.report, c.requires.1))

pub put_refusals-figures-requires : goal.put_refusals-figures-requires
put_refusals-figures-requires c =
    (c.requires.0.size, omega (arith, report_length c.args.report, c.requires.1, c.put_days-refusals.ensures.next, c.put_days-refusals.auto.out))

pub put_figures-requires : goal.put_figures-requires
put_figures-requires c =
    omega (arith, report_length c.args.report, c.requires.1, c.put_days-refusals.ensures.next, c.put_days-refusals.auto.out, c.put_refusals-figures.ensures.next, c.put_refusals-figures.auto.out)

pub returns : goal.returns
returns c =
    rw (report_lines c.args.report) (put_text (put_text c.put_days-refusals.ensures c.put_refusals-figures.ensures) c.put_figures.ensures)
