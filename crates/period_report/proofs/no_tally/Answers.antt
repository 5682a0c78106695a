-- `period_report::no_tally` meets its contract: all figures of no days are 0.
use mathlib.Core.Path.{sym}
use Rattle.period_report.specs.Laws.{tally_none}
use Rattle.period_report.proofs.no_tally.Goals as goal

pub returns : goal.returns
returns c = sym tally_none
