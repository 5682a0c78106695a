-- `period_report::mean_of` meets its contract. Zeros where no day was planned.
use Rattle.period_report.specs.Laws.{mean_none, mean-some}
use Rattle.period_report.proofs.mean_of.Goals as goal

pub returns-then-planned-eq0 : goal.returns-then-planned-eq0
returns-then-planned-eq0 c = mean_none c.args.total c.args.planned c.if-planned-eq0.true

pub returns : goal.returns
returns c = mean-some c.args.total c.args.planned (λ e. c.if-planned-eq0.false e)
