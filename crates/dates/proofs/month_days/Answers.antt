-- `dates::month_days` meets its contract: month by month.
use Rattle.std.proofs.Common.{sym, rules}
use Rattle.dates.specs.Dates.{month_days}
use Rattle.dates.proofs.DateLaws.{none_of_months}
use Rattle.dates.proofs.month_days.Goals as goal

pub returns-in_default : goal.returns-in_default
unfolding month_days
returns-in_default c = sym (none_of_months _ _ (search rules))
