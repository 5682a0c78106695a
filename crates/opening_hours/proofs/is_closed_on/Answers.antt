use Rattle.std.proofs.Common.{rules}
use Rattle.fold.proofs.Chains.{any_some}
use Rattle.dates.proofs.Equal.{equal_is_same}
use Rattle.opening_hours.specs.Calendar.{is_closed}
use Rattle.opening_hours.proofs.is_closed_on.Goals as goal

pub returns : goal.returns
unfolding is_closed
returns c = any_some _ _ _ _ _ c.any.ensures.ran (λ x q k. search (rules, equal_is_same)) (λ x q k. search (rules, equal_is_same))
