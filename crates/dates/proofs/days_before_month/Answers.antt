-- `dates::days_before_month` meets its contract: a sum over the months before.
use Rattle.std.proofs.Common.{◌∙◌, arith, rules}
use Rattle.fold.proofs.Ranges.{range_sum_gives, range_sum_fits}
use Rattle.dates.specs.Dates.{month_days}
use Rattle.dates.proofs.DateLaws.{months_most, months_from_first}
use Rattle.dates.proofs.days_before_month.Goals as goal

pub sum-requires-clause-fits : goal.sum-requires-clause-fits
sum-requires-clause-fits c =
    let year = c.args.year in
    let month = c.args.month in
    range_sum_fits _ (month_days year) 1 month c.map.result c.map.ensures.source c.map.ensures.closure (λ x r q k. search rules) _
    (omega (arith, months_most year month, months_from_first year month))

pub returns : goal.returns
returns c =
    let year = c.args.year in
    let month = c.args.month in
    let total = range_sum_gives _ (month_days year) 1 month c.map.result c.map.ensures.source c.map.ensures.closure (λ x r q k. search rules) c.sum.result c.sum.ensures.ran in
    (total ∙ months_from_first year month, omega (arith, months_most year month, months_from_first year month))
