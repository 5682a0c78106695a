-- `dates::days_before_year` meets its contract: a sum over the years before.
use Rattle.std.proofs.Common.{arith, rules}
use Rattle.fold.proofs.Ranges.{range_sum_gives, range_sum_fits}
use Rattle.dates.specs.Dates.{year_days, days_before_year}
use Rattle.dates.proofs.DateLaws.{years_most}
use Rattle.dates.proofs.days_before_year.Goals as goal

pub sum-requires-clause-fits : goal.sum-requires-clause-fits
unfolding days_before_year
sum-requires-clause-fits c = range_sum_fits _ year_days 2000 c.args.year c.map.result c.map.ensures.source c.map.ensures.closure (λ x r q k. search rules) _ (omega (arith, years_most c.args.year))

pub returns : goal.returns
unfolding days_before_year
returns c =
    let e = range_sum_gives _ year_days 2000 c.args.year c.map.result c.map.ensures.source c.map.ensures.closure (λ x r q k. search rules) c.sum.result c.sum.ensures.ran in
    (e, omega (arith, years_most c.args.year))
