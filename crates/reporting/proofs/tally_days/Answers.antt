use mathlib.Core.Path.{sym, ◌∙◌, subst}
use native.Mathlib.Omega.{arith}
use Rattle.day_figures.specs.Laws.{Small}
use Rattle.period_report.specs.Laws.{sum_limit}
use Rattle.reporting.specs.Laws.{day_light, tallied_light, tallied_next, tallied_last}
use Rattle.reporting.proofs.tally_days.Goals as goal

-- ---- the places: the start, from a turn of the loop; the place behind the search for an empty line, from that behind the day, and this one,
-- from that behind the tally

pub add_day-tally-requires : goal.add_day-tally-requires
add_day-tally-requires c =
    (tallied_light c.loop-tally.invariant.0 c.requires.0, subst (Small sum_limit) (sym c.day_of-day.ensures) (day_light _))

pub returns-then-text-end : goal.returns-then-text-end
returns-then-text-end c =
    tallied_last c.loop-tally.invariant.0 c.next_empty-end.ensures c.day_of-day.ensures c.add_day-tally.ensures c.if-text-end.true

pub loop-tally-preserved : goal.loop-tally-preserved
loop-tally-preserved c =
    let t = c.loop-tally.invariant in (
      tallied_next t.0 c.next_empty-end.ensures c.day_of-day.ensures c.add_day-tally.ensures (omega (arith, c.if-text-end.false)),
      (c.day_of-day.auto.cost ∙ t.1.0, c.day_of-day.auto.choice ∙ t.1.1),
    )
