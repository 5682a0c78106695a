use Rattle.std.proofs.Common.{rules}
use Rattle.fold.proofs.Filled.{made_listed}
use Rattle.opening_hours.specs.Calendar.{hours}
use Rattle.lent_calendar.specs.LentCalendar.{hours_of, week_of}
use Rattle.lent_calendar.proofs.week_of.Goals as goal

pub returns : goal.returns
unfolding week_of
returns c = made_listed _ _ (hours_of c.args.hours.now) (λ x r q k. search rules) (hours 0 0) c.from_fn.result 7 c.from_fn.ensures.items
