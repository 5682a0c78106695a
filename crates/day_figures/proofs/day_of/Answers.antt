-- The two cases of reading.
use Rattle.std.proofs.Common.{sym}
use Rattle.std.proofs.lemmas.Result.{err_from_is_err_and}
use Rattle.day.specs.Sound.{day_limits}
use Rattle.day_figures.specs.Laws.{day_read, day_unread}
use Rattle.day_figures.proofs.day_of.Goals as goal

pub returns-in_err-day : goal.returns-in_err-day
returns-in_err-day c =
    let p = err_from_is_err_and c.from_residual.result c.from_residual.ensures.1 in
    rw (p.1, p.2) (sym (day_unread day_limits c.args.text.now (sym c.in_err-day.ensures)))

pub returns : goal.returns
returns c = day_read day_limits c.args.text.now (sym c.in_ok-day.ensures) c.plan_day.ensures
