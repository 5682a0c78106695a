-- What reading refuses is handed up; what it accepts is valued.
use Rattle.std.proofs.Common.{ap, ◌∙◌}
use Rattle.std.proofs.lemmas.Result.{err_from_is_err_and}
use Rattle.day.specs.Answer.{on_given}
use Rattle.long_day.specs.LongDay.{long_limits}
use Rattle.valuing.specs.Valuing.{valued}
use Rattle.text_long.proofs.value_on.Goals as goal

pub returns-in_err-day : goal.returns-in_err-day
returns-in_err-day c =
    let p = err_from_is_err_and c.from_residual.result c.from_residual.ensures.1 in
    rw (p.1, p.2) (ap (λ r. on_given r λ y. valued long_limits y c.args.row.now) c.in_err-day.ensures)

pub returns : goal.returns
returns c = c.value_long_assignment.ensures ∙ ap (λ r. on_given r λ y. valued long_limits y c.args.row.now) c.in_ok-day.ensures
