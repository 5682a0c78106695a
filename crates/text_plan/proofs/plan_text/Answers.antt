-- `text_plan::plan_text` meets its contract. The room, then the two cases of reading.
use Rattle.std.specs.Prelude.{◌≡◌, true, leb, length}
use Rattle.std.proofs.Math.Path.{sym, ap}
use Rattle.std.proofs.Common.{◌∙◌}
use Rattle.day.specs.Answer.{gives, refusal, judged}
use Rattle.day.specs.Sound.{day_limits, yard}
use Rattle.dayfile.specs.Reading.{read_day}
use Rattle.telling.specs.Telling.{number_count}
use Rattle.text_plan.specs.Laws.{plans_nothing, plans_refused, plans_day}
use Rattle.text_plan.proofs.plan_text.Goals as goal

pub returns-then-not-is_room : goal.returns-then-not-is_room
returns-then-not-is_room c =
    let a = c.args in
    let p = plans_nothing day_limits a.text.now a.cost.now a.choice.now a.row.now a.numbers.now (sym c.is_room.ensures ∙ c.if-not-is_room.true) in
    record { value = p.says; numbers_after = p.numbers_are_lem; row_after = p.row_is; trains_after = p.written; stays = p.costs; stays_2 = p.choices }

pub returns-in-Ok : goal.returns-in-Ok
returns-in-Ok c =
    let a = c.args in
    let room : leb number_count (length c.args.numbers.now) ≡ true = sym c.is_room.ensures ∙ c.if-not-is_room.false in
    let p = plans_day day_limits a.text.now a.cost.now a.choice.now a.row.now a.numbers.now (yard c.in-Ok.day) room (sym c.in-Ok.ensures) c.plan_day.ensures in
    record { value = p.says; numbers_after = p.numbers_are_lem; row_after = p.row_is; trains_after = p.written; stays = p.costs; stays_2 = p.choices }

pub returns-in-Err : goal.returns-in-Err
returns-in-Err c =
    let a = c.args in
    let room : leb number_count (length c.args.numbers.now) ≡ true = sym c.is_room.ensures ∙ c.if-not-is_room.false in
    let p = plans_refused day_limits a.text.now a.cost.now a.choice.now a.row.now a.numbers.now c.in-Err.refusal room (sym c.in-Err.ensures) c.tell.ensures in
    record { value = p.says; numbers_after = p.numbers_are_lem; row_after = p.row_is; trains_after = p.written; stays = p.costs; stays_2 = p.choices }
