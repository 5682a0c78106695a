-- `text_savings::compare_text` meets its contract. The room, then the two cases of reading.
-- where the function began, from the place past the test of the room; that place, from the two cases of reading
use mathlib.Core.Path.{◌≡◌, sym, ap, ◌∙◌}
use mathlib.Core.Bool.{true}
use lib.Dec.{leb}
use lib.ListN.{length}
use Rattle.day.specs.Answer.{gives, refusal, on_given, judged}
use Rattle.day.specs.Sound.{day_limits, yard}
use Rattle.dayfile.specs.Reading.{read_day}
use Rattle.baselines.specs.Baselines.{row_by, compared}
use Rattle.planning.specs.Planning.{cost_area, choice_area}
use Rattle.telling.specs.Telling.{number_count}
use Rattle.text_savings.specs.Laws.{no_saving, told_refused, told-saving}
use Rattle.text_savings.proofs.compare_text.Goals as goal

pub returns-then-not-is_room : goal.returns-then-not-is_room
returns-then-not-is_room c =
    let s = c.args in
    let told = no_saving day_limits s.text.now s.numbers.now (row_by s.procedure) (sym c.is_room.ensures ∙ c.if-not-is_room.true) in
    record { value = told.0; numbers_after = told.1.0; saving_after = told.1.1 }

pub returns-in-Ok : goal.returns-in-Ok
returns-in-Ok c =
    let room : leb number_count (length c.args.numbers.now) ≡ true = sym c.is_room.ensures ∙ c.if-not-is_room.false in
    let s = c.args in
    let row = row_by s.procedure in
    let e = sym (ap (λ r. on_given r λ y. compared day_limits y (row y) cost_area choice_area) c.in-Ok.ensures) in
    let told = told-saving day_limits s.text.now s.numbers.now row room e c.compare_day.ensures in
    record { value = told.0; numbers_after = told.1.0; saving_after = told.1.1 }

pub returns-in-Err : goal.returns-in-Err
returns-in-Err c =
    let room : leb number_count (length c.args.numbers.now) ≡ true = sym c.is_room.ensures ∙ c.if-not-is_room.false in
    let s = c.args in
    let row = row_by s.procedure in
    let e = sym (ap (λ r. on_given r λ y. compared day_limits y (row y) cost_area choice_area) c.in-Err.ensures) in
    let told = told-saving day_limits s.text.now s.numbers.now row room e (told_refused c.in-Err.refusal c.tell.ensures) in
    record { value = told.0; numbers_after = told.1.0; saving_after = told.1.1 }
