-- The room, then what the text comes to.
use Rattle.std.proofs.Common.{sym, ◌∙◌}
use Rattle.day.specs.Sound.{day_limits}
use Rattle.text_value.specs.Laws.{no_value, told-value}
use Rattle.text_value.proofs.value_text.Goals as goal

pub returns-then-not-is_room : goal.returns-then-not-is_room
returns-then-not-is_room c =
    let told = no_value _ _ _ _ (sym c.is_room.ensures ∙ c.if-not-is_room.true) in
    record { value = told.0; numbers_after = told.1 }

pub returns : goal.returns
returns c =
    let s = c.args in
    let told = told-value day_limits s.text.now s.numbers.now s.row.now (sym c.is_room.ensures ∙ c.if-not-is_room.false) (sym c.value_on.ensures) c.tell_valued.ensures in
    record { value = told.0; numbers_after = told.1 }
