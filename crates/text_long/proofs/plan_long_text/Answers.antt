-- `text_long::plan_long_text` meets its contract. The room, then the two cases of reading.
use Rattle.std.specs.Prelude.{◌≡◌, true, leb, length}
use Rattle.std.proofs.Math.Path.{sym}
use borrow.Author.Tests.{le-leb, lt-leb}
use Rattle.long_day.specs.LongDay.{long_yard}
use Rattle.text_long.specs.TextLong.{long_number_count}
use Rattle.text_long.specs.Laws.{plans_nothing, plans_refused, plans_day}
use Rattle.text_long.proofs.plan_long_text.Goals as goal

pub returns-then-numbers-lt6 : goal.returns-then-numbers-lt6
returns-then-numbers-lt6 c =
    let a = c.args in
    let p = plans_nothing a.text.now a.width a.row.now a.numbers.now (lt-leb long_number_count _ c.if-numbers-lt6.true) in
    record { value = p.says; numbers_after = p.numbers_are_lem; row_after = p.row_is; trains_after = p.written }

pub returns-in-Ok : goal.returns-in-Ok
returns-in-Ok c =
    let a = c.args in
    let room : leb long_number_count (length a.numbers.now) ≡ true = le-leb long_number_count _ c.if-numbers-lt6.false in
    let p = plans_day a.text.now a.width a.row.now a.numbers.now (long_yard c.in-Ok.day) room (sym c.in-Ok.ensures) c.plan_long_day.ensures in
    record { value = p.says; numbers_after = p.numbers_are_lem; row_after = p.row_is; trains_after = p.written }

pub returns-in-Err : goal.returns-in-Err
returns-in-Err c =
    let a = c.args in
    let room : leb long_number_count (length a.numbers.now) ≡ true = le-leb long_number_count _ c.if-numbers-lt6.false in
    let p = plans_refused a.text.now a.width a.row.now a.numbers.now c.in-Err.refusal room (sym c.in-Err.ensures) c.tell_long.ensures in
    record { value = p.says; numbers_after = p.numbers_are_lem; row_after = p.row_is; trains_after = p.written }
