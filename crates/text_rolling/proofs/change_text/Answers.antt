-- The room, then the two cases of the kept state, by the laws `changes_..` of specs/Ways.antt.
use Rattle.std.proofs.Common.{sym}
use Rattle.rolling_state.specs.States.{state_in}
use Rattle.account_edits.specs.Accounts.{change_in}
use Rattle.text_rolling.specs.Ways.{changes_untold, changes_short, changes_unkept, changes_state}
use Rattle.text_rolling.proofs.change_text.Goals as goal

pub returns-then-not-is_room : goal.returns-then-not-is_room
returns-then-not-is_room c =
    let a = c.args in
    let p = changes_untold a.text.now a.closed a.row.now (change_in a.change) a.cost.now a.choice.now a.day.now a.next.now a.numbers.now (sym c.if-not-is_room.ensures) in
    record { value = p.says; numbers_after = p.numbers_are_lem; day_after = p.day_is_lem; next_after = p.next_is; stays = p.costs; stays_2 = p.choices }

pub returns-then-not-day-next : goal.returns-then-not-day-next
returns-then-not-day-next c =
    let a = c.args in
    let p = changes_short a.text.now a.closed a.row.now (change_in a.change) a.cost.now a.choice.now a.day.now a.next.now a.numbers.now (sym c.if-not-is_room.ensures) c.if-not-day-next.true c.tell.ensures in
    record { value = p.says; numbers_after = p.numbers_are_lem; day_after = p.day_is_lem; next_after = p.next_is; stays = p.costs; stays_2 = p.choices }

pub returns-in-Err : goal.returns-in-Err
returns-in-Err c =
    let a = c.args in
    let unkept = sym (rw c.in-Err.is at c.state_of-kept.ensures.result_value) in
    let p = changes_unkept a.text.now a.closed a.row.now (change_in a.change) a.cost.now a.choice.now a.day.now a.next.now a.numbers.now (sym c.if-not-is_room.ensures) c.if-not-day-next.false c.in-Err.why unkept c.tell-in-Err.ensures in
    record { value = p.says; numbers_after = p.numbers_are_lem; day_after = p.day_is_lem; next_after = p.next_is; stays = p.costs; stays_2 = p.choices }

pub returns : goal.returns
returns c =
    let a = c.args in
    let kept = sym (rw c.in_default.is at c.state_of-kept.ensures.result_value) in
    let p = changes_state a.text.now a.closed a.row.now (change_in a.change) a.cost.now a.choice.now a.day.now a.next.now a.numbers.now (sym c.if-not-is_room.ensures) c.if-not-day-next.false (state_in c.state_of-kept.result.state) kept c.change_state.ensures in
    record { value = p.says; numbers_after = p.numbers_are_lem; day_after = p.day_is_lem; next_after = p.next_is; stays = p.costs; stays_2 = p.choices }
