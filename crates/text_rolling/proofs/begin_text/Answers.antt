-- The room, then the two cases of reading, by the laws `begins_..` of specs/Ways.antt.
use Rattle.std.proofs.Common.{sym, ap, leb→le, le-leb, length}
use Rattle.std.proofs.lemmas.Bool.{lt-leb}
use Rattle.fold.specs.Test.{of_true}
use Rattle.day.specs.Sound.{day_limits, yard}
use Rattle.telling.specs.Telling.{number_count}
use Rattle.dayfile.specs.RoundTrip.{read_write}
use Rattle.text_rolling.specs.Ways.{begins_untold, begins_short, begins_unread, begins_day}
use Rattle.text_rolling.proofs.begin_text.Goals as goal

pub returns-then-not-is_room : goal.returns-then-not-is_room
returns-then-not-is_room c =
    let a = c.args in
    let p = begins_untold a.text.now a.cost.now a.choice.now a.next.now a.numbers.now (sym c.if-not-is_room.ensures) in
    record { value = p.says; numbers_after = p.numbers_are_lem; next_after = p.next_is; stays = p.costs; stays_2 = p.choices }

pub returns-then-next-lt-MOST_TRAINS : goal.returns-then-next-lt-MOST_TRAINS
returns-then-next-lt-MOST_TRAINS c =
    let a = c.args in
    let p = begins_short a.text.now a.cost.now a.choice.now a.next.now a.numbers.now (sym c.if-not-is_room.ensures) (lt-leb 12 _ c.if-next-lt-MOST_TRAINS.true) c.tell.ensures in
    record { value = p.says; numbers_after = p.numbers_are_lem; next_after = p.next_is; stays = p.costs; stays_2 = p.choices }

pub returns-in-Err : goal.returns-in-Err
returns-in-Err c =
    let a = c.args in
    let p = begins_unread a.text.now a.cost.now a.choice.now a.next.now a.numbers.now (sym c.if-not-is_room.ensures) (le-leb 12 _ c.if-next-lt-MOST_TRAINS.false) c.in-Err.why (sym c.in-Err.ensures) c.tell-in-Err.ensures in
    record { value = p.says; numbers_after = p.numbers_are_lem; next_after = p.next_is; stays = p.costs; stays_2 = p.choices }

pub begin_day-requires : goal.begin_day-requires
begin_day-requires c = (
  ap length (read_write day_limits _ (yard c.in-Ok.day) (sym c.in-Ok.ensures)),
  (c.if-next-lt-MOST_TRAINS.false, leb→le number_count _ (of_true (sym c.if-not-is_room.ensures))),
)

pub returns-in-Ok : goal.returns-in-Ok
returns-in-Ok c =
    let a = c.args in
    let p = begins_day a.text.now a.cost.now a.choice.now a.next.now a.numbers.now (sym c.if-not-is_room.ensures) (le-leb 12 _ c.if-next-lt-MOST_TRAINS.false) (yard c.in-Ok.day) (sym c.in-Ok.ensures) c.begin_day.ensures in
    record { value = p.says; numbers_after = p.numbers_are_lem; next_after = p.next_is; stays = p.costs; stays_2 = p.choices }
