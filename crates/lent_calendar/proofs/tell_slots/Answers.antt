-- `lent_calendar::tell_slots` meets its contract: too few hours, or what the call answers.
use borrow.Author.Tests.{lt-leb}
use Rattle.lent_calendar.specs.LentCalendar.{slots_lent}
use Rattle.lent_calendar.specs.Laws.{tells_slots}
use Rattle.lent_calendar.proofs.tell_slots.Goals as goal

pub returns-then-hours-lt-HOURS : goal.returns-then-hours-lt-HOURS
unfolding slots_lent
returns-then-hours-lt-HOURS c = let few = lt-leb _ _ c.if-hours-lt-HOURS.true in record { value = rw few; slots_after = rw few }

pub returns : goal.returns
returns c =
    let told = tells_slots _ _ _ _ c.calendar_of.ensures c.date_of.ensures c.slots_on-found.result.verdict c.number_of.ensures c.if-hours-lt-HOURS.false c.slots_on-found.ensures.slots_value c.slots_on-found.ensures.slots_value_2 in
    record { value = told.0; slots_after = told.1 }
