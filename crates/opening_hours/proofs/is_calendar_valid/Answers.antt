-- `opening_hours::is_calendar_valid` meets its contract. The count of closed dates is tested first, so that no date past 32 is read.
use borrow.Author.Tests.{lt-leb, le-leb}
use Rattle.opening_hours.specs.Calendar.{calendar_valid}
use Rattle.opening_hours.proofs.is_calendar_valid.Goals as goal

pub returns-then-calendar-gt-MOST_CLOSED : goal.returns-then-calendar-gt-MOST_CLOSED
unfolding calendar_valid
returns-then-calendar-gt-MOST_CLOSED c = rw (lt-leb _ _ c.if-calendar-gt-MOST_CLOSED.true)

pub returns : goal.returns
unfolding calendar_valid
returns c =
    let dates = c in
    let hours = dates in
    rw (le-leb _ _ hours.if-calendar-gt-MOST_CLOSED.false, hours.are_hours_valid.ensures, dates.are_closed_valid.ensures)
