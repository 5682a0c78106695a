-- `lent_calendar::tell_window` meets its contract: too few hours, or what the call answers.
use borrow.Author.Tests.{lt-leb}
use Rattle.lent_calendar.specs.LentCalendar.{window_lent}
use Rattle.lent_calendar.specs.Laws.{tells_window}
use Rattle.lent_calendar.proofs.tell_window.Goals as goal

pub returns-then-hours-lt-HOURS : goal.returns-then-hours-lt-HOURS
unfolding window_lent
returns-then-hours-lt-HOURS c = let few = lt-leb _ _ c.if-hours-lt-HOURS.true in record { value = rw few; first_after = rw few; last_after = rw few }

pub returns : goal.returns
returns c =
    let told = tells_window _ _ _ _ c.calendar_of.ensures c.date_of.ensures c.train_window-found.result.verdict c.number_of.ensures c.if-hours-lt-HOURS.false _ _ c.train_window-found.ensures.window_value c.train_window-found.ensures.window_value_2 in
    record { value = told.0; first_after = told.1; last_after = told.2 }
