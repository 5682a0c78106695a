-- `lent_calendar::closed_of` meets its contract. The loop's invariant: the dates lent so far stand in their places.
use Rattle.std.proofs.Common.{◌≡◌, ◌≤◌, length, get_or}
use Rattle.fold.specs.Column.{filled}
use Rattle.dates.specs.Dates.{date}
use Rattle.lent_calendar.specs.LentCalendar.{date_of}
use Rattle.lent_calendar.proofs.closed_of.Given as goal

abbrev pub invariant-loop-i : goal.invariant-loop-i
invariant-loop-i l = (l.i ≤ length l.closed) × (l.i ≤ 32) × (l.dates ≡ filled (date 0 0 0) 32 l.i (λ k. date_of (get_or l.closed k 0)))
