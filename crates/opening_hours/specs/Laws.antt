-- What a valid calendar says, field by field; and the answers from what the code has found.
-- Assumes nothing.
use Rattle.std.specs.Prelude.{◌≡◌, Bool, ◌&&◌, [], ◌∷◌, ℕ, ◌≤◌, ◌<◌, leb}
use Rattle.std.proofs.Common.{ap, ◌∙◌}
use Rattle.std.proofs.Math.Bool.{true, false, cond}
use native.Mathlib.Omega.{arith}
use Rattle.std.proofs.Math.Dec.{T}
use borrow.Author.Tests.{leb-true, le-leb, lt-leb}
use Rattle.fold.specs.Test.{is_true, of_true, both, both_of}
use Rattle.fold.specs.Fold.{each, each_at, each_i}
use Rattle.day.specs.Answer.{gives, refuses}
use Rattle.dates.specs.declared.Date.{Date}
use Rattle.dates.specs.Dates.{between, is_date, weekday}
use Rattle.dates.proofs.DateLaws.{between_is, is_between}
use Rattle.dates.proofs.Following.{weekday_below}
use Rattle.slot_times.specs.Slots.{slots_between, first_slot, last_slot}
use Rattle.slot_times.proofs.Laws.{slots_divided}
use Rattle.opening_hours.specs.declared.Calendar.{Calendar}
use Rattle.opening_hours.specs.declared.Hours.{Hours}
use Rattle.opening_hours.specs.Calendar.{hours_at, closed_date, is_minute, hours_valid, closed_valid, calendar_valid, is_closed, hours_on, used_slots, date_valid, slots_on, slots_or_zero, train_valid, window, first_of, last_of, window_of, window_or_zero}

-- ---- a valid calendar, field by field

pub record ValidCalendar (c : Calendar) : Type 0 where
  pub few : c.count ≤ 32
  pub opens : (w : ℕ) → w < 7 → (hours_at c.hours w).opens ≤ 1439
  pub closes : (w : ℕ) → w < 7 → (hours_at c.hours w).closes ≤ 1439
  pub dates : (i : ℕ) → i < c.count → T (is_date (closed_date c.closed i))
  pub shortest : 1 ≤ c.length
  pub longest : c.length ≤ 1440
