-- A yard's calendar and what the calls of order 11 of document 02 answer, for any calendar, date and minutes: 23 where something that is
-- handed over is out of range, 24 where the train has no slot, else the slots of the date or the train's window.
-- Assumes nothing.
use Rattle.std.specs.Prelude.{Bool, cond, ◌&&◌, List, [], ◌∷◌, ℕ, leb, get_or}
use Rattle.fold.specs.Fold.{some, each}
use Rattle.day.specs.Answer.{Answer, gives, where_given, must, checked}
use Rattle.dates.specs.declared.Date.{Date}
use Rattle.dates.specs.Dates.{date, between, is_date, same_date, weekday}
use Rattle.slot_times.specs.Slots.{slots_between, first_slot, last_slot}
use Rattle.opening_hours.specs.declared.Calendar.{Calendar}
use Rattle.opening_hours.specs.declared.Hours.{Hours}
use Rattle.opening_hours.specs.declared.Window.{Window}

-- ---- what 23 asks of a calendar: everything in it, but for the places of closed dates past their count

abbrev pub hours : ℕ → ℕ → Hours
hours opens closes = record { opens = opens; closes = closes }

-- the hours of a weekday; closed date i
abbrev pub hours_at : List Hours → ℕ → Hours
hours_at week w = get_or week w (hours 0 0)

abbrev pub closed_date : List Date → ℕ → Date
closed_date closed i = get_or closed i (date 0 0 0)

-- "a minute above 1,439"
abbrev pub is_minute : ℕ → Bool
is_minute x = leb x 1439

abbrev pub hours_valid : List Hours → ℕ → Bool
hours_valid week w = is_minute (hours_at week w).opens && is_minute (hours_at week w).closes

abbrev pub closed_valid : List Date → ℕ → Bool
closed_valid closed i = is_date (closed_date closed i)

-- "a 33rd closed date or a slot length outside 1..1,440"
unfoldable pub calendar_valid : Calendar → Bool
calendar_valid c =
    leb c.count 32 && each 7 (hours_valid c.hours) && each c.count (closed_valid c.closed) && between 1 1440 c.length

-- ---- the slots of a date

unfoldable pub is_closed : List Date → ℕ → Date → Bool
is_closed closed count d = some count λ i. same_date (closed_date closed i) d

-- the hours of its weekday
abbrev pub hours_on : Calendar → Date → Hours
hours_on c d = hours_at c.hours (weekday d)

-- "A closed date, or a weekday not closing after it opens, has no slots"
unfoldable pub used_slots : Calendar → Date → ℕ
used_slots c d = cond (is_closed c.closed c.count d) 0 (slots_between (hours_on c d).opens (hours_on c d).closes c.length)

-- ---- the calls

-- 23 for the calendar and the date
abbrev pub date_valid : Calendar → Date → Bool
date_valid c d = calendar_valid c && is_date d

unfoldable pub slots_on : Calendar → Date → Answer ℕ
slots_on c d = checked (must (date_valid c d) 23 (0 ∷ []) ∷ []) (gives (used_slots c d))

-- 0 beside a refusal
abbrev pub slots_or_zero : Answer ℕ → ℕ
slots_or_zero a = where_given a 0 λ slots. slots

-- 23 for these and the train's minutes
abbrev pub train_valid : Calendar → Date → ℕ → ℕ → Bool
train_valid c d arrival departure = date_valid c d && (is_minute arrival && is_minute departure)

abbrev pub window : ℕ → ℕ → Window
window first last = record { first = first; last = last }

abbrev pub first_of : Calendar → Date → ℕ → ℕ
first_of c d arrival = first_slot (hours_on c d).opens c.length (used_slots c d) arrival

abbrev pub last_of : Calendar → Date → ℕ → ℕ
last_of c d departure = last_slot (hours_on c d).opens c.length (used_slots c d) departure

-- 24 where first to last holds no slot
unfoldable pub window_of : Calendar → Date → ℕ → ℕ → Answer Window
window_of c d arrival departure =
    checked (must (train_valid c d arrival departure) 23 (0 ∷ []) ∷ must (leb (first_of c d arrival) (last_of c d departure)) 24 (0 ∷ []) ∷ [])
    (gives (window (first_of c d arrival) (last_of c d departure)))

-- zeros beside a refusal
abbrev pub window_or_zero : Answer Window → Window
window_or_zero a = where_given a (window 0 0) λ w. w
