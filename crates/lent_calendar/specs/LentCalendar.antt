-- A calendar that is lent as numbers (include/yard.h, order 11 of document 02), and what the calls answer for it.
-- Assumes nothing.
use Rattle.std.specs.Prelude.{List, [], ◌∷◌, ℕ, ◌+◌, ◌*◌, ◌/◌, ◌%◌, leb, length, get_or}
use Rattle.fold.specs.Listed.{listed}
use Rattle.fold.specs.Column.{filled}
use Rattle.day.specs.Answer.{Answer, must, checked}
use Rattle.dates.specs.declared.Date.{Date}
use Rattle.dates.specs.Dates.{date}
use Rattle.opening_hours.specs.declared.Calendar.{Calendar}
use Rattle.opening_hours.specs.declared.Hours.{Hours}
use Rattle.opening_hours.specs.declared.Window.{Window}
use Rattle.opening_hours.specs.Calendar.{hours, slots_on, window_of}

-- a date as one number, year × 10,000 + month × 100 + day
abbrev pub date_of : ℕ → Date
date_of x = date (x / 10000) (x / 100 % 100) (x % 100)

-- opening and closing of Monday, of Tuesday, and so on
abbrev pub hours_of : List ℕ → ℕ → Hours
hours_of week w = hours (get_or week (2 * w) 0) (get_or week (2 * w + 1) 0)

unfoldable pub week_of : List ℕ → List Hours
week_of week = listed 7 (hours_of week)

-- the closed dates in 32 places
unfoldable pub closed_of : List ℕ → List Date
closed_of closed = filled (date 0 0 0) 32 (length closed) λ i. date_of (get_or closed i 0)

-- their count is that of all that are lent
abbrev pub calendar_of : List ℕ → ℕ → List ℕ → Calendar
calendar_of week minutes closed = record { hours = week_of week; length = minutes; closed = closed_of closed; count = length closed }

-- ---- what is answered: 10 where fewer than fourteen hours are lent, else as the calls answer

unfoldable pub slots_lent : List ℕ → ℕ → List ℕ → ℕ → Answer ℕ
slots_lent week minutes closed on =
    checked (must (leb 14 (length week)) 10 (0 ∷ []) ∷ []) (slots_on (calendar_of week minutes closed) (date_of on))

unfoldable pub window_lent : List ℕ → ℕ → List ℕ → ℕ → ℕ → ℕ → Answer Window
window_lent week minutes closed on arrival departure =
    checked (must (leb 14 (length week)) 10 (0 ∷ []) ∷ []) (window_of (calendar_of week minutes closed) (date_of on) arrival departure)
