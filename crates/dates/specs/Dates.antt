-- The dates of order 11 of document 02, 1 January 2000 to 31 December 2099: leap years, month lengths, which dates there are, a date's
-- number and weekday, the next date. The rules are those of the Gregorian calendar.
-- Assumes nothing.
use Rattle.std.specs.Prelude.{Bool, not, cond, ◌&&◌, ◌||◌, List, [], ◌∷◌, ℕ, suc, ◌+◌, ◌-◌, ◌%◌, ltb, leb, eqb, get_or}
use Rattle.fold.specs.Fold.{sum}
use Rattle.dates.specs.declared.Date.{Date}

-- ---- leap years and month lengths

abbrev pub multiple_of : ℕ → ℕ → Bool
multiple_of k year = eqb (year % k) 0

-- every fourth year, but of the full centuries every fourth only
unfoldable pub leap : ℕ → Bool
leap year = multiple_of 4 year && (not (multiple_of 100 year) || multiple_of 400 year)

-- January to December, in a leap year or another
abbrev pub month_lengths : Bool → List ℕ
month_lengths isLeap = 31 ∷ cond isLeap 29 28 ∷ 31 ∷ 30 ∷ 31 ∷ 30 ∷ 31 ∷ 31 ∷ 30 ∷ 31 ∷ 30 ∷ 31 ∷ []

-- the days of a month, 1 for January; 0 where the number is no month's
unfoldable pub month_days : ℕ → ℕ → ℕ
month_days year month = get_or (0 ∷ month_lengths (leap year)) month 0

abbrev pub year_days : ℕ → ℕ
year_days year = cond (leap year) 366 365

-- ---- the dates

abbrev pub date : ℕ → ℕ → ℕ → Date
date year month day = record { year = year; month = month; day = day }

abbrev pub first_date : Date
first_date = date 2000 1 1

abbrev pub last_date : Date
last_date = date 2099 12 31

abbrev pub between : ℕ → ℕ → ℕ → Bool
between least greatest x = leb least x && leb x greatest

-- the date is one of those from the first to the last
unfoldable pub is_date : Date → Bool
is_date d = between 2000 2099 d.year && between 1 12 d.month && between 1 (month_days d.year d.month) d.day

unfoldable pub same_date : Date → Date → Bool
same_date a b = eqb a.year b.year && eqb a.month b.month && eqb a.day b.day

-- ---- day numbers and weekdays

-- the days from 1 January 2000 to 1 January of the year, and from there to the first of the month
unfoldable pub days_before_year : ℕ → ℕ
days_before_year year = sum (year - 2000) λ k. year_days (2000 + k)

unfoldable pub days_before_month : ℕ → ℕ → ℕ
days_before_month year month = sum (month - 1) λ k. month_days year (suc k)

-- the days from the first date to this one
unfoldable pub day_number : Date → ℕ
day_number d = days_before_year d.year + days_before_month d.year d.month + (d.day - 1)

-- 0 for Monday to 6 for Sunday; 1 January 2000 is a Saturday
unfoldable pub weekday : Date → ℕ
weekday d = (5 + day_number d) % 7

-- ---- the day after

unfoldable pub next : Date → Date
next d =
    cond (ltb d.day (month_days d.year d.month)) (date d.year d.month (suc d.day))
    (cond (ltb d.month 12) (date d.year (suc d.month) 1) (date (suc d.year) 1 1))
