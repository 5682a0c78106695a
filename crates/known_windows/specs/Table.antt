-- Dates with their weekdays, numbers that are no dates, and calendars with the slots of a date and the window of a train, as one table, and the
-- one theorem that every line holds:
--     every-line : (l : Line) → List.Memᴰ l table → Holds l
-- What a line says is `Holds` of Lines.antt. The calendars and windows were worked out by hand by the one who wrote the test program (tests/days,
-- calendar_known.rs) from the papers and has not seen these definitions; weekdays and month ends are those of Python's `datetime`.
-- Assumes nothing.
use Rattle.std.specs.Prelude.{◌≡◌, refl, ℕ, ◌+◌, T, take}
use mathlib.Core.List.{List, [], ◌∷◌, Memᴰ}
use Rattle.fold.specs.Test.{same_list}
use Rattle.fold.specs.Table.{all_pass, all_hold}
use Rattle.fold.specs.Fold.{sum, count, some, each, lowest}
use Rattle.fold.specs.Listed.{listed}
use Rattle.fold.specs.Column.{filled}
use Rattle.dates.specs.Dates.{leap, month_days, date, is_date, same_date, days_before_year, days_before_month, day_number, weekday}
use Rattle.slot_times.specs.Slots.{slots_between, earliest_slot, latest_slot, first_slot, last_slot}
use Rattle.opening_hours.specs.Calendar.{calendar_valid, is_closed, used_slots, slots_on, window_of}
use Rattle.lent_calendar.specs.LentCalendar.{week_of, closed_of, slots_lent, window_lent}
use Rattle.known_windows.specs.Lines.{Line, dated, undated, asked, told, Holds, passes, line_holds}

-- ---- calendars

-- With slots of an hour: Monday 6:00 to 14:00, eight that end at closing; Tuesday 6:00 to 15:00, nine; Wednesday 6:00 to 13:59, a minute short of
-- eight; Thursday 6:00 to 14:01; Friday 8:00 to 13:00, five; Saturday 8:00 to 12:00, four; Sunday 10:00 to 10:00, none.
abbrev pub week : List ℕ
week = 360 ∷ 840 ∷ 360 ∷ 900 ∷ 360 ∷ 839 ∷ 360 ∷ 841 ∷ 480 ∷ 780 ∷ 480 ∷ 720 ∷ 600 ∷ 600 ∷ []

-- on Sunday it closes before it opens; at a minute that there is not
abbrev pub backward : List ℕ
backward = 360 ∷ 840 ∷ 360 ∷ 900 ∷ 360 ∷ 839 ∷ 360 ∷ 841 ∷ 480 ∷ 780 ∷ 480 ∷ 720 ∷ 600 ∷ 599 ∷ []

abbrev pub midnight : List ℕ
midnight = 360 ∷ 840 ∷ 360 ∷ 900 ∷ 360 ∷ 839 ∷ 360 ∷ 841 ∷ 480 ∷ 780 ∷ 480 ∷ 720 ∷ 600 ∷ 1440 ∷ []

-- open as long as can be said; too few hours
abbrev pub always : List ℕ
always = 0 ∷ 1439 ∷ 0 ∷ 1439 ∷ 0 ∷ 1439 ∷ 0 ∷ 1439 ∷ 0 ∷ 1439 ∷ 0 ∷ 1439 ∷ 0 ∷ 1439 ∷ []

abbrev pub thirteen : List ℕ
thirteen = take 13 week

-- the first days of 2026
unfoldable pub days : ℕ → List ℕ
days n = take n
    (20260101 ∷ 20260102 ∷ 20260103 ∷ 20260104 ∷ 20260105 ∷ 20260106 ∷ 20260107 ∷ 20260108 ∷ 20260109
    ∷ 20260110 ∷ 20260111 ∷ 20260112 ∷ 20260113 ∷ 20260114 ∷ 20260115 ∷ 20260116 ∷ 20260117 ∷ 20260118 ∷ 20260119 ∷ 20260120 ∷ 20260121
    ∷ 20260122 ∷ 20260123 ∷ 20260124 ∷ 20260125 ∷ 20260126 ∷ 20260127 ∷ 20260128 ∷ 20260129 ∷ 20260130 ∷ 20260131 ∷ 20260201 ∷ 20260202 ∷ [])

-- ---- the table

unfoldable pub table : List Line
unfolding days
table =
    -- 1 January 2000, a Saturday, as the order has it; other dates whose weekday anyone can look up
    dated 20000101 5
    ∷ dated 20000228 0
    ∷ dated 20000229 1
    ∷ dated 20000301 2
    ∷ dated 20010911 1
    ∷ dated 20040229 6
    ∷ dated 20240229 3
    ∷ dated 20261118 2
    ∷ dated 20380119 1
    ∷ dated 20990228 5
    ∷ dated 20991231 3
    -- the ends of the months in a common year, and the days after them, which are none
    ∷ dated 20260131 5
    ∷ undated 20260132
    ∷ dated 20260228 5
    ∷ undated 20260229
    ∷ dated 20260331 1
    ∷ undated 20260332
    ∷ dated 20260430 3
    ∷ undated 20260431
    ∷ dated 20260531 6
    ∷ undated 20260532
    ∷ dated 20260630 1
    ∷ undated 20260631
    ∷ dated 20260731 4
    ∷ undated 20260732
    ∷ dated 20260831 0
    ∷ undated 20260832
    ∷ dated 20260930 2
    ∷ undated 20260931
    ∷ dated 20261031 5
    ∷ undated 20261032
    ∷ dated 20261130 0
    ∷ undated 20261131
    ∷ dated 20261231 3
    ∷ undated 20261232
    -- 29 February in leap years only; the days before the first date and after the last; no month, no day; numbers that are none
    ∷ undated 20000230
    ∷ undated 20010229
    ∷ undated 20240230
    ∷ undated 21000228
    ∷ undated 21000229
    ∷ undated 19991231
    ∷ undated 21000101
    ∷ undated 20260015
    ∷ undated 20261301
    ∷ undated 20261500
    ∷ undated 20260700
    ∷ undated 0
    ∷ undated 20260
    ∷ undated 202607060
    ∷ undated 4294967295
    -- Monday, the whole day
    ∷ asked week 60 [] 20260706 0 1439 (0 ∷ 8 ∷ 0 ∷ 1 ∷ 8 ∷ [])
    -- Tuesday, a ninth slot fits
    ∷ asked week 60 [] 20260707 0 1439 (0 ∷ 8 ∷ 0 ∷ 1 ∷ 8 ∷ [])
    -- Tuesday, only the ninth is in time
    ∷ asked week 60 [] 20260707 781 1439 (0 ∷ 8 ∷ 24 ∷ 0 ∷ 0 ∷ [])
    -- Wednesday, a minute short of eight
    ∷ asked week 60 [] 20260708 0 1439 (0 ∷ 7 ∷ 0 ∷ 1 ∷ 7 ∷ [])
    -- Thursday, at a start and at an end
    ∷ asked week 60 [] 20260709 420 600 (0 ∷ 8 ∷ 0 ∷ 2 ∷ 4 ∷ [])
    -- Thursday, a minute after a start
    ∷ asked week 60 [] 20260709 421 600 (0 ∷ 8 ∷ 0 ∷ 3 ∷ 4 ∷ [])
    -- Thursday, a minute before an end
    ∷ asked week 60 [] 20260709 420 599 (0 ∷ 8 ∷ 0 ∷ 2 ∷ 3 ∷ [])
    -- Friday, just one slot
    ∷ asked week 60 [] 20260710 720 780 (0 ∷ 5 ∷ 0 ∷ 5 ∷ 5 ∷ [])
    -- Friday, shorter than a slot
    ∷ asked week 60 [] 20260710 550 590 (0 ∷ 5 ∷ 24 ∷ 0 ∷ 0 ∷ [])
    -- Friday, away before it arrives
    ∷ asked week 60 [] 20260710 700 500 (0 ∷ 5 ∷ 24 ∷ 0 ∷ 0 ∷ [])
    -- Saturday, the first of all dates
    ∷ asked week 60 [] 20000101 480 719 (0 ∷ 4 ∷ 0 ∷ 1 ∷ 3 ∷ [])
    -- Sunday, closing as it opens
    ∷ asked week 60 [] 20001231 0 1439 (0 ∷ 0 ∷ 24 ∷ 0 ∷ 0 ∷ [])
    -- Sunday, closing before it opens
    ∷ asked backward 1 [] 20001231 0 1439 (0 ∷ 0 ∷ 24 ∷ 0 ∷ 0 ∷ [])
    -- 29 February 2000, a Tuesday
    ∷ asked week 180 [] 20000229 361 900 (0 ∷ 3 ∷ 0 ∷ 2 ∷ 3 ∷ [])
    -- the last of all dates, a Thursday
    ∷ asked week 481 (20991230 ∷ []) 20991231 360 841 (0 ∷ 1 ∷ 0 ∷ 1 ∷ 1 ∷ [])
    -- a closed date, named twice
    ∷ asked week 60 (20260706 ∷ 20260101 ∷ 20260706 ∷ []) 20260706 0 1439 (0 ∷ 0 ∷ 24 ∷ 0 ∷ 0 ∷ [])
    -- the 32nd of the closed dates
    ∷ asked week 60 (days 32) 20260201 0 1439 (0 ∷ 0 ∷ 24 ∷ 0 ∷ 0 ∷ [])
    -- a 33rd closed date
    ∷ asked week 60 (days 33) 20260706 0 1439 (23 ∷ 0 ∷ 23 ∷ 0 ∷ 0 ∷ [])
    -- slots of a minute
    ∷ asked always 1 [] 20260706 3 7 (0 ∷ 8 ∷ 0 ∷ 4 ∷ 7 ∷ [])
    -- the longest slot that there is room for
    ∷ asked always 1439 [] 20260706 0 1439 (0 ∷ 1 ∷ 0 ∷ 1 ∷ 1 ∷ [])
    -- a slot longer than any opening
    ∷ asked always 1440 [] 20260706 0 1439 (0 ∷ 0 ∷ 24 ∷ 0 ∷ 0 ∷ [])
    -- a slot length of 1441
    ∷ asked always 1441 [] 20260706 0 1439 (23 ∷ 0 ∷ 23 ∷ 0 ∷ 0 ∷ [])
    -- 29 February of a common year
    ∷ asked week 60 [] 20260229 0 1439 (23 ∷ 0 ∷ 23 ∷ 0 ∷ 0 ∷ [])
    -- 31 April among the closed dates
    ∷ asked week 60 (20260101 ∷ 20260431 ∷ []) 20260706 700 500 (23 ∷ 0 ∷ 23 ∷ 0 ∷ 0 ∷ [])
    -- a minute of another weekday
    ∷ asked midnight 60 (20260706 ∷ []) 20260706 0 1439 (23 ∷ 0 ∷ 23 ∷ 0 ∷ 0 ∷ [])
    -- departure at midnight
    ∷ asked week 60 [] 20260706 0 1440 (0 ∷ 8 ∷ 23 ∷ 0 ∷ 0 ∷ [])
    -- thirteen hours, and no date
    ∷ asked thirteen 0 (0 ∷ []) 20260229 0 1440 (10 ∷ 0 ∷ 10 ∷ 0 ∷ 0 ∷ [])
    ∷ []

-- the one computation
computed : T (all_pass passes table)
unfolding all_pass passes told same_list table days sum count some each lowest listed filled leap month_days is_date same_date days_before_year days_before_month day_number weekday slots_between earliest_slot latest_slot first_slot last_slot calendar_valid is_closed used_slots slots_on window_of week_of closed_of slots_lent window_lent
computed = tt

pub every_line : (l : Line) → Memᴰ l table → Holds l
every_line = all_hold passes Holds line_holds table computed

-- ---- all dates, counted over years, months and days: as many as Numbering.antt of dates has numbers for

pub dates_counted : sum 100 (λ y. sum 13 λ m. count 32 λ k. is_date (date (2000 + y) m k)) ≡ 36525
unfolding sum count is_date month_days leap
dates_counted = refl
