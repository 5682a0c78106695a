-- The date after another: its day number is one more, its weekday the next, and it is a date of the calendar unless
-- the date is the last.
-- Assumes nothing.
use Rattle.std.specs.Prelude.{◌≡◌, refl, suc, ◌+◌, ◌%◌, ◌≤◌, ◌<◌, T}
use Rattle.std.proofs.Common.{sym, ap, ◌∙◌, subst, mod-lt, add-one, arith}
use Rattle.std.proofs.Math.Logic.{⊎_elim}
use Rattle.std.proofs.Math.Nat.{mod-add-mod}
use borrow.Author.Tests.{lt-ltb, le-ltb}
use Rattle.fold.specs.Counting.{le_or_lt}
use Rattle.fold.specs.Fold.{sum}
use Rattle.dates.specs.declared.Date.{Date}
use Rattle.dates.specs.Dates.{leap, date, first_date, last_date, is_date, month_days, year_days, days_before_year, days_before_month, day_number, weekday, next}
use Rattle.dates.proofs.DateLaws.{date_is, is_date_lem, month_between, months_of_year, years_next, no_months, months_next}

-- ---- the three ways on: the next day of the month, the first of the next month, 1 January

module _ (P : Date → Type 0) (d : Date) where
  by_next : (d.day < month_days d.year d.month → P (date d.year d.month (suc d.day)))
      → (month_days d.year d.month ≤ d.day → d.month < 12 → P (date d.year (suc d.month) 1))
      → (month_days d.year d.month ≤ d.day → 12 ≤ d.month → P (date (suc d.year) 1 1))
      → P (next d)
  unfolding next
  by_next day month year =
      let days = month_days d.year d.month in
      ⊎_elim
      (λ (full : days ≤ d.day).
      ⊎_elim
      (λ (end : 12 ≤ d.month). rw (le-ltb d.day days full, le-ltb d.month 12 end) (year full end))
      (λ (in_year : d.month < 12). rw (le-ltb d.day days full, lt-ltb d.month 12 in_year) (month full in_year))
      (le_or_lt 12 d.month))
      (λ (in_month : d.day < days). rw (lt-ltb d.day days in_month) (day in_month))
      (le_or_lt days d.day)

-- ---- numbers and weekdays

pub next-number : (d : Date) → T (is_date d) → day_number (next d) ≡ suc (day_number d)
unfolding day_number
next-number d t =
    let k = date_is d t in
    by_next (λ (e : Date). day_number e ≡ suc (day_number d)) d
    (λ in_month. omega arith)
    (λ full in_year. omega (arith, months_next d.year d.month k.month_from, ap (days_before_month d.year) (add-one d.month)))
    (λ full end.
    let december : d.month ≡ 12 = omega arith in
    let months : days_before_month d.year d.month + month_days d.year d.month ≡ year_days d.year =
    subst (λ m. days_before_month d.year m + month_days d.year m ≡ year_days d.year) (sym december) (months_of_year d.year) in
    omega (arith, years_next d.year k.year_from, ap days_before_year (add-one d.year), no_months (suc d.year), months))

pub weekday_below : (d : Date) → weekday d < 7
unfolding weekday
weekday_below d = mod-lt _ (omega arith)

-- 1 January 2000 is a Saturday
pub first_weekday : weekday first_date ≡ 5
unfolding weekday day_number days_before_year days_before_month month_days sum leap
first_weekday = refl

pub next-weekday : (d : Date) → T (is_date d) → weekday (next d) ≡ (weekday d + 1) % 7
unfolding weekday
next-weekday d t =
    let number : 5 + day_number (next d) ≡ 5 + day_number d + 1 = omega (arith, next-number d t) in
    ap (λ n. n % 7) number ∙ sym (mod-add-mod (5 + day_number d) 7 1)

-- ---- the next date is a date, but for the last

-- only the last date ends the last year
year_left : (d : Date) → T (is_date d) → (d ≡ last_date → ⊥) → month_days d.year d.month ≤ d.day → 12 ≤ d.month → suc d.year ≤ 2099
unfolding month_days
year_left d t not_last full end =
    let k = date_is d t in
    let month : d.month ≡ 12 = omega arith in
    let day : d.day ≡ 31 = omega (arith, ap (month_days d.year) month) in
    ⊎_elim (λ (l : suc d.year ≤ 2099). l)
    (λ (h : 2099 < suc d.year).
    let year : d.year ≡ 2099 = omega arith in
    absurd (not_last (λ i. date (year i) (month i) (day i))))
    (le_or_lt (suc d.year) 2099)

pub next-date : (d : Date) → T (is_date d) → (d ≡ last_date → ⊥) → T (is_date (next d))
next-date d t not_last =
    let k = date_is d t in
    by_next (λ (e : Date). T (is_date e)) d
    (λ in_month. is_date_lem _ record {
      year_from = k.year_from;
      year_to = k.year_to;
      month_from = k.month_from;
      month_to = k.month_to;
      day_from_lem = omega arith;
      day_to = in_month;
    })
    (λ full in_year. is_date_lem _ record {
      year_from = k.year_from;
      year_to = k.year_to;
      month_from = omega arith;
      month_to = in_year;
      day_from_lem = omega arith;
      day_to = omega (arith, (month_between d.year (suc d.month) (omega arith) in_year).0);
    })
    (λ full end. is_date_lem _ record {
      year_from = omega arith;
      year_to = year_left d t not_last full end;
      month_from = omega arith;
      month_to = omega arith;
      day_from_lem = omega arith;
      day_to = omega (arith, (month_between (suc d.year) 1 (omega arith) (omega arith)).0);
    })
