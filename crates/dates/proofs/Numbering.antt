-- Laws of Numbering.antt of specs/.
-- There are 36,525 dates: dates and the numbers below 36,525 correspond, by the day number one way and by counting on from the first
-- date the other way. So each date but the last has one next.
-- Assumes nothing.
use Rattle.std.specs.Prelude.{◌≡◌, refl, ℕ, zero, suc, ◌+◌, ◌-◌, ◌≤◌, ◌<◌, T}
use Rattle.std.proofs.Common.{sym, ◌∙◌, ⊎_elim, eq-or-lt_of_le, le_of_suc-le-suc, add-one, arith}
use Rattle.std.proofs.Math.Path.{ap}
use Rattle.fold.specs.Counting.{le_or_lt}
use Rattle.fold.specs.Fold.{sum}
use Rattle.dates.specs.declared.Date.{Date}
use Rattle.dates.specs.Dates.{leap, month_days, year_days, date, last_date, is_date, days_before_year, days_before_month, day_number, next}
use Rattle.dates.proofs.DateLaws.{date_is, months_of_year, years_next, months_next}
use Rattle.dates.proofs.Following.{next-number, next-date}
use Rattle.dates.specs.Numbering.{date_at}

-- ---- days before later years and months

sum_front : (f : ℕ → ℕ) (i k : ℕ) → i ≤ k → sum i f ≤ sum k f
unfolding sum
sum_front f i zero h = let e : i ≡ 0 = omega arith in rw e (omega arith)
sum_front f i (suc k) h =
    ⊎_elim (λ (e : i ≡ suc k). rw e (omega arith)) (λ (l : i < suc k). omega (arith, sum_front f i k (le_of_suc-le-suc l))) (eq-or-lt_of_le h)

years_rise : (a b : ℕ) → a ≤ b → days_before_year a ≤ days_before_year b
unfolding days_before_year
years_rise a b h = sum_front (λ k. year_days (2000 + k)) (a - 2000) (b - 2000) (omega arith)

months_rise : (year a b : ℕ) → a ≤ b → days_before_month year a ≤ days_before_month year b
unfolding days_before_month
months_rise year a b h = sum_front (λ k. month_days year (suc k)) (a - 1) (b - 1) (omega arith)

-- ---- a date's number lies in its year, and there in its month

in_month : (d : Date) → T (is_date d) → day_number d < days_before_year d.year + days_before_month d.year (suc d.month)
unfolding day_number
in_month d t =
    let k = date_is d t in
    omega (arith, months_next d.year d.month k.month_from, ap (days_before_month d.year) (add-one d.month))

in_year : (d : Date) → T (is_date d) → day_number d < days_before_year (suc d.year)
in_year d t =
    let k = date_is d t in
    omega (
      arith,
      in_month d t,
      months_rise d.year (suc d.month) 13 (omega arith),
      months_next d.year 12 (omega arith),
      months_of_year d.year,
      years_next d.year k.year_from,
      ap days_before_year (add-one d.year),
    )

-- ---- the numbers

before_2100 : days_before_year 2100 ≡ 36525
unfolding days_before_year sum leap
before_2100 = refl

last_number : day_number last_date ≡ 36524
unfolding day_number days_before_year days_before_month month_days sum leap
last_number = refl

pub number_below : (d : Date) → T (is_date d) → day_number d < 36525
number_below d t =
    let k = date_is d t in
    omega (arith, in_year d t, years_rise (suc d.year) 2100 (omega arith), before_2100)

-- two dates with one number are the same
module _ (a b : Date) (s : T (is_date a)) (t : T (is_date b)) where
  earlier_year : a.year < b.year → day_number a < day_number b
  unfolding day_number
  earlier_year h = omega (arith, in_year a s, years_rise (suc a.year) b.year h)

  earlier_month : a.year ≡ b.year → a.month < b.month → day_number a < day_number b
  unfolding day_number
  earlier_month e h =
      omega (arith, in_month a s, months_rise a.year (suc a.month) b.month h, ap (λ y. days_before_month y b.month) e, ap days_before_year e)

same_year : (a b : Date) → T (is_date a) → T (is_date b) → day_number a ≡ day_number b → a.year ≤ b.year
same_year a b s t e = ⊎_elim (λ l. l) (λ (h : b.year < a.year). absurd (omega (arith, earlier_year b a t s h))) (le_or_lt a.year b.year)

same_month : (a b : Date) → T (is_date a) → T (is_date b) → day_number a ≡ day_number b → a.year ≡ b.year → a.month ≤ b.month
same_month a b s t e y =
    ⊎_elim (λ l. l) (λ (h : b.month < a.month). absurd (omega (arith, earlier_month b a t s (sym y) h))) (le_or_lt a.month b.month)

pub number_once : (a b : Date) → T (is_date a) → T (is_date b) → day_number a ≡ day_number b → a ≡ b
unfolding day_number
number_once a b s t e =
    let year : a.year ≡ b.year = omega (arith, same_year a b s t e, same_year b a t s (sym e)) in
    let month : a.month ≡ b.month = omega (arith, same_month a b s t e year, same_month b a t s (sym e) (sym year)) in
    let before-year : days_before_year a.year ≡ days_before_year b.year = ap days_before_year year in
    let before-month : days_before_month a.year a.month ≡ days_before_month b.year b.month = λ i. days_before_month (year i) (month i) in
    let from-a = (date_is a s).day_from_lem in
    let from-b = (date_is b t).day_from_lem in
    let day : a.day ≡ b.day = omega arith in
    λ i. date (year i) (month i) (day i)

-- no other date has the number after a date's than the next
pub next_only : (d e : Date) → T (is_date d) → (d ≡ last_date → ⊥) → T (is_date e) → day_number e ≡ suc (day_number d) → e ≡ next d
next_only d e t not_last s number = number_once e (next d) s (next-date d t not_last) (number ∙ sym (next-number d t))

pub date-at : (n : ℕ) → n < 36525 → T (is_date (date_at n)) × (day_number (date_at n) ≡ n)
unfolding date_at is_date month_days day_number days_before_year days_before_month sum leap
date-at zero h = (tt, refl)
date-at (suc n) h =
    let (is-date-n, number-n) = date-at n (omega arith) in
    let not_last : date_at n ≡ last_date → ⊥ = λ e. omega (arith, sym (ap day_number e) ∙ number-n, last_number) in
    (next-date (date_at n) is-date-n not_last, next-number (date_at n) is-date-n ∙ ap suc number-n)
