-- Laws of DateLaws.antt of specs/.
-- A date field by field; month lengths, and the days before a year or a month as the code's loops sum them. What holds of every month is
-- tested over the table of lengths, for a leap year and another.
-- Assumes nothing.
use Rattle.std.specs.Prelude.{◌≡◌, refl, Bool, true, false, cond, ◌&&◌, ◌∷◌, ℕ, zero, suc, ◌+◌, ◌-◌, ◌*◌, ◌≤◌, ◌<◌, T, leb, eqb, get_or}
use Rattle.std.proofs.Common.{ap, ◌∙◌, ⊎_elim, arith, leb-true, le-leb, eqb-true, eq-eqb}
use Rattle.std.proofs.Math.ListN.{get_or-eq_default}
use Rattle.fold.specs.Test.{is_true, of_true, both, both_of}
use Rattle.fold.specs.Counting.{le_or_lt}
use Rattle.fold.specs.Fold.{sum, sum_none, sum-next, each, each_at}
use Rattle.fold.specs.Sums.{sum_bound, sum_ext}
use Rattle.dates.specs.declared.Date.{Date}
use Rattle.dates.specs.Dates.{leap, month_lengths, month_days, year_days, date, between, is_date, same_date, days_before_year, days_before_month}
use Rattle.dates.specs.DateLaws.{IsDate, NoneOf}

-- ---- a value between two others

pub between_is : (least greatest x : ℕ) → T (between least greatest x) → (least ≤ x) × (x ≤ greatest)
between_is least greatest x t =
    let (l, h) = both_of (leb least x) (leb x greatest) t in
    (leb-true least x (is_true (leb least x) l), leb-true x greatest (is_true (leb x greatest) h))

pub is_between : (least greatest x : ℕ) → least ≤ x → x ≤ greatest → T (between least greatest x)
is_between least greatest x l h = both (leb least x) (leb x greatest) (of_true (le-leb least x l)) (of_true (le-leb x greatest h))

pub date_is : (d : Date) → T (is_date d) → IsDate d
unfolding is_date
date_is d t =
    let year = between 2000 2099 d.year in
    let month = between 1 12 d.month in
    let day = between 1 (month_days d.year d.month) d.day in
    let (ym, dd) = both_of (year && month) day t in
    let (yy, mm) = both_of year month ym in
    let (a, b) = between_is 2000 2099 d.year yy in
    let (e, f) = between_is 1 12 d.month mm in
    let (g, h) = between_is 1 (month_days d.year d.month) d.day dd in
    record { year_from = a; year_to = b; month_from = e; month_to = f; day_from_lem = g; day_to = h }

pub is_date_lem : (d : Date) → IsDate d → T (is_date d)
unfolding is_date
is_date_lem d k =
    let year = between 2000 2099 d.year in
    let month = between 1 12 d.month in
    let day = between 1 (month_days d.year d.month) d.day in
    both (year && month) day
    (both year month (is_between 2000 2099 d.year k.year_from k.year_to) (is_between 1 12 d.month k.month_from k.month_to))
    (is_between 1 (month_days d.year d.month) d.day k.day_from_lem k.day_to)

-- ---- the same date

pub same_date_lem : (a b : Date) → T (same_date a b) → a ≡ b
unfolding same_date
same_date_lem a b t =
    let (ym, dd) = both_of (eqb a.year b.year && eqb a.month b.month) (eqb a.day b.day) t in
    let (yy, mm) = both_of (eqb a.year b.year) (eqb a.month b.month) ym in
    let year = eqb-true a.year b.year (is_true (eqb a.year b.year) yy) in
    let month = eqb-true a.month b.month (is_true (eqb a.month b.month) mm) in
    let day = eqb-true a.day b.day (is_true (eqb a.day b.day) dd) in
    λ i. date (year i) (month i) (day i)

pub date_same : (a b : Date) → a ≡ b → T (same_date a b)
unfolding same_date
date_same a b e =
    let year = of_true (eq-eqb a.year b.year (ap (λ (d : Date). d.year) e)) in
    let month = of_true (eq-eqb a.month b.month (ap (λ (d : Date). d.month) e)) in
    let day = of_true (eq-eqb a.day b.day (ap (λ (d : Date). d.day) e)) in
    both (eqb a.year b.year && eqb a.month b.month) (eqb a.day b.day) (both (eqb a.year b.year) (eqb a.month b.month) year month) day

-- ---- a month's length

pub no_month : (year month : ℕ) → 12 < month → month_days year month ≡ 0
unfolding month_days
no_month year month h = get_or-eq_default (0 ∷ month_lengths (leap year)) 0 h

none_of_above : (n x : ℕ) → 1 ≤ x → NoneOf n x → n < x
none_of_above zero x l h = l
none_of_above (suc n) x l h =
    let below : n < x = none_of_above n x l h.0 in
    ⊎_elim (λ (e : x ≤ suc n). absurd (h.1 (omega arith))) (λ (a : suc n < x). a) (le_or_lt x (suc n))

pub none_of_months : (year month : ℕ) → NoneOf 12 month → month_days year month ≡ 0
unfolding month_days
none_of_months year zero h = refl
none_of_months year (suc k) h = no_month year (suc k) (none_of_above 12 (suc k) (omega arith) h)

lengths_between : (isLeap : Bool) → T (each 12 λ k. between 28 31 (get_or (month_lengths isLeap) k 0))
unfolding each
lengths_between true = tt
lengths_between false = tt

pub month_between : (year month : ℕ) → 1 ≤ month → month ≤ 12 → (28 ≤ month_days year month) × (month_days year month ≤ 31)
unfolding month_days
month_between year zero l h = absurd (omega arith)
month_between year (suc k) l h =
    between_is 28 31 (month_days year (suc k)) (each_at 12 (λ k. between 28 31 (month_days year (suc k))) (lengths_between (leap year)) k h)

pub month_at_most : (year month : ℕ) → month_days year month ≤ 31
unfolding month_days
month_at_most year zero = omega arith
month_at_most year (suc k) =
    ⊎_elim (λ (l : suc k ≤ 12). (month_between year (suc k) (omega arith) l).1) (λ (h : 12 < suc k). omega (arith, no_month year (suc k) h))
    (le_or_lt (suc k) 12)

-- ---- a year's length

-- the months of a year make up its days
pub months_of_year : (year : ℕ) → days_before_month year 12 + month_days year 12 ≡ year_days year
unfolding days_before_month month_days sum
months_of_year year = go (leap year)
  where
    go : (isLeap : Bool) → (sum 11 λ k. get_or (month_lengths isLeap) k 0) + 31 ≡ cond isLeap 366 365
    go true = refl
    go false = refl

-- ---- the days before a year and before a month

pub years_next : (year : ℕ) → 2000 ≤ year → days_before_year (year + 1) ≡ days_before_year year + year_days year
unfolding days_before_year
years_next year h =
    let from : ℕ → ℕ = λ k. year_days (2000 + k) in
    let one : year + 1 - 2000 ≡ year - 2000 + 1 = omega arith in
    let here : 2000 + (year - 2000) ≡ year = omega arith in
    ap (λ k. sum k from) one ∙ sum-next (year - 2000) from ∙ ap (λ k. sum (year - 2000) from + year_days k) here

pub no_months : (year : ℕ) → days_before_month year 1 ≡ 0
unfolding days_before_month
no_months year = sum_none (λ k. month_days year (suc k))

pub months_next : (year month : ℕ) → 1 ≤ month → days_before_month year (month + 1) ≡ days_before_month year month + month_days year month
unfolding days_before_month
months_next year month h =
    let one : month + 1 - 1 ≡ month - 1 + 1 = omega arith in
    let here : suc (month - 1) ≡ month = omega arith in
    ap (λ k. sum k (λ k. month_days year (suc k))) one ∙ sum-next (month - 1) (λ k. month_days year (suc k))
    ∙ ap (λ k. (sum (month - 1) λ k. month_days year (suc k)) + month_days year k) here

-- at most 366 days for each year, 31 for each month
pub years_most : (year : ℕ) → days_before_year year ≤ 366 * (year - 2000)
unfolding days_before_year
years_most year = omega (arith, sum_bound (year - 2000) 366 (λ k. year_days (2000 + k)) (λ k h. year_most (2000 + k)))
  where
    year_most : (year : ℕ) → year_days year ≤ 366
    year_most year = go (leap year)
      where
        go : (isLeap : Bool) → cond isLeap 366 365 ≤ 366
        go true = omega arith
        go false = omega arith

pub months_most : (year month : ℕ) → days_before_month year month ≤ 31 * (month - 1)
unfolding days_before_month
months_most year month = omega (arith, sum_bound (month - 1) 31 (λ k. month_days year (suc k)) (λ k h. month_at_most year (suc k)))

-- the months counted from the first
pub months_from_first : (year month : ℕ) → (sum (month - 1) λ k. month_days year (1 + k)) ≡ days_before_month year month
unfolding days_before_month
months_from_first year month = sum_ext (month - 1) (λ k. month_days year (1 + k)) (λ k. month_days year (suc k)) (λ k h. ap (month_days year) (omega arith))
