-- The rule of leap years in its own words, over all years and not only over those of the calendar: in these the rule of the full centuries
-- decides for 2000 alone, as every fourth year would. Month lengths as the rhyme has them. And what is known of the whole calendar: 97 leap
-- years and 146,097 days in 400 years.
-- Assumes nothing.
use Rattle.std.specs.Prelude.{◌≡◌, true, false, ℕ, ◌+◌, ◌*◌, ◌%◌}
use Rattle.std.proofs.Math.Path.{refl}
use native.Mathlib.Omega.{arith}
use borrow.Author.Tests.{eq-eqb, ne_eqb}
use Rattle.fold.specs.Fold.{sum, count}
use Rattle.dates.specs.Dates.{leap, month_days, year_days}

module _ (year : ℕ) where
  -- a year that 4 does not divide has no 29 February
  pub common_year : (year % 4 ≡ 0 → ⊥) → leap year ≡ false
  unfolding leap
  common_year h = rw (ne_eqb (year % 4) 0 h)

  -- one that 4 divides and 100 does not has one
  pub fourth_year : year % 4 ≡ 0 → (year % 100 ≡ 0 → ⊥) → leap year ≡ true
  unfolding leap
  fourth_year d h = rw (eq-eqb (year % 4) 0 d, ne_eqb (year % 100) 0 h)

  -- a full century has none
  pub century : year % 100 ≡ 0 → (year % 400 ≡ 0 → ⊥) → leap year ≡ false
  unfolding leap
  century d h =
      let by_4 : year % 4 ≡ 0 = omega arith in
      rw (eq-eqb (year % 4) 0 by_4, eq-eqb (year % 100) 0 d, ne_eqb (year % 400) 0 h)

  -- but for every fourth
  pub fourth_century : year % 400 ≡ 0 → leap year ≡ true
  unfolding leap
  fourth_century d =
      let by_4 : year % 4 ≡ 0 = omega arith in
      let by-100 : year % 100 ≡ 0 = omega arith in
      rw (eq-eqb (year % 4) 0 by_4, eq-eqb (year % 100) 0 by-100, eq-eqb (year % 400) 0 d)

-- thirty days have September, April, June and November; all the rest have thirty-one, but for February
module _ (year : ℕ) where
  pub thirty_days : (month_days year 9 ≡ 30) × (month_days year 4 ≡ 30) × (month_days year 6 ≡ 30) × (month_days year 11 ≡ 30)
  unfolding month_days
  thirty_days = (refl, refl, refl, refl)

  pub thirty_one_days : (month_days year 1 ≡ 31) × (month_days year 3 ≡ 31) × (month_days year 5 ≡ 31) × (month_days year 7 ≡ 31) × (month_days year 8 ≡ 31) × (month_days year 10 ≡ 31) × (month_days year 12 ≡ 31)
  unfolding month_days
  thirty_one_days = (refl, refl, refl, refl, refl, refl, refl)

  pub february_days : (leap year ≡ true → month_days year 2 ≡ 29) × (leap year ≡ false → month_days year 2 ≡ 28)
  unfolding month_days
  february_days = (λ e. rw e, λ e. rw e)

-- 400 years have 97 leap years and 146,097 days, which are 20,871 weeks
pub leap_years : (count 400 λ k. leap (2000 + k)) ≡ 97
unfolding count sum leap
leap_years = refl

pub cycle_days : (sum 400 λ k. year_days (2000 + k)) ≡ 20871 * 7
unfolding sum leap
cycle_days = refl
