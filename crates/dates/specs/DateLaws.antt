-- A date field by field, and a number that is none of 1 to n.
-- Assumes nothing.
use Rattle.std.specs.Prelude.{◌≡◌, ℕ, zero, suc, ◌≤◌}
use Rattle.dates.specs.declared.Date.{Date}
use Rattle.dates.specs.Dates.{month_days}

-- ---- a date, field by field

pub record IsDate (d : Date) : Type 0 where
  pub year_from : 2000 ≤ d.year
  pub year_to : d.year ≤ 2099
  pub month_from : 1 ≤ d.month
  pub month_to : d.month ≤ 12
  pub day_from_lem : 1 ≤ d.day
  pub day_to : d.day ≤ month_days d.year d.month

-- a number that is none of 1 to n
abbrev pub NoneOf : ℕ → ℕ → Type 0
NoneOf zero x = Unit
NoneOf (suc n) x = NoneOf n x × (x ≡ suc n → ⊥)
