-- The dates counted on from the first. That dates and the numbers below 36,525 correspond, by the day number one way and by this the other
-- way, is proved in proofs/.
-- Assumes nothing.
use Rattle.std.specs.Prelude.{ℕ, zero, suc}
use Rattle.dates.specs.declared.Date.{Date}
use Rattle.dates.specs.Dates.{first_date, next}

-- ---- the dates, counted on from the first

unfoldable pub date_at : ℕ → Date
date_at zero = first_date
date_at (suc n) = next (date_at n)
