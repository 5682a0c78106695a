-- What the derived `==` of dates says.
-- Assumes nothing.
use Rattle.std.specs.Prelude.{◌≡◌, eqb}
use Rattle.std.proofs.Common.{sym}
use Rattle.std.proofs.Math.Bool.{and_assoc}
use Rattle.dates.specs.declared.Date.{Date}
use Rattle.dates.specs.Dates.{same_date}
use Rattle.dates.specs.contracts.DatePartialEq.TheImpl as the_impl

-- it is the definition's test, field by field
pub equal_is_same : (a b : Date) → the_impl.eq-value.it a b ≡ same_date a b
unfolding same_date
equal_is_same a b = sym (and_assoc (eqb a.year b.year) (eqb a.month b.month) (eqb a.day b.day))
