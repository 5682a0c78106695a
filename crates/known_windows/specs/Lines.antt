-- What a line of the table of known windows says, the test that the checker computes, and that a line whose test passes holds.
-- Assumes nothing.
use Rattle.std.specs.Prelude.{◌≡◌, Bool, not, ◌&&◌, List, [], ◌∷◌, ℕ, T, eqb}
use Rattle.std.proofs.Common.{eqb-true}
use Rattle.fold.specs.Test.{is_true, both_of, not_of, same_list, same_list_lem}
use Rattle.day.specs.Answer.{code}
use Rattle.dates.specs.Dates.{is_date, weekday}
use Rattle.opening_hours.specs.Calendar.{slots_or_zero, window_or_zero}
use Rattle.lent_calendar.specs.LentCalendar.{date_of, slots_lent, window_lent}

-- ---- what a line says

pub data Line : Type 0 where
  dated : ℕ → ℕ → Line
  undated : ℕ → Line
  asked : List ℕ → ℕ → List ℕ → ℕ → ℕ → ℕ → List ℕ → Line

-- what a caller is told who asks for the slots of the date, and then for the train's window: what the first call returns, the slots; what the
-- second returns, the first slot, the last
unfoldable pub told : List ℕ → ℕ → List ℕ → ℕ → ℕ → ℕ → List ℕ
told week minutes closed on arrival departure =
    let slots = slots_lent week minutes closed on in
    let window = window_lent week minutes closed on arrival departure in
    code slots ∷ slots_or_zero slots ∷ code window ∷ (window_or_zero window).first ∷ (window_or_zero window).last ∷ []

abbrev pub Holds : Line → Type 0
-- the number is a date, on this weekday, 0 for Monday
Holds (dated on w) = T (is_date (date_of on)) × (weekday (date_of on) ≡ w)
-- the number is no date
Holds (undated on) = T (is_date (date_of on)) → ⊥
-- with these hours, this slot length and these closed dates, on this date, with this arrival and departure
Holds (asked week minutes closed on arrival departure numbers) = told week minutes closed on arrival departure ≡ numbers

-- ---- the test of a line

unfoldable pub passes : Line → Bool
passes (dated on w) = is_date (date_of on) && eqb (weekday (date_of on)) w
passes (undated on) = not (is_date (date_of on))
passes (asked week minutes closed on arrival departure numbers) = same_list (told week minutes closed on arrival departure) numbers

pub line_holds : (l : Line) → T (passes l) → Holds l
unfolding passes
line_holds (dated on w) t =
    let (d, e) = both_of (is_date (date_of on)) (eqb (weekday (date_of on)) w) t in
    (d, eqb-true (weekday (date_of on)) w (is_true (eqb (weekday (date_of on)) w) e))
line_holds (undated on) t = not_of (is_date (date_of on)) t
line_holds (asked week minutes closed on arrival departure numbers) t = same_list_lem (told week minutes closed on arrival departure) numbers t
