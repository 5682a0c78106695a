-- What a line of the table of long days says, the test that the checker computes for it, and that a line whose test passes holds
-- (`line_holds`).
-- Assumes nothing.
use Rattle.std.specs.Prelude.{◌≡◌, refl, Bool, true, false, not, cond, ◌&&◌, List, ℕ, T, eqb}
use Rattle.std.proofs.Math.Option.{some}
use Rattle.std.proofs.Common.{eqb→eq}
use Rattle.fold.specs.Test.{both_of}
use Rattle.model.specs.Model.{Outcome, outcome, Best}
use Rattle.model.specs.BestOf.{best_of}
use Rattle.model.proofs.BestOf.{is_best}
use Rattle.day.specs.Answer.{Answer}
use Rattle.day.specs.Sound.{Range, within}
use Rattle.known_days.specs.Lines.{same_outcome, same_outcome_lem, same_answer, same_answer_lem, is_row, is_row_lem}
use Rattle.beam.specs.Beam.{full_slots, beam_row}
use Rattle.beam.specs.LowerFigure.{lower_figure}
use Rattle.long_day.specs.LongDay.{long_limits, long_yard}
use Rattle.long_day.specs.declared.LongDay.{LongDay}
use Rattle.long_planning.specs.LongPlanning.{LongOutcome, is_width, long_planned}

-- ---- what a line says

pub data Line : Type 0 where
  finds : LongDay → ℕ → List ℕ → Outcome → ℕ → ℕ → Line
  best : LongDay → List ℕ → Outcome → Line
  plans : LongDay → ℕ → ℕ → Answer LongOutcome → Line
  widths : ℕ → Bool → Line
  in_limits : List Range → List ℕ → Bool → Line

-- a row's numbers, the number of full slots, the lower figure
abbrev pub found : Outcome → ℕ → ℕ → LongOutcome
found o full lower = record { row = o; full = full; lower = lower }

abbrev pub Holds : Line → Type 0
-- at this width the search finds this row, with these numbers; so many slots are full; and this is the day's lower figure
Holds (finds d width row o full lower) =
    (beam_row (long_yard d) width ≡ some row) × (outcome (long_yard d) row ≡ o) × (full_slots (long_yard d) width ≡ full) × (lower_figure (long_yard d) ≡ lower)
-- the row is the best plan of all allowed rows, with this outcome
Holds (best d row o) = Best (long_yard d) row × (outcome (long_yard d) row ≡ o)
-- planning at this width, lent so many bytes of row, gives this answer
Holds (plans d width bytes a) = long_planned long_limits (long_yard d) width bytes ≡ a
-- so many partial plans may be kept, or not
Holds (widths width b) = is_width width ≡ b
-- the values of a row lie in these ranges, or not
Holds (in_limits ranges row b) = within ranges row ≡ b

-- ---- the test of a line

unfoldable pub same_test : Bool → Bool → Bool
same_test a b = cond a b (not b)

unfoldable pub same_long : LongOutcome → LongOutcome → Bool
same_long a b = same_outcome a.row b.row && eqb a.full b.full && eqb a.lower b.lower

unfoldable pub passes : Line → Bool
passes (finds d width row o full lower) =
    is_row (beam_row (long_yard d) width) row && same_outcome (outcome (long_yard d) row) o && eqb (full_slots (long_yard d) width) full && eqb (lower_figure (long_yard d)) lower
passes (best d row o) = is_row (best_of (long_yard d)) row && same_outcome (outcome (long_yard d) row) o
passes (plans d width bytes a) = same_answer same_long (long_planned long_limits (long_yard d) width bytes) a
passes (widths width b) = same_test (is_width width) b
passes (in_limits ranges row b) = same_test (within ranges row) b

-- ---- from the test to the statement

same_tests : (a b : Bool) → T (same_test a b) → a ≡ b
unfolding same_test
same_tests true true t = refl
same_tests true false t = absurd t
same_tests false true t = absurd t
same_tests false false t = refl

same_long_lem : (a b : LongOutcome) → T (same_long a b) → a ≡ b
unfolding same_long
same_long_lem a b t =
    let (p, lower) = both_of (same_outcome a.row b.row && eqb a.full b.full) (eqb a.lower b.lower) t in
    let (row, full) = both_of (same_outcome a.row b.row) (eqb a.full b.full) p in
    let re = same_outcome_lem a.row b.row row in
    let fe = eqb→eq a.full b.full full in
    let le = eqb→eq a.lower b.lower lower in
    λ i. record { row = re i; full = fe i; lower = le i }

pub line_holds : (l : Line) → T (passes l) → Holds l
unfolding passes
line_holds (finds d width row o full lower) t =
    let y = long_yard d in
    let (p, low) = both_of (is_row (beam_row y width) row && same_outcome (outcome y row) o && eqb (full_slots y width) full) (eqb (lower_figure y) lower) t in
    let (q, slots) = both_of (is_row (beam_row y width) row && same_outcome (outcome y row) o) (eqb (full_slots y width) full) p in
    let (r, numbers) = both_of (is_row (beam_row y width) row) (same_outcome (outcome y row) o) q in
    (is_row_lem (beam_row y width) row r, same_outcome_lem (outcome y row) o numbers, eqb→eq (full_slots y width) full slots, eqb→eq (lower_figure y) lower low)
line_holds (best d row o) t =
    let y = long_yard d in
    let (p, q) = both_of (is_row (best_of y) row) (same_outcome (outcome y row) o) t in
    (is_best y row (is_row_lem (best_of y) row p), same_outcome_lem (outcome y row) o q)
line_holds (plans d width bytes a) t = same_answer_lem same_long same_long_lem (long_planned long_limits (long_yard d) width bytes) a t
line_holds (widths width b) t = same_tests (is_width width) b t
line_holds (in_limits ranges row b) t = same_tests (within ranges row) b t
