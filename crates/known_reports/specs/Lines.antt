-- What a line of the table of known reports says, the test that the checker computes, and that a line whose test passes holds.
-- Assumes nothing.
use Rattle.std.specs.Prelude.{◌≡◌, refl, Bool, true, false, ◌&&◌, List, [], ◌∷◌, ℕ, T, get_or, set, replicate}
use Rattle.std.proofs.Common.{ap₂}
use Rattle.fold.specs.Test.{both_of, same_list, same_list_lem}
use Rattle.day.specs.Answer.{gives, refuses}
use Rattle.day.specs.Sound.{day_limits}
use Rattle.known_days.specs.Lines.{same_answer, same_answer_lem}
use Rattle.parting.specs.Parting.{days}
use Rattle.period_report.specs.declared.Report.{Report}
use Rattle.reporting.specs.Period.{period_report}
use Rattle.period_answering.specs.PeriodAnswering.{period_text}

-- ---- what a line says

pub data Line : Type 0 where
  parts : List ℕ → List (List ℕ) → Line
  reports : List ℕ → List (List ℕ) → List ℕ → List ℕ → Line
  refused : List ℕ → ℕ → ℕ → ℕ → Line
  prints : List ℕ → List ℕ → Line

-- counters: rows of a number and the days under it (0: planned), zeros elsewhere
abbrev pub under_numbers : List (List ℕ) → List ℕ → List ℕ
under_numbers [] days = days
under_numbers (r ∷ rows) days = under_numbers rows (set days (get_or r 0 0) (get_or r 1 0))

-- a report of its counters, its five totals, and its four means of two numbers each
abbrev pub report_with : List ℕ → List ℕ → List ℕ → Report
report_with days totals means = record {
  days = days;
  totals = record { revisits = get_or totals 0 0; splits = get_or totals 1 0; direct = get_or totals 2 0; boxes = get_or totals 3 0; savings = get_or totals 4 0 };
  means = record {
    revisits = record { quotient = get_or means 0 0; remainder = get_or means 1 0 };
    splits = record { quotient = get_or means 2 0; remainder = get_or means 3 0 };
    direct = record { quotient = get_or means 4 0; remainder = get_or means 5 0 };
    boxes = record { quotient = get_or means 6 0; remainder = get_or means 7 0 };
  };
}

abbrev pub Holds : Line → Type 0
-- these are the days of the text
Holds (parts text files) = days text ≡ files
-- its report, in areas that suffice: days under numbers, totals, means
Holds (reports text under totals means) = period_report day_limits text 4096 32768 ≡ gives (report_with (under_numbers under (replicate 27 0)) totals means)
-- in areas of so many words it is refused with this number
Holds (refused text costs choices k) = period_report day_limits text costs choices ≡ refuses k (0 ∷ [])
-- yard-season prints these bytes
Holds (prints text bytes) = period_text text ≡ bytes

-- ---- the test of a line

abbrev totals_of : Report → List ℕ
totals_of r = r.totals.revisits ∷ r.totals.splits ∷ r.totals.direct ∷ r.totals.boxes ∷ r.totals.savings ∷ []

abbrev means_of : Report → List ℕ
means_of r =
    r.means.revisits.quotient ∷ r.means.revisits.remainder ∷ r.means.splits.quotient ∷ r.means.splits.remainder
    ∷ r.means.direct.quotient ∷ r.means.direct.remainder ∷ r.means.boxes.quotient ∷ r.means.boxes.remainder ∷ []

unfoldable pub same_report : Report → Report → Bool
same_report a b = same_list a.days b.days && same_list (totals_of a) (totals_of b) && same_list (means_of a) (means_of b)

unfoldable pub same_lists : List (List ℕ) → List (List ℕ) → Bool
same_lists [] [] = true
same_lists [] (y ∷ ys) = false
same_lists (x ∷ xs) [] = false
same_lists (x ∷ xs) (y ∷ ys) = same_list x y && same_lists xs ys

unfoldable pub passes : Line → Bool
passes (parts text files) = same_lists (days text) files
passes (reports text under totals means) = same_answer same_report (period_report day_limits text 4096 32768) (gives (report_with (under_numbers under (replicate 27 0)) totals means))
passes (refused text costs choices k) = same_answer same_report (period_report day_limits text costs choices) (refuses k (0 ∷ []))
passes (prints text bytes) = same_list (period_text text) bytes

-- ---- from the test to the statement

same_report_lem : (a b : Report) → T (same_report a b) → a ≡ b
unfolding same_report
same_report_lem a b t =
    let (h, means) = both_of (same_list a.days b.days && same_list (totals_of a) (totals_of b)) (same_list (means_of a) (means_of b)) t in
    let (days, totals) = both_of (same_list a.days b.days) (same_list (totals_of a) (totals_of b)) h in
    let d = same_list_lem a.days b.days days in
    let s = same_list_lem (totals_of a) (totals_of b) totals in
    let m = same_list_lem (means_of a) (means_of b) means in
    λ i. report_with (d i) (s i) (m i)

same_lists_lem : (a b : List (List ℕ)) → T (same_lists a b) → a ≡ b
unfolding same_lists
same_lists_lem [] [] t = refl
same_lists_lem [] (y ∷ ys) t = absurd t
same_lists_lem (x ∷ xs) [] t = absurd t
same_lists_lem (x ∷ xs) (y ∷ ys) t =
    let (p, q) = both_of (same_list x y) (same_lists xs ys) t in
    ap₂ (λ (u : List ℕ) (us : List (List ℕ)). u ∷ us) (same_list_lem x y p) (same_lists_lem xs ys q)

pub line_holds : (l : Line) → T (passes l) → Holds l
unfolding passes
line_holds (parts text files) t = same_lists_lem (days text) files t
line_holds (reports text under totals means) t =
    same_answer_lem same_report same_report_lem (period_report day_limits text 4096 32768) (gives (report_with (under_numbers under (replicate 27 0)) totals means)) t
line_holds (refused text costs choices k) t = same_answer_lem same_report same_report_lem (period_report day_limits text costs choices) (refuses k (0 ∷ [])) t
line_holds (prints text bytes) t = same_list_lem (period_text text) bytes t
