-- A report over the days of a period (document 02, order 10; its season): the days planned and the days refused under each number, totals
-- over the planned days, and means over them. This file is what a reader must believe of the figures.
-- Assumes nothing.
use Rattle.std.specs.Prelude.{cond, List, [], ◌∷◌, ℕ, ◌+◌, ◌/◌, ◌%◌, eqb, get_or}
use Rattle.fold.specs.Fold.{bit}
use Rattle.fold.specs.Listed.{listed}
use Rattle.day.specs.Answer.{Answer, code, where_given}
use Rattle.day_figures.specs.declared.Figures.{Figures}
use Rattle.period_report.specs.declared.Tally.{Tally}
use Rattle.period_report.specs.declared.Mean.{Mean}
use Rattle.period_report.specs.declared.Means.{Means}
use Rattle.period_report.specs.declared.Report.{Report}

-- "one report over up to 366 day files"
abbrev pub most_days : ℕ
most_days = 366

-- ---- totals over the answers to the days, each its figures or a refusal

-- a number of each day, added up
unfoldable pub total : (Answer Figures → ℕ) → List (Answer Figures) → ℕ
total f [] = 0
total f (a ∷ answers) = f a + total f answers

-- the days whose answer has the number k: at 0 those planned, else those refused under k
abbrev pub days_under : List (Answer Figures) → ℕ → ℕ
days_under answers k = total (λ a. bit (eqb (code a) k)) answers

-- a figure over the planned days; a refused one adds nothing
abbrev pub total_of : List (Answer Figures) → (Figures → ℕ) → ℕ
total_of answers figure = total (λ a. where_given a 0 figure) answers

-- the refusals have the numbers 1 to 26, and each has a counter at its own; that at 0 counts the planned days
abbrev pub counters : ℕ
counters = 27

unfoldable pub tally_of : List (Answer Figures) → Tally
tally_of answers = record {
  days = listed counters (days_under answers);
  totals = record {
    revisits = total_of answers λ f. f.revisits;
    splits = total_of answers λ f. f.splits;
    direct = total_of answers λ f. f.direct;
    boxes = total_of answers λ f. f.boxes;
    savings = total_of answers λ f. f.savings;
  };
}

-- ---- means over the planned days: a quotient and a remainder, both 0 when none was planned; none of savings

unfoldable pub mean : ℕ → ℕ → Mean
mean total planned = cond (eqb planned 0) (record { quotient = 0; remainder = 0 }) (record { quotient = total / planned; remainder = total % planned })

abbrev pub means_of : Figures → ℕ → Means
means_of totals planned = record {
  revisits = mean totals.revisits planned;
  splits = mean totals.splits planned;
  direct = mean totals.direct planned;
  boxes = mean totals.boxes planned;
}

abbrev pub with_means : Tally → Report
with_means t = record { days = t.days; totals = t.totals; means = means_of t.totals (get_or t.days 0 0) }

-- ---- the report

abbrev pub report_of : List (Answer Figures) → Report
report_of answers = with_means (tally_of answers)
