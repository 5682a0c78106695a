-- What a report over a period is written as (docs/FORMAT.md, the season's report), in the style of the plan file: names lines, each with rows of
-- values under it. This file is what a reader must believe of it.
-- Assumes nothing.
use Rattle.std.specs.Prelude.{cond, List, [], ◌∷◌, ◌++◌, ℕ, suc, ◌+◌, eqb, get_or}
use Rattle.fold.specs.Fold.{sum}
use Rattle.fold.specs.Listed.{joined}
use Rattle.lines.specs.Lines.{ascii, row_text, rows_text}
use Rattle.period_report.specs.declared.Mean.{Mean}
use Rattle.period_report.specs.declared.Report.{Report}

-- ---- the names lines

unfoldable pub day_names : List ℕ
day_names = ascii "days planned refused\n"

unfoldable pub refusal_names : List ℕ
refusal_names = ascii "refusal days\n"

unfoldable pub revisit_names : List ℕ
revisit_names = ascii "revisits mean remainder\n"

unfoldable pub split_names : List ℕ
split_names = ascii "splits mean remainder\n"

unfoldable pub direct_names : List ℕ
direct_names = ascii "direct mean remainder\n"

unfoldable pub box_names : List ℕ
box_names = ascii "boxes mean remainder\n"

unfoldable pub saving_names : List ℕ
saving_names = ascii "savings\n"

-- ---- the days: all, those planned, those refused

-- refusals have the numbers 1 to 26
abbrev pub refusal_count : ℕ
refusal_count = 26

abbrev pub refused_days : List ℕ → ℕ
refused_days days = sum refusal_count λ i. get_or days (suc i) 0

abbrev pub day_row : List ℕ → List ℕ
day_row days = (get_or days 0 0 + refused_days days) ∷ get_or days 0 0 ∷ refused_days days ∷ []

-- a row for each number under which a day was refused: the number, and how many
unfoldable pub refusal_rows : List ℕ → ℕ → List (List ℕ)
refusal_rows days i = cond (eqb (get_or days (suc i) 0) 0) [] ((suc i ∷ get_or days (suc i) 0 ∷ []) ∷ [])

-- ---- the figures: a total, and its mean

abbrev pub figure_row : ℕ → Mean → List ℕ
figure_row total mean = total ∷ mean.quotient ∷ mean.remainder ∷ []

unfoldable pub report_text : Report → List ℕ
report_text r =
    day_names ++ row_text (day_row r.days)
    ++ refusal_names ++ rows_text (joined refusal_count (refusal_rows r.days))
    ++ revisit_names ++ row_text (figure_row r.totals.revisits r.means.revisits)
    ++ split_names ++ row_text (figure_row r.totals.splits r.means.splits)
    ++ direct_names ++ row_text (figure_row r.totals.direct r.means.direct)
    ++ box_names ++ row_text (figure_row r.totals.boxes r.means.boxes)
    ++ saving_names ++ row_text (r.totals.savings ∷ [])
