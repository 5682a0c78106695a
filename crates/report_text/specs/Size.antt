-- The greatest size of a report: one whose numbers are at most those of a year has at most `report_bytes` bytes.
-- Assumes nothing.
use Rattle.std.specs.Prelude.{◌≡◌, Bool, true, false, cond, eqb, length}
use Rattle.std.proofs.Math.Path.{refl}
use mathlib.Core.List.{List, [], ◌∷◌}
use Prim.Native.Nat.{ℕ, zero, suc, ◌+◌, ◌*◌, ◌≤◌, ◌<◌, zero-le}
use Rattle.std.proofs.Common.{suc-mul, length-append}
use native.Mathlib.Omega.{arith}
use Rattle.std.proofs.Math.ListN.{get_or}
use Rattle.fold.specs.Sums.{sum_bound}
use Rattle.fold.specs.Listed.{joined}
use Rattle.day.specs.Most.{most_cost, day_most-cost}
use Rattle.day.specs.Sound.{day_limits, Range, range}
use Rattle.decimal.specs.Decimal.{digits}
use Rattle.day_figures.specs.Laws.{Within}
use Rattle.lines.specs.Lines.{row_text, rows_text}
use Rattle.lines.specs.RowSize.{most_in_row, digits_size, row_size}
use Rattle.output.specs.Laws.{rows_joined}
use Rattle.period_report.specs.Report.{most_days, counters}
use Rattle.period_report.specs.declared.Mean.{Mean}
use Rattle.period_report.specs.declared.Means.{Means}
use Rattle.period_report.specs.declared.Report.{Report}
use Rattle.report_text.specs.ReportText.{day_names, refusal_names, revisit_names, split_names, direct_names, box_names, saving_names, refusal_count, refused_days, day_row, refusal_rows, figure_row, report_text}
use Rattle.report_text.specs.Laws.{refusal_line}

abbrev pub report_bytes : ℕ
report_bytes = 512

-- ---- a report whose numbers are moderate

-- the greatest cost of a row, on as many days as a report has
abbrev pub most_total : ℕ
most_total = most_days * most_cost day_limits

total-digits : length (digits most_total) ≡ 12
total-digits = digits_size 11 most_total (omega (arith, day_most-cost)) (omega (arith, day_most-cost))

abbrev pub MeanWithin : ℕ → Mean → Type 0
MeanWithin m a = (a.quotient ≤ m) × (a.remainder ≤ m)

pub record MeansWithin (m : ℕ) (a : Means) : Type 0 where
  pub revisits : MeanWithin m a.revisits
  pub splits : MeanWithin m a.splits
  pub direct : MeanWithin m a.direct
  pub boxes : MeanWithin m a.boxes

pub record Moderate (r : Report) : Type 0 where
  pub days : (k : ℕ) → k < counters → get_or r.days k 0 ≤ most_days
  pub totals : Within most_total r.totals
  pub means : MeansWithin most_total r.means

-- ---- joined lists of at most m each

joined_size : {X : Type 0} (n m : ℕ) (f : ℕ → List X) → ((i : ℕ) → i < n → length (f i) ≤ m) → length (joined n f) ≤ n * m
unfolding joined
joined_size zero m f h = zero-le
joined_size (suc n) m f h = omega (arith, length-append (joined n f) (f n), joined_size n m f (λ i l. h i (omega arith)), h n (omega arith), suc-mul n m)

-- ---- the rows

abbrev total_range : Range
total_range = range 0 most_total

figure_size : (total : ℕ) (mean : Mean) → total ≤ most_total → MeanWithin most_total mean → length (row_text (figure_row total mean)) ≤ 39
unfolding most_in_row
figure_size total mean t m =
    omega (
      arith,
      row_size (total_range ∷ total_range ∷ total_range ∷ []) (figure_row total mean) refl ((zero-le, t), ((zero-le, m.0), ((zero-le, m.1), tt))),
      total-digits,
    )

saving_size : (savings : ℕ) → savings ≤ most_total → length (row_text (savings ∷ [])) ≤ 13
unfolding most_in_row
saving_size savings t = omega (arith, row_size (total_range ∷ []) (savings ∷ []) refl ((zero-le, t), tt), total-digits)

module _ (days : List ℕ) (few : (k : ℕ) → k < counters → get_or days k 0 ≤ most_days) where
  refused_most : refused_days days ≤ refusal_count * most_days
  refused_most = sum_bound refusal_count most_days (λ i. get_or days (suc i) 0) (λ i h. few (suc i) (omega arith))

  -- all days and those refused have at most four digits
  days_size : length (row_text (day_row days)) ≤ 15
  unfolding most_in_row
  days_size =
      let most = range 0 9999 in
      let planned = few 0 (omega arith) in
      let refused = refused_most in
      omega (
        arith,
        row_size (most ∷ most ∷ most ∷ []) (day_row days) refl ((zero-le, omega arith), ((zero-le, omega arith), ((zero-le, omega arith), tt))),
        digits_size 3 9999 (omega arith) (omega arith),
      )

  refusal_size : (i : ℕ) → i < refusal_count → length (refusal_line days i) ≤ 7
  unfolding rows_text refusal_rows most_in_row
  refusal_size i h = go (eqb (get_or days (suc i) 0) 0)
    where
      row : List ℕ
      row = suc i ∷ get_or days (suc i) 0 ∷ []

      row-most : length (row_text row) ≤ 7
      row-most =
          omega (
            arith,
            row_size (range 0 refusal_count ∷ range 0 most_days ∷ []) row refl ((zero-le, h), ((zero-le, few (suc i) (omega arith)), tt)),
            digits_size 1 refusal_count (omega arith) (omega arith),
            digits_size 2 most_days (omega arith) (omega arith),
          )

      go : (b : Bool) → length (rows_text (cond b [] (row ∷ []))) ≤ 7
      go true = omega arith
      go false = omega (arith, length-append (row_text row) [], row-most)

-- ---- the report

names_size : length day_names + length refusal_names + length revisit_names + length split_names + length direct_names + length box_names + length saving_names ≡ 131
unfolding day_names refusal_names revisit_names split_names direct_names box_names saving_names
names_size = refl

pub report_size : (r : Report) → Moderate r → length (report_text r) ≤ report_bytes
unfolding report_text
report_size r m =
    let t = m.totals in
    let a = m.means in
    rw rows_joined
    (simp length-append
    (omega (
      arith,
      names_size,
      days_size r.days m.days,
      joined_size refusal_count 7 (refusal_line r.days) (refusal_size r.days m.days),
      figure_size r.totals.revisits r.means.revisits t.revisits a.revisits,
      figure_size r.totals.splits r.means.splits t.splits a.splits,
      figure_size r.totals.direct r.means.direct t.direct a.direct,
      figure_size r.totals.boxes r.means.boxes t.boxes a.boxes,
      saving_size r.totals.savings t.savings,
    )))
