-- The text of a report in its sections, as the code puts them; and the counters whose sums fit 64 bits.
-- Assumes nothing.
use Rattle.std.specs.Prelude.{◌≡◌, List, [], ◌∷◌, ◌++◌, ℕ, suc, ◌+◌, ◌*◌, ◌^◌, ◌≤◌, ◌<◌, length, get_or}
use Rattle.std.proofs.Common.{ap, ◌∙◌, append_assoc, append-nil, arith, length-append}
use Rattle.std.proofs.Math.Numerals.{add-one}
use borrow.Author.Tests.{eq-eqb, ne_eqb}
use Rattle.fold.specs.Fold.{sum, sum-next}
use Rattle.fold.specs.Sums.{sum_bound}
use Rattle.fold.specs.Listed.{joined}
use Rattle.decimal.specs.Place.{Put}
use Rattle.lines.specs.Lines.{row_text, rows_text}
use Rattle.output.specs.Laws.{rows_joined}
use Rattle.day_figures.specs.declared.Figures.{Figures}
use Rattle.period_report.specs.Report.{counters}
use Rattle.period_report.specs.declared.Mean.{Mean}
use Rattle.period_report.specs.declared.Means.{Means}
use Rattle.period_report.specs.declared.Report.{Report}
use Rattle.report_text.specs.ReportText.{day_names, refusal_names, revisit_names, split_names, direct_names, box_names, saving_names, refusal_count, day_row, refusal_rows, figure_row, report_text}

-- ---- counters whose sums fit 64 bits

pub record Countable (days : List ℕ) : Type 0 where
  pub size : length days ≡ counters
  pub few : (k : ℕ) → k < counters → get_or days k 0 < 2 ^ 32

-- the days refused under the numbers 1 to i
abbrev pub refused_up_to : List ℕ → ℕ → ℕ
refused_up_to days i = sum i λ j. get_or days (suc j) 0

module _ (days : List ℕ) (i : ℕ) where
  pub refused_next : refused_up_to days (i + 1) ≡ refused_up_to days i + get_or days (i + 1) 0
  refused_next = sum-next i (λ j. get_or days (suc j) 0) ∙ rw add-one

  pub refused_few : Countable days → i ≤ refusal_count → refused_up_to days i ≤ i * 2 ^ 32
  refused_few c h = sum_bound i (2 ^ 32) (λ j. get_or days (suc j) 0) (λ j l. let f = c.few (suc j) (omega arith) in omega arith)

-- ---- the sections, as the code puts them

abbrev pub day_lines : List ℕ → List ℕ
day_lines days = day_names ++ row_text (day_row days)

abbrev pub refusal_line : List ℕ → ℕ → List ℕ
refusal_line days i = rows_text (refusal_rows days i)

abbrev pub refusal_lines : List ℕ → List ℕ
refusal_lines days = refusal_names ++ joined refusal_count (refusal_line days)

abbrev pub figure_lines : List ℕ → ℕ → Mean → List ℕ
figure_lines names total mean = names ++ row_text (figure_row total mean)

abbrev pub saving_lines : Figures → List ℕ
saving_lines totals = saving_names ++ row_text (totals.savings ∷ [])

module _ (totals : Figures) (means : Means) where
  abbrev pub revisit_lines : List ℕ
  revisit_lines = figure_lines revisit_names totals.revisits means.revisits

  abbrev pub split_lines : List ℕ
  split_lines = figure_lines split_names totals.splits means.splits

  abbrev pub direct_lines : List ℕ
  direct_lines = figure_lines direct_names totals.direct means.direct

  abbrev pub box_lines : List ℕ
  box_lines = figure_lines box_names totals.boxes means.boxes

  -- the figures from one on, and the savings
  abbrev pub from_boxes : List ℕ
  from_boxes = box_lines ++ saving_lines totals

  abbrev pub from_direct : List ℕ
  from_direct = direct_lines ++ from_boxes

  abbrev pub from_splits : List ℕ
  from_splits = split_lines ++ from_direct

  abbrev pub figures_lines : List ℕ
  figures_lines = revisit_lines ++ from_splits

-- ---- a row of the refusals: none where no day was refused under the number

module _ (days : List ℕ) (i : ℕ) where
  pub refusal_none : get_or days (i + 1) 0 ≡ 0 → refusal_line days i ≡ []
  unfolding rows_text refusal_rows
  refusal_none e = rw (← add-one i, eq-eqb (get_or days (i + 1) 0) 0 e)

  pub refusal-some : (get_or days (i + 1) 0 ≡ 0 → ⊥) → refusal_line days i ≡ row_text ((i + 1) ∷ get_or days (i + 1) 0 ∷ [])
  unfolding rows_text refusal_rows
  refusal-some h = rw (← add-one i, ne_eqb (get_or days (i + 1) 0) 0 h) (append-nil _)

-- ---- where two texts have room, the second has it after the first

pub room_left : {l m : List ℕ} {i j : ℕ} (a b : List ℕ) → i + length (a ++ b) ≤ length l → Put l m i j a → length m ≡ length l → j + length b ≤ length m
room_left a b room p kept = omega (arith, length-append a b, p.next)

-- ---- the report, section by section

module _ (r : Report) where
  pub report_lines : report_text r ≡ day_lines r.days ++ refusal_lines r.days ++ figures_lines r.totals r.means
  unfolding report_text
  report_lines = rw rows_joined (simp append_assoc)

  pub report_length : length (report_text r) ≡ length (day_lines r.days) + length (refusal_lines r.days) + length (figures_lines r.totals r.means)
  report_length = ap length report_lines ∙ simp length-append
