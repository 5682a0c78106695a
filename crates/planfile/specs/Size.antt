-- The greatest size of a plan file: that of an allowed row of a sound day has at most as many bytes as the limits allow; with the day
-- file's limits these are `plan_bytes`. Stated over any limits: others only change the number.
-- Assumes nothing.
use Rattle.std.specs.Prelude.{◌≡◌, List, [], ◌∷◌, ℕ, zero, suc, ◌+◌, ◌*◌, ◌≤◌, ◌<◌, T, length}
use Rattle.std.proofs.Math.Path.{refl}
use Rattle.std.proofs.Common.{sym, zero-le, mul-le-mul_right, arith}
use Rattle.std.proofs.Math.Nat.{le_trans}
use Rattle.std.proofs.Math.ListN.{length-append}
use Rattle.fold.specs.Fold.{sum, sum_none}
use Rattle.fold.specs.Sums.{sum_bound, sum_cons}
use Rattle.fold.specs.Listed.{listed}
use Rattle.model.specs.Model.{Yard, weighed, outcome, allowed}
use Rattle.model.proofs.Rows.{allowed_is}
use Rattle.day.specs.Sound.{day_limits, Range, range}
use Rattle.day.specs.SoundLaws.{Sound, Within}
use Rattle.day.specs.Most.{most_boxes, most_cost, sound-revisits, sound-splits, sound-direct, sound-cost}
use Rattle.day.specs.declared.Limits.{Limits}
use Rattle.counting.specs.Counting.{figures_of}
use Rattle.lines.specs.Lines.{row_text, rows_text}
use Rattle.lines.specs.RowSize.{most_in_row, digits_size, row_size}
use Rattle.planfile.specs.PlanText.{value_names, slot_names, slot_row, plan_lines, plan_text}

-- ---- the greatest size

unfoldable pub value_ranges : Limits → List Range
value_ranges l = range 0 l.trains ∷ range 0 (most_boxes l) ∷ range 0 (most_boxes l) ∷ range 0 (most_cost l) ∷ []

unfoldable pub slot_ranges : Limits → List Range
slot_ranges l = range 1 l.number ∷ range 1 l.slots ∷ []

-- the two names lines, one row, a row for each train
unfoldable pub most_bytes : Limits → ℕ
most_bytes l = length value_names + length slot_names + most_in_row (value_ranges l) + l.trains * most_in_row (slot_ranges l)

-- ---- rows of one form

pub rows_length : (n : ℕ) (f : ℕ → List ℕ) → length (rows_text (listed n f)) ≡ sum n (λ i. length (row_text (f i)))
unfolding rows_text listed
rows_length zero f = sym (sum_none (λ i. length (row_text (f i))))
rows_length (suc n) f =
    omega (
      arith,
      length-append (row_text (f 0)) (rows_text (listed n λ i. f (suc i))),
      rows_length n (λ i. f (suc i)),
      sum_cons n (λ i. length (row_text (f i))),
    )

rows_size : (ranges : List Range) (n : ℕ) (f : ℕ → List ℕ) → ((i : ℕ) → i < n → (length (f i) ≡ length ranges) × Within ranges (f i))
    → length (rows_text (listed n f)) ≤ n * most_in_row ranges
rows_size ranges n f h =
    omega (arith, rows_length n f, sum_bound n (most_in_row ranges) (λ i. length (row_text (f i))) (λ i k. row_size ranges (f i) (h i k).0 (h i k).1))

-- ---- the plan file of an allowed row

module _ (l : Limits) (y : Yard) (row : List ℕ) (s : Sound l y) (a : T (allowed y row)) where
  values_size : length (row_text (figures_of (outcome y row))) ≤ most_in_row (value_ranges l)
  unfolding value_ranges
  values_size =
      row_size (value_ranges l) (figures_of (outcome y row)) refl
      ((zero-le, sound-revisits l y row s), ((zero-le, sound-splits l y row s), ((zero-le, sound-direct l y row s), ((zero-le, sound-cost l y row s), tt))))

  slots_size : length (rows_text (listed y.trains (slot_row y.numbers row))) ≤ l.trains * most_in_row (slot_ranges l)
  unfolding slot_ranges
  slots_size =
      let slotted = (allowed_is y row a).slotted in
      le_trans
      (rows_size (slot_ranges l) y.trains (slot_row y.numbers row)
      (λ i h. (refl, (s.numbers i h, (((slotted i h).0, le_trans (slotted i h).1 s.slots.1), tt)))))
      (mul-le-mul_right {m = y.trains} {n = l.trains} (most_in_row (slot_ranges l)) s.trains.1)

  pub plan_size : length (plan_text y row) ≤ most_bytes l
  unfolding most_bytes plan_lines
  plan_size = simp length-append (omega (arith, values_size, slots_size))

-- ---- with the day file's limits

abbrev pub plan_bytes : ℕ
plan_bytes = 161

pub plan_most : most_bytes day_limits ≡ plan_bytes
unfolding most_bytes most_in_row value_ranges slot_ranges most_boxes most_cost weighed value_names slot_names
plan_most =
    omega (
      arith,
      digits_size 1 12 (omega arith) (omega arith),
      digits_size 4 33660 (omega arith) (omega arith),
      digits_size 9 2206694520 (omega arith) (omega arith),
      digits_size 4 99999 (omega arith) (omega arith),
      digits_size 0 8 (omega arith) (omega arith),
    )
