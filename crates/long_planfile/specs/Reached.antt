-- The bound of `long_plan_size` (Size.antt) is reached: a sound long day and a row that fits it, whose plan file has just as many bytes. The day
-- is the fullest one of long_file's Full.antt, with the windows that leave just this row.
-- Assumes nothing.
use Rattle.std.specs.Prelude.{◌≡◌, cond, ◌&&◌, List, ℕ, ◌+◌, ◌*◌, ◌/◌, ◌≤◌, ◌<◌, T, ltb, eqb, length, get_or}
use Rattle.std.proofs.Common.{ap, ◌∙◌, ⊎_elim, arith, length-append, lt-ltb, le-ltb}
use Rattle.fold.specs.Fold.{bit, sum, count, some, each}
use Rattle.fold.specs.Sums.{sum_ext, some_ext}
use Rattle.fold.specs.Counting.{le_or_lt}
use Rattle.fold.specs.Listed.{listed, length-listed, listed_at}
use Rattle.model.specs.Model.{Yard, Outcome, slot_of, received, outcome, late_supplier, revisiting, revisits, split_boxes, splits_to, splits, direct_boxes, direct_to, direct, weighed, in_slots, in_time, in_window, load, roomy, fitting}
use Rattle.day.specs.Sound.{sound}
use Rattle.counting.specs.Counting.{figures, figures_of}
use Rattle.lines.specs.Lines.{row_text, rows_text}
use Rattle.lines.specs.RowSize.{in_row, digits_size, row_bytes}
use Rattle.planfile.specs.PlanText.{value_names, slot_names, slot_row, plan_lines, plan_text}
use Rattle.planfile.specs.Size.{rows_length}
use Rattle.long_day.specs.LongDay.{long_limits}
use Rattle.long_file.specs.Full.{full_numbers, full_day}
use Rattle.long_file.proofs.Full.{full-number, full-received, full-sound}
use Rattle.long_planfile.specs.Size.{long_plan_bytes}

-- four trains in each of the slots 4 to 12
unfoldable pub packed : List ℕ
unfolding listed
packed = listed 36 λ i. 4 + i / 4

abbrev pub dearest : Yard
dearest = full_day packed packed

packed-at : (i : ℕ) → i < 36 → slot_of packed i ≡ 4 + i / 4
unfolding packed
packed-at = listed_at 36 (λ i. 4 + i / 4) 0

pub dearest-sound : T (sound long_limits dearest)
unfolding packed
dearest-sound =
    let long = length-listed 36 (λ i. 4 + i / 4) in
    full-sound packed packed long long (λ i h. let e = packed-at i h in (omega arith, omega arith, omega arith))

pub packed_fits : T (fitting dearest packed)
unfolding packed sum count each in_slots in_time in_window load roomy fitting
packed_fits = tt

-- ---- the numbers: 32 trains come back; of the 321,300 boxes those between the four trains of a slot are direct moves, the others split moves

-- by position alone: the slot, whether a supplier comes later, the boxes of a pair that are split or direct moves
abbrev slot : ℕ → ℕ
slot i = 4 + i / 4

abbrev pair : ℕ → ℕ → ℕ
pair i j = cond (eqb i j) 0 255

revisits_are : revisits 36 (received dearest) packed ≡ 32
unfolding revisits revisiting late_supplier count sum some
revisits_are =
    sum_ext 36 (λ i. bit (revisiting 36 (received dearest) packed i)) (λ i. bit (some 36 λ j. ltb 0 (pair i j) && ltb (slot i) (slot j)))
    (λ i h. ap bit (some_ext 36 (late_supplier (received dearest) packed i) (λ j. ltb 0 (pair i j) && ltb (slot i) (slot j))
    (λ j k. rw (full-received packed packed i j h k, packed-at i h, packed-at j k))))

splits_are : splits 36 (received dearest) packed ≡ 293760
unfolding splits splits_to split_boxes sum
splits_are =
    sum_ext 36 (splits_to 36 (received dearest) packed) (λ i. sum 36 λ j. cond (eqb (slot i) (slot j)) 0 (pair i j))
    (λ i h. sum_ext 36 (split_boxes (received dearest) packed i) (λ j. cond (eqb (slot i) (slot j)) 0 (pair i j))
    (λ j k. rw (full-received packed packed i j h k, packed-at i h, packed-at j k)))

direct_are : direct 36 (received dearest) packed ≡ 27540
unfolding direct direct_to direct_boxes sum
direct_are =
    sum_ext 36 (direct_to 36 (received dearest) packed) (λ i. sum 36 λ j. cond (eqb (slot i) (slot j)) (pair i j) 0)
    (λ i h. sum_ext 36 (direct_boxes (received dearest) packed i) (λ j. cond (eqb (slot i) (slot j)) (pair i j) 0)
    (λ j k. rw (full-received packed packed i j h k, packed-at i h, packed-at j k)))

abbrev most : Outcome
most = figures 32 293760 27540 19253658720

dearest-outcome : outcome dearest packed ≡ most
unfolding weighed
dearest-outcome = rw (revisits_are, splits_are, direct_are)

-- ---- the row of values, the rows of the trains, the file

values_bytes : length (row_text (figures_of most)) ≡ 28
unfolding in_row
values_bytes =
    omega (
      arith,
      row_bytes (figures_of most),
      digits_size 1 most.revisits (omega arith) (omega arith),
      digits_size 5 most.splits (omega arith) (omega arith),
      digits_size 4 most.direct (omega arith) (omega arith),
      digits_size 10 most.cost (omega arith) (omega arith),
    )

-- each number has five digits; the slots of the last twelve trains have two
train_bytes : (i : ℕ) → i < 36 → length (row_text (slot_row full_numbers packed i)) ≡ cond (ltb i 24) 8 9
unfolding in_row
train_bytes i h =
    let n = full-number i h in
    let e = packed-at i h in
    let five = digits_size 4 (get_or full_numbers i 0) (omega arith) (omega arith) in
    ⊎_elim
    (λ (k : 24 ≤ i). rw (le-ltb i 24 k) (omega (arith, row_bytes (slot_row full_numbers packed i), five, digits_size 1 (slot_of packed i) (omega arith) (omega arith))))
    (λ (k : i < 24). rw (lt-ltb i 24 k) (omega (arith, row_bytes (slot_row full_numbers packed i), five, digits_size 0 (slot_of packed i) (omega arith) (omega arith))))
    (le_or_lt 24 i)

rows_bytes : length (rows_text (listed 36 (slot_row full_numbers packed))) ≡ 24 * 8 + 12 * 9
unfolding sum
rows_bytes =
    rows_length 36 (slot_row full_numbers packed) ∙ sum_ext 36 (λ i. length (row_text (slot_row full_numbers packed i))) (λ i. cond (ltb i 24) 8 9) train_bytes

pub long_plan_reached : length (plan_text dearest packed) ≡ long_plan_bytes
unfolding plan_lines value_names slot_names
long_plan_reached =
    ap (λ o. length (plan_lines 36 full_numbers o packed)) dearest-outcome
    ∙ simp length-append (omega (arith, values_bytes, rows_bytes))
