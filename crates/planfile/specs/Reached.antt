-- The bound of `plan_most` (Size.antt) is reached: a sound day and an allowed row whose plan file has just as many bytes.
-- Assumes nothing.
use Rattle.std.specs.Prelude.{◌≡◌, refl, cond, List, [], ◌∷◌, ℕ, ◌+◌, ◌-◌, ◌/◌, ◌%◌, ◌<◌, T, eqb, length, get_or, replicate}
use Rattle.std.proofs.Common.{ap, ◌∙◌, arith, length-append}
use Rattle.fold.specs.Fold.{sum, count, some, each, each_at}
use Rattle.fold.specs.Sums.{sum_ext}
use Rattle.fold.specs.Listed.{listed}
use Rattle.counting.specs.Counting.{figures, figures_of}
use Rattle.model.specs.Model.{Yard, Outcome, slot_of, outcome, late_supplier, revisiting, revisits, split_boxes, splits_to, splits, direct_boxes, direct_to, direct, weighed, in_slots, in_time, in_window, load, roomy, fitting, grouped, apart, kept, allowed}
use Rattle.day.specs.Sound.{day_limits, Range, range, within, head_ranges, train_ranges, number_before, train_sound, unused, position_sound, group_sound, pair_sound, receiver_sound, shaped, sound}
use Rattle.day.specs.SoundLaws.{within_is}
use Rattle.lines.specs.Lines.{row_text, rows_text}
use Rattle.lines.specs.RowSize.{in_row, digits_size, row_bytes}
use Rattle.planfile.specs.PlanText.{value_names, slot_names, slot_row, plan_lines, plan_text}
use Rattle.planfile.specs.Size.{plan_bytes, rows_length}

-- 12 trains with the greatest numbers, 255 boxes between any two, the greatest weights; `packed` is the one row that their windows leave:
-- seven in slot 1, and one in each of the slots 2 to 6
unfoldable pub packed : List ℕ
unfolding listed
packed = listed 12 (λ i. 1 + (i - 6))

unfoldable pub dearest : Yard
unfolding listed packed
dearest = record {
  trains = 12;
  tracks = 7;
  slots = 8;
  revisit = 65535;
  split = 65535;
  numbers = listed 12 (λ i. 99988 + i);
  first = packed;
  last = packed;
  groups = replicate 12 0;
  width = 12;
  boxes = listed 144 (λ q. cond (eqb (q / 12) (q % 12)) 0 255);
}

pub dearest-sound : T (sound day_limits dearest)
unfolding packed dearest each within head_ranges train_ranges number_before train_sound unused position_sound group_sound pair_sound receiver_sound shaped sound
dearest-sound = tt

pub packed-allowed : T (allowed dearest packed)
unfolding packed dearest count each in_slots in_time in_window load roomy fitting grouped apart kept allowed
packed-allowed = tt

-- 11 trains come back; of the 33,660 boxes those between the seven trains of slot 1 are direct moves, and all others split moves
abbrev most : Outcome
most = figures 11 22950 10710 1504749135

dearest-outcome : outcome dearest packed ≡ most
unfolding packed dearest sum count some late_supplier revisiting revisits split_boxes splits_to splits direct_boxes direct_to direct weighed
dearest-outcome = refl

-- the row of values, the twelve rows, the file

values_size : length (row_text (figures_of most)) ≡ 26
unfolding in_row
values_size =
    omega (
      arith,
      row_bytes (figures_of most),
      digits_size 1 most.revisits (omega arith) (omega arith),
      digits_size 4 most.splits (omega arith) (omega arith),
      digits_size 4 most.direct (omega arith) (omega arith),
      digits_size 9 most.cost (omega arith) (omega arith),
    )

-- each number has five digits, each slot one
abbrev ranges : List Range
ranges = range 10000 99999 ∷ range 1 8 ∷ []

rows_within : T (each 12 λ i. within ranges (slot_row dearest.numbers packed i))
unfolding packed dearest each within
rows_within = tt

train_bytes : (i : ℕ) → i < 12 → length (row_text (slot_row dearest.numbers packed i)) ≡ 8
unfolding in_row
train_bytes i h =
    let line = slot_row dearest.numbers packed i in
    let w = within_is ranges line (each_at 12 (λ i. within ranges (slot_row dearest.numbers packed i)) rows_within i h) in
    omega (
      arith,
      row_bytes line,
      digits_size 4 (get_or dearest.numbers i 0) w.0.0 (omega (arith, w.0.1)),
      digits_size 0 (slot_of packed i) w.1.0.0 (omega (arith, w.1.0.1)),
    )

rows_bytes : length (rows_text (listed 12 (slot_row dearest.numbers packed))) ≡ 96
unfolding sum
rows_bytes = rows_length 12 (slot_row dearest.numbers packed) ∙ sum_ext 12 (λ i. length (row_text (slot_row dearest.numbers packed i))) (λ i. 8) train_bytes

pub reached : length (plan_text dearest packed) ≡ plan_bytes
unfolding dearest plan_lines value_names slot_names
reached =
    ap (λ o. length (plan_lines 12 dearest.numbers o packed)) dearest-outcome
    ∙ simp length-append (omega (arith, values_size, rows_bytes))
