-- The greatest size of a long day's plan file, `long_plan_bytes`. It is less than the limits alone would allow (planfile's Size.antt): with at
-- most four tracks at most twelve trains stand in the slots of two digits, 10 to 12, and direct moves have at most five digits.
-- Assumes nothing.
use Rattle.std.specs.Prelude.{◌≡◌, refl, Bool, List, [], ◌∷◌, ◌⊎◌, get_or}
use Rattle.std.proofs.Common.{subst, mul-le-mul, le→leb, eq-eqb}
use Rattle.std.proofs.Math.Bool.{true, false, cond}
use Rattle.std.proofs.Math.Logic.{inl, inr, ⊎_elim}
use Prim.Native.Nat.{ℕ, suc, ◌+◌, ◌-◌, ◌*◌, ◌≤◌, ◌<◌, zero-le}
use Rattle.std.proofs.Math.Nat.{le_trans, le_refl}
use native.Mathlib.Omega.{arith}
use Rattle.std.proofs.Math.Dec.{T, leb, eqb, leb→le, eqb→eq}
use Rattle.std.proofs.Math.ListN.{length, length-append}
use Rattle.fold.specs.Test.{of_true, eqb_sym}
use Rattle.fold.specs.Fold.{bit, count}
use Rattle.fold.specs.Sums.{sum-add, sum_times, sum_le, sum_bound}
use Rattle.fold.specs.Counting.{le_or_lt, bit_yes, count_zero, count_le, count_or}
use Rattle.fold.specs.Listed.{listed}
use Rattle.model.specs.Model.{Yard, slot_of, received, outcome, direct_boxes, direct_to, direct, load, fitting, allowed}
use Rattle.model.specs.Rows.{Fitting}
use Rattle.model.proofs.Rows.{fitting_is}
use Rattle.day.specs.Sound.{Range, range, sound}
use Rattle.day.specs.SoundLaws.{Sound, sound_is}
use Rattle.day.specs.Most.{sound-revisits, sound-splits, sound-cost}
use Rattle.counting.specs.Counting.{figures_of}
use Rattle.decimal.specs.Decimal.{digits}
use Rattle.lines.specs.Lines.{row_text, rows_text}
use Rattle.lines.specs.RowSize.{in_row, most_in_row, digits_rise, digits_size, row_bytes, row_size}
use Rattle.planfile.specs.PlanText.{value_names, slot_names, slot_row, plan_lines, plan_text}
use Rattle.planfile.specs.Size.{rows_length}
use Rattle.long_day.specs.LongDay.{long_limits}
use Rattle.long_day.specs.LongLaws.{long_most_boxes, long_most-cost, long_allowed}

-- ---- room in the slots of a row that fits

module _ (y : Yard) (row : List ℕ) (f : Fitting y row) where
  -- in each slot, of those past the last one too
  load-most : (t : ℕ) → load y.trains row (suc t) ≤ y.tracks
  unfolding load
  load-most t =
      ⊎_elim (λ (h : suc t ≤ y.slots). f.room t h)
      (λ (h : y.slots < suc t). omega (
        arith,
        count_zero (λ i. eqb (slot_of row i) (suc t)) y.trains (λ i k e. omega (arith, f.slotted i k, eqb→eq (slot_of row i) (suc t) e)),
      ))
      (le_or_lt (suc t) y.slots)

  -- in the slot of a train
  beside : (i : ℕ) → i < y.trains → load y.trains row (slot_of row i) ≤ y.tracks
  beside i h =
      let e : suc (slot_of row i - 1) ≡ slot_of row i = omega (arith, (f.slotted i h).0) in
      subst (λ t. load y.trains row t ≤ y.tracks) e (load-most (slot_of row i - 1))

  -- so where no pair has more than b boxes, a train has at most b direct moves for each track
  module _ (b : ℕ) (few : (i j : ℕ) → i < y.trains → j < y.trains → received y i j ≤ b) where
    direct-pair : (i j : ℕ) → i < y.trains → j < y.trains → direct_boxes (received y) row i j ≤ b * bit (eqb (slot_of row j) (slot_of row i))
    unfolding direct_boxes
    direct-pair i j h k = rw (eqb_sym (slot_of row i) (slot_of row j)) (go (eqb (slot_of row j) (slot_of row i)))
      where
        go : (e : Bool) → cond e (received y i j) 0 ≤ b * bit e
        go true = omega (arith, few i j h k)
        go false = zero-le

    direct_train : (i : ℕ) → i < y.trains → direct_to y.trains (received y) row i ≤ b * y.tracks
    unfolding direct_to load count
    direct_train i h =
        le_trans (sum_le y.trains (direct_boxes (received y) row i) (λ j. b * bit (eqb (slot_of row j) (slot_of row i))) (λ j k. direct-pair i j h k))
        (rw (sum_times y.trains b (λ j. bit (eqb (slot_of row j) (slot_of row i)))) (mul-le-mul (le_refl b) (beside i h)))

    direct-most : (outcome y row).direct ≤ y.trains * (b * y.tracks)
    unfolding direct
    direct-most = sum_bound y.trains (b * y.tracks) (direct_to y.trains (received y) row) direct_train

-- ---- the rows of a long day's plan file

module _ (y : Yard) (row : List ℕ) (s : Sound long_limits y) (f : Fitting y row) where
  -- (27,540 with no boxes of a train for itself: five digits either way)
  direct_few : (outcome y row).direct ≤ 36720
  direct_few =
      le_trans (direct-most y row f 255 s.boxes)
      (mul-le-mul s.trains.1 (mul-le-mul (le_refl 255) s.tracks.1))

  -- the row of values: two, six, five and eleven digits
  abbrev ranges : List Range
  ranges = range 0 36 ∷ range 0 321300 ∷ range 0 36720 ∷ range 0 21058754760 ∷ []

  most_values : most_in_row ranges ≡ 28
  unfolding most_in_row
  most_values =
      omega (
        arith,
        digits_size 1 36 (omega arith) (omega arith),
        digits_size 5 321300 (omega arith) (omega arith),
        digits_size 4 36720 (omega arith) (omega arith),
        digits_size 10 21058754760 (omega arith) (omega arith),
      )

  values_size : length (row_text (figures_of (outcome y row))) ≤ 28
  values_size =
      omega (
        arith,
        most_values,
        row_size ranges (figures_of (outcome y row)) refl
            ((zero-le, sound-revisits long_limits y row s), ((zero-le, omega (arith, sound-splits long_limits y row s, long_most_boxes)), ((zero-le, direct_few), ((zero-le, omega (arith, sound-cost long_limits y row s, long_most-cost)), tt)))),
      )

  -- a slot of two digits is one of three, each with at most four trains
  late_few : count y.trains (λ i. leb 10 (slot_of row i)) ≤ 12
  unfolding load
  late_few =
      let n : ℕ = y.trains in
      let g = s.tracks.1 in
      omega (
        arith,
        g,
        count_or (λ i. leb 10 (slot_of row i)) (λ i. eqb (slot_of row i) 10) (λ i. leb 11 (slot_of row i)) n (λ i h t. next 10 (slot_of row i) t),
        count_or (λ i. leb 11 (slot_of row i)) (λ i. eqb (slot_of row i) 11) (λ i. leb 12 (slot_of row i)) n (λ i h t. next 11 (slot_of row i) t),
        count_le (λ i. leb 12 (slot_of row i)) (λ i. eqb (slot_of row i) 12) n
            (λ i h t. of_true (eq-eqb (slot_of row i) 12 (omega (arith, leb→le 12 (slot_of row i) t, (f.slotted i h).1, s.slots.1)))),
        load-most y row f 9,
        load-most y row f 10,
        load-most y row f 11,
      )
    where
      -- at least t is t or at least the next
      next : (t x : ℕ) → T (leb t x) → T (eqb x t) ⊎ T (leb (suc t) x)
      next t x h =
          let l = leb→le t x h in
          ⊎_elim (λ (k : suc t ≤ x). inr (le→leb (suc t) x k)) (λ (k : x < suc t). inl (of_true (eq-eqb x t (omega arith)))) (le_or_lt (suc t) x)

  -- the digits of a slot
  slot-digits : (x : ℕ) → 1 ≤ x → x ≤ 12 → length (digits x) ≤ 1 + bit (leb 10 x)
  slot-digits x a b =
      ⊎_elim (λ (h : 10 ≤ x). omega (arith, digits_size 1 x (omega arith) (omega arith), bit_yes (leb 10 x) (le→leb 10 x h)))
      (λ (h : x < 10). omega (arith, digits_size 0 x (omega arith) (omega arith))) (le_or_lt 10 x)

  train_size : (i : ℕ) → i < y.trains → length (row_text (slot_row y.numbers row i)) ≤ 8 + bit (leb 10 (slot_of row i))
  unfolding in_row
  train_size i h =
      let (a, b) = f.slotted i h in
      omega (
        arith,
        row_bytes (slot_row y.numbers row i),
        digits_rise (get_or y.numbers i 0) 99999 (s.numbers i h).1,
        digits_size 4 99999 (omega arith) (omega arith),
        slot-digits (slot_of row i) a (omega (arith, s.slots.1)),
      )

  slots_size : length (rows_text (listed y.trains (slot_row y.numbers row))) ≤ 300
  unfolding count
  slots_size =
      let n : ℕ = y.trains in
      omega (
        arith,
        s.trains.1,
        rows_length n (slot_row y.numbers row),
        sum_le n (λ i. length (row_text (slot_row y.numbers row i))) (λ i. 8 + bit (leb 10 (slot_of row i))) train_size,
        sum-add n (λ i. 8) (λ i. bit (leb 10 (slot_of row i))),
        sum_bound n 8 (λ i. 8) (λ i h. le_refl 8),
        late_few,
      )

  fitting_size : length (plan_text y row) ≤ 367
  unfolding plan_lines value_names slot_names
  fitting_size = simp length-append (omega (arith, values_size, slots_size))

-- ---- the plan file of an allowed row, that is, of one of the paper's

abbrev pub long_plan_bytes : ℕ
long_plan_bytes = 367

pub long_plan_size : (y : Yard) (row : List ℕ) → T (sound long_limits y) → T (fitting y row) → length (plan_text y row) ≤ long_plan_bytes
long_plan_size y row s f = fitting_size y row (sound_is long_limits y s) (fitting_is y row f)

pub long_plan_allowed : (y : Yard) (row : List ℕ) → T (sound long_limits y) → T (allowed y row) → length (plan_text y row) ≤ long_plan_bytes
long_plan_allowed y row s a = long_plan_size y row s (subst T (long_allowed y s row) a)
