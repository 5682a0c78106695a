-- The slots of one date: how many are used as a quotient, which they are, and what the first and the last slot of a train say.
-- Assumes nothing.
use Rattle.std.specs.Prelude.{◌≡◌, ℕ, zero, suc, ◌+◌, ◌-◌, ◌*◌, ◌/◌, ◌≤◌, ◌<◌, min, T, ltb, leb}
use Rattle.std.proofs.Common.{sym, ◌∙◌, ⊎_elim, le-div_iff_mul-le, suc-mul, mul-le-mul_right, arith, lt-ltb, le-leb, leb-true}
use Rattle.std.proofs.Math.Path.{ap}
use Rattle.std.proofs.lemmas.Bool.{lt-leb}
use Rattle.fold.specs.Test.{is_true, of_true, both, both_of, same_test_lem}
use Rattle.fold.specs.Counting.{le_or_lt, count_suc}
use Rattle.fold.specs.Fold.{bit, sum, count}
use Rattle.fold.specs.Sums.{sum_ext}
use Rattle.slot_times.specs.Slots.{slot_start, slot_end, has_slot, slots_between, starts_in_time, ends_in_time, first_slot, last_slot}
use Rattle.slot_times.proofs.Choice.{earliest_from, earliest_passes, earliest_least, latest_most, latest_passes, latest_last}

-- ---- slots follow each other: one starts where the one before ends

pub slots_follow : (opens length k : ℕ) → slot_start opens length (suc k) ≡ slot_end opens length k
slots_follow opens length k = let index : suc k - 1 ≡ k = omega arith in ap (λ i. opens + i * length) index

-- ---- how many slots: as many as whole lengths fit, at most eight

count_up_to : (n q : ℕ) → (count n λ j. leb (suc j) q) ≡ min n q
unfolding count sum
count_up_to zero q = omega arith
count_up_to (suc n) q =
    let before = count_up_to n q in
    ⊎_elim
    (λ (h : suc n ≤ q). omega (arith, count_suc (λ j. leb (suc j) q) n, ap bit (le-leb (suc n) q h)))
    (λ (h : q < suc n). omega (arith, count_suc (λ j. leb (suc j) q) n, ap bit (lt-leb (suc n) q h)))
    (le_or_lt (suc n) q)

module _ (opens closes length : ℕ) (long : 1 ≤ length) where
  -- slot j + 1 is there where j + 1 lengths fit
  fits : (j : ℕ) → has_slot opens closes length (suc j) ≡ leb (suc j) ((closes - opens) / length)
  fits j =
      let whole = (closes - opens) / length in
      let more : length ≤ suc j * length = omega (arith, suc-mul j length) in
      same_test_lem (has_slot opens closes length (suc j)) (leb (suc j) whole)
      (λ t.
      let (opened, ends) = both_of (ltb opens closes) (leb (slot_end opens length (suc j)) closes) t in
      let end : opens + suc j * length ≤ closes = leb-true (slot_end opens length (suc j)) closes (is_true (leb (slot_end opens length (suc j)) closes) ends) in
      of_true (le-leb (suc j) whole ((le-div_iff_mul-le long).1 (omega arith))))
      (λ t.
      let room : suc j * length ≤ closes - opens = (le-div_iff_mul-le long).0 (leb-true (suc j) whole (is_true (leb (suc j) whole) t)) in
      both (ltb opens closes) (leb (slot_end opens length (suc j)) closes) (of_true (lt-ltb opens closes (omega arith)))
      (of_true (le-leb (slot_end opens length (suc j)) closes (omega arith))))

  pub slots_divided : slots_between opens closes length ≡ min 8 ((closes - opens) / length)
  unfolding slots_between count
  slots_divided =
      sum_ext 8 (λ j. bit (has_slot opens closes length (suc j))) (λ j. bit (leb (suc j) ((closes - opens) / length))) (λ j h. ap bit (fits j))
      ∙ count_up_to 8 ((closes - opens) / length)

  -- of the first eight slots those are used that are there
  pub used_there : (k : ℕ) → 1 ≤ k → k ≤ slots_between opens closes length → (k ≤ 8) × T (has_slot opens closes length k)
  used_there zero l h = absurd (omega arith)
  used_there (suc j) l h =
      let up : suc j ≤ (closes - opens) / length = omega (arith, slots_divided) in
      (omega (arith, slots_divided), of_true (fits j ∙ le-leb (suc j) ((closes - opens) / length) up))

  pub there_used : (k : ℕ) → 1 ≤ k → k ≤ 8 → T (has_slot opens closes length k) → k ≤ slots_between opens closes length
  there_used zero l h t = absurd (omega arith)
  there_used (suc j) l h t =
      let up : suc j ≤ (closes - opens) / length = leb-true (suc j) ((closes - opens) / length) (sym (fits j) ∙ is_true (has_slot opens closes length (suc j)) t) in
      omega (arith, slots_divided)

-- the minutes of eight slots
pub slots_long : (k length : ℕ) → k ≤ 8 → length ≤ 1440 → k * length ≤ 11520
slots_long k length h l = omega (arith, mul-le-mul_right {n = 8} length h)

-- ---- a train's first and last slot, of `used` ones

module _ (opens length : ℕ) where
  starts_rise : (j k : ℕ) → j ≤ k → slot_start opens length j ≤ slot_start opens length k
  starts_rise j k h = omega (arith, mul-le-mul_right {m = j - 1} {n = k - 1} length (omega arith))

  ends_rise : (j k : ℕ) → j ≤ k → slot_end opens length j ≤ slot_end opens length k
  ends_rise j k h = omega (arith, mul-le-mul_right {m = j} {n = k} length h)

  starts_is : (arrival k : ℕ) → T (starts_in_time opens length arrival k) → arrival ≤ slot_start opens length k
  starts_is arrival k t = leb-true arrival (slot_start opens length k) (is_true (starts_in_time opens length arrival k) t)

  ends_is : (departure k : ℕ) → T (ends_in_time opens length departure k) → slot_end opens length k ≤ departure
  ends_is departure k t = leb-true (slot_end opens length k) departure (is_true (ends_in_time opens length departure k) t)

  module _ (used arrival : ℕ) where
    pub first_from : 1 ≤ first_slot opens length used arrival
    unfolding first_slot
    first_from = earliest_from used (starts_in_time opens length arrival)

    -- from the first slot on, each used one starts at or after arrival
    pub first_starts : (k : ℕ) → first_slot opens length used arrival ≤ k → k ≤ used → arrival ≤ slot_start opens length k
    unfolding first_slot
    first_starts k l h =
        let j = first_slot opens length used arrival in
        omega (arith, starts_is arrival j (earliest_passes used (starts_in_time opens length arrival) (omega arith)), starts_rise j k l)

    -- a slot that starts so comes no earlier
    pub starts_first : (k : ℕ) → 1 ≤ k → arrival ≤ slot_start opens length k → first_slot opens length used arrival ≤ k
    unfolding first_slot
    starts_first k l s = earliest_least used (starts_in_time opens length arrival) k l (of_true (le-leb arrival (slot_start opens length k) s))

  module _ (used departure : ℕ) where
    pub last_used : last_slot opens length used departure ≤ used
    unfolding last_slot
    last_used = latest_most used (ends_in_time opens length departure)

    -- up to the last slot each ends at or before departure
    pub last_ends : (k : ℕ) → 1 ≤ k → k ≤ last_slot opens length used departure → slot_end opens length k ≤ departure
    unfolding last_slot
    last_ends k l h =
        let j = last_slot opens length used departure in
        omega (arith, ends_is departure j (latest_passes used (ends_in_time opens length departure) (omega arith)), ends_rise k j h)

    -- a used slot that ends so comes no later
    pub ends_last : (k : ℕ) → k ≤ used → slot_end opens length k ≤ departure → k ≤ last_slot opens length used departure
    unfolding last_slot
    ends_last k h s = latest_last used (ends_in_time opens length departure) k h (of_true (le-leb (slot_end opens length k) departure s))
