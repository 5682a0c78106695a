-- The greatest numbers that a row of a sound day can have: every train revisits, and all boxes, of which no train receives one from itself,
-- are split moves, at the greatest weights. With document 01's limits no row costs more than 2,206,694,520. Stated over any limits.
-- Assumes nothing.
use Rattle.std.specs.Prelude.{◌≡◌, refl, List, ℕ, zero, suc, ◌+◌, ◌-◌, ◌*◌, ◌≤◌, ◌<◌, T}
use Rattle.std.proofs.Common.{⊎_elim, le_trans, mul-le-mul, suc-mul, le_refl, le_of_suc-le-suc, eq-or-lt_of_le, arith}
use Rattle.std.proofs.Math.Nat.{add-le-add}
use Rattle.fold.specs.Fold.{sum}
use Rattle.fold.specs.Sums.{sum_bound}
use Rattle.fold.specs.Counting.{count-bound}
use Rattle.model.specs.Model.{Yard, received, revisiting, revisits, all_boxes, boxes_of, weighed, outcome, cost}
use Rattle.model.proofs.Moves.{direct_boxes_lem, splits_boxes}
use Rattle.day.specs.Sound.{day_limits, sound}
use Rattle.day.specs.SoundLaws.{Sound, sound_is}
use Rattle.day.specs.declared.Limits.{Limits}

-- ---- the greatest numbers

-- from each train to each other one
unfoldable pub most_boxes : Limits → ℕ
most_boxes l = l.trains * ((l.trains - 1) * l.boxes)

unfoldable pub most_cost : Limits → ℕ
most_cost l = weighed l.weight l.weight l.trains (most_boxes l)

-- ---- a train receives no box from itself

-- where one of n terms is 0 and none is above B
but_one : (n B : ℕ) (f : ℕ → ℕ) (i : ℕ) → i < n → f i ≡ 0 → ((j : ℕ) → j < n → f j ≤ B) → sum n f + B ≤ n * B
unfolding sum
but_one zero B f i h e b = absurd (omega arith)
but_one (suc n) B f i h e b =
    ⊎_elim
    (λ (q : i ≡ n). let last : f n ≡ 0 = rw q at e in omega (arith, suc-mul n B, sum_bound n B f (λ j k. b j (omega arith)), last))
    (λ (l : i < n). omega (arith, suc-mul n B, b n (omega arith), but_one n B f i l e (λ j k. b j (omega arith))))
    (eq-or-lt_of_le (le_of_suc-le-suc h))

module _ (n B : ℕ) (a : ℕ → ℕ → ℕ) (limit : (i j : ℕ) → i < n → j < n → a i j ≤ B) (own : (i : ℕ) → i < n → a i i ≡ 0) where
  boxes_to_most : (i : ℕ) → i < n → sum n (a i) ≤ (n - 1) * B
  boxes_to_most i h =
      let e : n ≡ suc (n - 1) = omega arith in
      omega (arith, but_one n B (a i) i h (own i h) (λ j k. limit i j h k), suc-mul (n - 1) B, ap_times e)
    where
      ap_times : n ≡ suc (n - 1) → n * B ≡ suc (n - 1) * B
      ap_times e = cc

  boxes_most : all_boxes n a ≤ n * ((n - 1) * B)
  unfolding all_boxes
  boxes_most = sum_bound n ((n - 1) * B) (λ i. sum n (a i)) boxes_to_most

pub revisits-most : (n : ℕ) (a : ℕ → ℕ → ℕ) (row : List ℕ) → revisits n a row ≤ n
unfolding revisits
revisits-most n a row = count-bound (revisiting n a row) n

-- ---- a sound day

pub sound_boxes : (l : Limits) (y : Yard) → Sound l y → boxes_of y ≤ most_boxes l
unfolding most_boxes
sound_boxes l y s =
    let fewer : y.trains - 1 ≤ l.trains - 1 = omega (arith, s.trains.1) in
    le_trans (boxes_most y.trains l.boxes (received y) s.boxes s.own) (mul-le-mul s.trains.1 (mul-le-mul fewer (le_refl l.boxes)))

module _ (l : Limits) (y : Yard) (row : List ℕ) (s : Sound l y) where
  pub sound-revisits : (outcome y row).revisits ≤ l.trains
  sound-revisits = le_trans (revisits-most y.trains (received y) row) s.trains.1

  pub sound-splits : (outcome y row).splits ≤ most_boxes l
  sound-splits = le_trans (splits_boxes y.trains (received y) row) (sound_boxes l y s)

  pub sound-direct : (outcome y row).direct ≤ most_boxes l
  sound-direct = le_trans (direct_boxes_lem y.trains (received y) row) (sound_boxes l y s)

  pub sound-cost : (outcome y row).cost ≤ most_cost l
  unfolding most_cost weighed
  sound-cost = add-le-add (mul-le-mul s.weights.0 sound-revisits) (mul-le-mul s.weights.1 sound-splits)

-- ---- with the limits of 01

pub day_most_boxes : most_boxes day_limits ≡ 33660
unfolding most_boxes
day_most_boxes = refl

pub day_most-cost : most_cost day_limits ≡ 2206694520
unfolding most_cost most_boxes weighed
day_most-cost = refl

pub cost-most : (y : Yard) (row : List ℕ) → T (sound day_limits y) → cost y row ≤ 2206694520
unfolding cost
cost-most y row t = omega (arith, sound-cost day_limits y row (sound_is day_limits y t), day_most-cost)
