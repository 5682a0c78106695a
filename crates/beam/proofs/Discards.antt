-- Laws of Discards.antt of specs/.
-- What the discards ask of a set r that remains after slot t. On a day that overbooks no interval they come to one thing (`Fits`): for each
-- slot b from t on, the trains of r that end by b are no more than the tracks of the slots after t up to b. A later first slot adds nothing,
-- since the trains bound inside an interval that begins later fit on their own.
-- Assumes nothing.
use Rattle.std.specs.Prelude.{◌≡◌, Bool, true, false, ◌&&◌, T, leb}
use Rattle.std.proofs.Common.{ap, ◌∙◌, mul-le-mul_left, le→leb}
use Rattle.std.proofs.Math.Path.{subst}
use Rattle.std.proofs.Math.Bool.{cond}
use Rattle.std.proofs.Math.Logic.{⊎_elim}
use Rattle.std.proofs.Math.Option.{Option, none, some}
use Prim.Native.Nat.{ℕ, zero, suc, ◌+◌, ◌-◌, ◌*◌, ◌≤◌, ◌<◌, max}
use native.Mathlib.Omega.{arith}
use Rattle.std.proofs.Math.Dec.{leb→le}
use Rattle.fold.specs.Test.{both, both_of, left, right, either_of}
use Rattle.fold.specs.Fold
use Rattle.fold.specs.Fold.{count, some_at, some_of}
use Rattle.fold.specs.Counting.{le_or_lt, count_zero, zero_count, count_le}
use Rattle.fold.specs.Listed.{listed_at}
use Rattle.sets.specs.Mask.{has}
use Rattle.sets.specs.Rest.{full, has-full}
use Rattle.model.specs.Model.{Yard, first_slot, last_slot, bound, bound_inside}
use Rattle.model.proofs.Rows.{both_le, le_both}
use Rattle.model.specs.Overbooked.{Interval, first_overbooked, SaysFirst}
use Rattle.model.proofs.Overbooked.{first_says, overbooked-range}
use Rattle.feasibility.specs.Bound.{is_bound, Spacious}
use Rattle.feasibility.proofs.Bound.{over_exceeds, exceeds_over, spacious_holds}
use Rattle.beam.specs.Beam.{remainder, found, discarded}
use Rattle.beam.specs.Discards.{ending, Fits}

-- ---- an interval is found exactly where one is overbooked

none_found : (y : Yard) → (T (found (first_overbooked y)) → ⊥) → Spacious y
none_found y = go (first_overbooked y) (first_says y)
  where
    go : (o : Option Interval) → SaysFirst y o → (T (found o) → ⊥) → Spacious y
    go none says h = says
    go (some w) says h = absurd (h tt)

found_none : (y : Yard) → Spacious y → T (found (first_overbooked y)) → ⊥
found_none y spacious = go (first_overbooked y) (first_says y)
  where
    go : (o : Option Interval) → SaysFirst y o → T (found o) → ⊥
    go none says t = t
    go (some w) says t = spacious w.first w.last says.is_over

module _ (y : Yard) (t r : ℕ) where
  -- ---- the cut windows

  cut : (i : ℕ) → i < y.trains → first_slot (remainder y t r) i ≡ cond (has r i) (max (suc t) (first_slot y i)) 0
  unfolding remainder
  cut i l = listed_at y.trains (λ i. cond (has r i) (max (suc t) (first_slot y i)) 0) 0 i l

  -- a train that remains begins after t
  cut_after : (i : ℕ) → i < y.trains → T (has r i) → suc t ≤ first_slot (remainder y t r) i
  cut_after i l = go (has r i) (cut i l)
    where
      go : (b : Bool) → first_slot (remainder y t r) i ≡ cond b (max (suc t) (first_slot y i)) 0 → T b → suc t ≤ first_slot (remainder y t r) i
      go true e h = omega arith
      go false e h = absurd h

  -- a train that begins in slot a or later remains, and where a is after t + 1 it does so on the day
  cut_from : (i a : ℕ) → i < y.trains → 1 ≤ a → a ≤ first_slot (remainder y t r) i → T (has r i) × (suc t < a → a ≤ first_slot y i)
  cut_from i a l h = go (has r i) (cut i l)
    where
      go : (b : Bool) → first_slot (remainder y t r) i ≡ cond b (max (suc t) (first_slot y i)) 0 → a ≤ first_slot (remainder y t r) i
          → T b × (suc t < a → a ≤ first_slot y i)
      go true e k = (tt, λ m. omega arith)
      go false e k = absurd (omega arith)

  -- the trains of r that end by b are bound inside t + 1 .. b
  ending-bound : (b : ℕ) → count y.trains (ending y r b) ≤ bound_inside (remainder y t r) (suc t) b
  unfolding remainder bound
  ending-bound b =
      count_le (ending y r b) (is_bound (remainder y t r) (suc t) b) y.trains
      (λ i l k.
      let (remains, ends) = both_of (has r i) (leb (last_slot y i) b) k in
      le_both (suc t) (first_slot (remainder y t r) i) (last_slot y i) b (cut_after i l remains, leb→le (last_slot y i) b ends))

  -- no train is bound inside a .. b that does not remain and end by b
  bound-ending : (a b : ℕ) → 1 ≤ a → bound_inside (remainder y t r) a b ≤ count y.trains (ending y r b)
  unfolding remainder bound
  bound-ending a b from =
      count_le (is_bound (remainder y t r) a b) (ending y r b) y.trains
      (λ i l k.
      let (begins, ends) = both_le a (first_slot (remainder y t r) i) (last_slot y i) b k in
      both (has r i) (leb (last_slot y i) b) (cut_from i a l from begins).0 (le→leb (last_slot y i) b ends))

  -- after slot t + 1 it is bound so on the day too
  bound_day : (a b : ℕ) → suc t < a → bound_inside (remainder y t r) a b ≤ bound_inside y a b
  unfolding remainder bound
  bound_day a b after =
      count_le (is_bound (remainder y t r) a b) (is_bound y a b) y.trains
      (λ i l k.
      let (begins, ends) = both_le a (first_slot (remainder y t r) i) (last_slot y i) b k in
      le_both a (first_slot y i) (last_slot y i) b ((cut_from i a l (omega arith) begins).1 after, ends))

  -- ---- what is not discarded fits

  pub kept_fits : (T (discarded y t r) → ⊥) → Fits y t r
  unfolding discarded remainder
  kept_fits keep b zero e h =
      let same : b ≡ t = omega arith in
      rw same
      (omega (
        arith,
        count_zero (ending y r t) y.trains
            (λ i l k. keep (left (Fold.some y.trains (ending y r t)) (found (first_overbooked (remainder y t r))) (some_at y.trains (ending y r t) i l k))),
      ))
  kept_fits keep b (suc d) e h =
      let spacious : Spacious (remainder y t r) =
      none_found (remainder y t r) (λ f. keep (right (Fold.some y.trains (ending y r t)) (found (first_overbooked (remainder y t r))) f)) in
      let all : bound_inside (remainder y t r) (suc t) b ≤ y.tracks * (b - suc t + 1) = spacious_holds (remainder y t r) (suc t) b spacious (omega arith) (omega arith) h in
      let slots : b - suc t + 1 ≡ suc d = omega arith in
      omega (arith, ending-bound b, subst (λ k. bound_inside (remainder y t r) (suc t) b ≤ y.tracks * k) slots all)

  -- ---- and on a day that overbooks no interval, what fits is not discarded

  module _ (spacious : Spacious y) (upto : t ≤ y.slots) (fits : Fits y t r) where
    -- no train's last slot has passed
    none_passed : (i : ℕ) → i < y.trains → T (ending y r t i) → ⊥
    none_passed = zero_count (ending y r t) y.trains (omega (arith, fits t 0 (omega arith) upto))

    interval_fits : (a b : ℕ) → 1 ≤ a → a ≤ b → b ≤ y.slots → bound_inside (remainder y t r) a b ≤ y.tracks * (b - a + 1)
    interval_fits a b from order h =
        ⊎_elim
        (λ (early : a ≤ suc t).
        ⊎_elim
        (λ (k : t ≤ b).
        omega (arith, bound-ending a b from, fits b (b - t) (omega arith) h, mul-le-mul_left {m = b - t} {n = b - a + 1} y.tracks (omega arith)))
        (λ (k : b < t).
        omega (
          arith,
          bound-ending a b from,
          count_zero (ending y r b) y.trains
              (λ i l e.
              let (remains, ends) = both_of (has r i) (leb (last_slot y i) b) e in
              none_passed i l (both (has r i) (leb (last_slot y i) t) remains (le→leb (last_slot y i) t (omega (arith, leb→le (last_slot y i) b ends))))),
        ))
        (le_or_lt t b))
        (λ (late : suc t < a). omega (arith, bound_day a b late, spacious_holds y a b spacious from order h))
        (le_or_lt a (suc t))

    pub fits_kept : T (discarded y t r) → ⊥
    unfolding discarded remainder
    fits_kept bad =
        ⊎_elim
        (λ passed. let (i, l, e) = some_of y.trains (ending y r t) passed in none_passed i l e)
        (λ over.
        found_none (remainder y t r)
        (λ a b w.
        let (from, order, h) = overbooked-range (remainder y t r) a b w in
        omega (arith, over_exceeds (remainder y t r) a b w, interval_fits a b from order h))
        over)
        (either_of (Fold.some y.trains (ending y r t)) (found (first_overbooked (remainder y t r))) bad)

-- where all trains remain and are not discarded, the day overbooks no interval
pub start_spacious : (y : Yard) → (T (discarded y 0 (full y.trains)) → ⊥) → Spacious y
unfolding discarded remainder bound
start_spacious y keep a b w =
    let n : ℕ = y.trains in
    let (from, order, upto) = overbooked-range y a b w in
    let more : bound_inside y a b ≤ bound_inside (remainder y 0 (full n)) a b =
    count_le (is_bound y a b) (is_bound (remainder y 0 (full n)) a b) n
    (λ i l k.
    let (begins, ends) = both_le a (first_slot y i) (last_slot y i) b k in
    let e : first_slot (remainder y 0 (full n)) i ≡ max 1 (first_slot y i) = cut y 0 (full n) i l ∙ ap (λ x. cond x (max 1 (first_slot y i)) 0) (has-full n i l) in
    le_both a (first_slot (remainder y 0 (full n)) i) (last_slot y i) b (omega arith, ends)) in
    none_found (remainder y 0 (full n)) (λ f. keep (right (Fold.some n (ending y (full n) 0)) (found (first_overbooked (remainder y 0 (full n)))) f)) a b
    (exceeds_over (remainder y 0 (full n)) a b from order upto (omega (arith, over_exceeds y a b w)))
