-- Laws of NoRow.antt of specs/.
-- An overbooked interval leaves no fitting row, so no allowed one: the trains bound inside a..b all stand in its slots, and each slot holds at most G.
-- Assumes nothing.
use Rattle.std.specs.Prelude.{◌≡◌, Bool, ◌&&◌, ◌≢◌, List, T, leb}
use Rattle.std.proofs.Math.Logic.{inl, inr, ⊎_elim}
use Prim.Native.Nat.{ℕ, zero, suc, ◌+◌, ◌-◌, ◌*◌, ◌≤◌}
use native.Mathlib.Omega.{arith}
use Rattle.std.proofs.Math.Dec.{eqb}
use Rattle.std.proofs.Common.{eq-eqb}
use Rattle.fold.specs.Test.{of_true}
use Rattle.fold.specs.Fold.{count}
use Rattle.fold.specs.Counting.{same_or, count_zero, count_le, count_or}
use Rattle.model.specs.Model.{Yard, first_slot, last_slot, slot_of, load, bound, bound_inside, fitting, overbooked, NoRow}
use Rattle.model.specs.Rows.{Fitting}
use Rattle.model.proofs.Rows.{fitting_is, allowed_fits, both_le, le_both}
use Rattle.model.proofs.Overbooked.{overbooked-range}
use Rattle.feasibility.specs.Bound.{is_bound, places}
use Rattle.feasibility.proofs.Bound.{over_exceeds}
use Rattle.feasibility.specs.NoRow.{within}

module _ (y : Yard) (row : List ℕ) (w : Fitting y row) where
  -- the d slots after slot a hold at most G trains each
  pub slots_hold : (a d : ℕ) → a + d ≤ y.slots → count y.trains ((within y row w) (suc a) (a + d)) ≤ y.tracks * d
  unfolding load
  slots_hold a zero h = omega (
    arith,
    count_zero ((within y row w) (suc a) (a + 0)) y.trains (λ i l t. let f = both_le (suc a) (slot_of row i) (slot_of row i) (a + 0) t in omega arith),
  )
  slots_hold a (suc d) h = omega (
    arith,
    slots_hold a d (omega arith),
    w.room (a + d) (omega arith),
    count_or ((within y row w) (suc a) (a + suc d)) ((within y row w) (suc a) (a + d)) (λ i. eqb (slot_of row i) (suc (a + d))) y.trains
        (λ i l t.
        let f = both_le (suc a) (slot_of row i) (slot_of row i) (a + suc d) t in
        ⊎_elim
        (λ (e : slot_of row i ≡ suc (a + d)). inr (of_true (eq-eqb (slot_of row i) (suc (a + d)) e)))
        (λ (e : slot_of row i ≢ suc (a + d)). inl (le_both (suc a) (slot_of row i) (slot_of row i) (a + d) (omega arith, omega arith)))
        (same_or (slot_of row i) (suc (a + d)))),
  )

  -- the trains bound inside a..b stand in it
  bound-within : (a b c d : ℕ) → c ≤ a → b ≤ d → bound_inside y a b ≤ count y.trains ((within y row w) c d)
  unfolding bound
  bound-within a b c d h k =
      count_le (is_bound y a b) ((within y row w) c d) y.trains
      (λ i l t.
      let f = both_le a (first_slot y i) (last_slot y i) b t in
      let g = w.windowed i l in
      le_both c (slot_of row i) (slot_of row i) d (omega arith, omega arith))

  -- so no interval is overbooked
  interval_holds : (a b : ℕ) → 1 ≤ a → a ≤ b → b ≤ y.slots → bound_inside y a b ≤ places y a b
  interval_holds a b from order upto = omega (
    arith,
    bound-within a b (suc (a - 1)) (a - 1 + (b - a + 1)) (omega arith) (omega arith),
    slots_hold (a - 1) (b - a + 1) (omega arith),
  )

pub none_fits : (y : Yard) (a b : ℕ) → T (overbooked y a b) → (row : List ℕ) → T (fitting y row) → ⊥
none_fits y a b t row f =
    let (from, order, upto) = overbooked-range y a b t in
    omega (arith, over_exceeds y a b t, interval_holds y row (fitting_is y row f) a b from order upto)

pub no_row_lem : (y : Yard) (a b : ℕ) → T (overbooked y a b) → NoRow y
no_row_lem y a b t row al = none_fits y a b t row (allowed_fits y row al)
