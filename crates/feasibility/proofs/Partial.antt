-- Laws of Partial.antt of specs/.
-- Rows filled slot by slot: where no interval is overbooked, the trains that wait always fit in the tracks that are left.
-- Assumes nothing.
use Rattle.std.specs.Prelude.{◌≡◌, Bool, ◌&&◌, List, T, leb, length, replicate}
use Rattle.std.proofs.Math.Path.{subst}
use Rattle.std.proofs.Common.{⊎_elim, leb→le, le→leb, eq-eqb}
use Prim.Native.Nat.{ℕ, zero, suc, ◌+◌, ◌*◌, ◌≤◌, ◌<◌, zero-le}
use native.Mathlib.Omega.{arith}
use Rattle.std.proofs.Math.Dec.{eqb, eqb→eq}
use Rattle.std.proofs.Math.ListN.{length-replicate, get_or-replicate}
use Rattle.fold.specs.Test.{of_true, both, both_of}
use Rattle.fold.specs.Fold.{count}
use Rattle.fold.specs.Counting.{le_or_lt, count_zero, zero_count, count_le}
use Rattle.model.specs.Model.{Yard, first_slot, last_slot, slot_of, load, bound, bound_inside}
use Rattle.model.proofs.Rows.{both_le, le_both}
use Rattle.feasibility.specs.Bound.{is_bound, Windows, Spacious}
use Rattle.feasibility.proofs.Bound.{spacious_holds}
use Rattle.feasibility.specs.Partial.{waiting, ready, waits, Partial}

pub is_waiting : (slot x b : ℕ) → slot ≡ 0 → x ≤ b → T (eqb slot 0 && leb x b)
is_waiting slot x b e h = both (eqb slot 0) (leb x b) (of_true (eq-eqb slot 0 e)) (le→leb x b h)

module _ (y : Yard) (windows : Windows y) (spacious : Spacious y) where
  -- the d slots after slot a, up to b, hold the trains bound inside; d may be 0
  spacious_after : (a b d : ℕ) → b ≡ a + d → b ≤ y.slots → bound_inside y (suc a) b ≤ y.tracks * d
  unfolding bound
  spacious_after a b zero e h = omega (
    arith,
    count_zero (is_bound y (suc a) b) y.trains
        (λ i l t. let f = both_le (suc a) (first_slot y i) (last_slot y i) b t in omega (arith, windows i l)),
  )
  spacious_after a b (suc d) e h =
      subst (λ k. bound_inside y (suc a) b ≤ y.tracks * k) (omega arith) (spacious_holds y (suc a) b spacious (omega arith) (omega arith) h)

  -- so where the trains that wait and end by slot b all begin after a, they fit in the slots after a
  pub later_fits : (a g b d : ℕ) (row : List ℕ) → ((i : ℕ) → i < y.trains → T (waiting y row b i) → suc a ≤ first_slot y i)
      → b ≡ a + d → b ≤ y.slots → count y.trains (waiting y row b) ≤ g + y.tracks * d
  unfolding bound
  later_fits a g b d row late e h = omega (
    arith,
    spacious_after a b d e h,
    count_le (waiting y row b) (is_bound y (suc a) b) y.trains
        (λ i l t. le_both (suc a) (first_slot y i) (last_slot y i) b (late i l t, (waits (slot_of row i) (last_slot y i) b t).1)),
  )

  -- ---- the steps that place no train

  -- before slot 1 all trains wait
  pub partial_start : Partial y 0 0 (replicate y.trains 0)
  unfolding load
  partial_start = record {
    long = length-replicate y.trains 0;
    placed = λ i l h. absurd (omega (arith, get_or-replicate {A = ℕ} y.trains i 0 0 l));
    open_yet = λ i l e. zero-le;
    fits = λ b d. later_fits 0 0 b d (replicate y.trains 0) (λ i l t. (windows i l).0);
    room = λ t. omega (
      arith,
      count_zero (λ i. eqb (slot_of (replicate y.trains 0) i) (suc t)) y.trains
          (λ i l e. omega (arith, get_or-replicate {A = ℕ} y.trains i 0 0 l, eqb→eq (slot_of (replicate y.trains 0) i) (suc t) e)),
    );
    left = λ h. absurd (omega arith);
  }

  -- no train that waits may stand in slot a: its tracks that are left are not needed
  pub partial_close : (a g : ℕ) (row : List ℕ) → ((i : ℕ) → i < y.trains → T (ready y row a i) → ⊥) → Partial y a g row → Partial y a 0 row
  partial_close a g row none s = record {
    long = s.long;
    placed = s.placed;
    open_yet = s.open_yet;
    fits = λ b d. later_fits a 0 b d row (λ i l t. late i l (waits (slot_of row i) (last_slot y i) b t).0);
    room = s.room;
    left = λ h. omega (arith, s.left h);
  }
    where
      late : (i : ℕ) → i < y.trains → slot_of row i ≡ 0 → suc a ≤ first_slot y i
      late i l e =
          ⊎_elim (λ h. absurd (none i l (is_waiting (slot_of row i) (first_slot y i) a e h))) (λ h. h) (le_or_lt (first_slot y i) a)

-- ---- the next slot

module _ (y : Yard) where
  -- no track of slot a is left: the trains that wait end after it
  pub ends_later : (a : ℕ) (row : List ℕ) → a ≤ y.slots → Partial y a 0 row → (i : ℕ) → i < y.trains → slot_of row i ≡ 0 → suc a ≤ last_slot y i
  ends_later a row h s i l e =
      ⊎_elim
      (λ (k : last_slot y i ≤ a).
      absurd (zero_count (waiting y row a) y.trains (omega (arith, s.fits a 0 (omega arith) h)) i l (is_waiting (slot_of row i) (last_slot y i) a e k)))
      (λ k. k)
      (le_or_lt (last_slot y i) a)

  -- and the next slot has all of its tracks left
  pub partial_next : (a : ℕ) (row : List ℕ) → suc a ≤ y.slots → Partial y a 0 row → Partial y (suc a) y.tracks row
  unfolding load
  partial_next a row h s = record {
    long = s.long;
    placed = λ i l k. let (p, q, r) = s.placed i l k in (p, q, omega arith);
    open_yet = ends_later a row (omega arith) s;
    fits = λ b d e k. omega (arith, s.fits b (suc d) (omega arith) k);
    room = s.room;
    left = λ k. omega (
      arith,
      count_zero (λ i. eqb (slot_of row i) (suc a)) y.trains
          (λ i l t. let e = eqb→eq (slot_of row i) (suc a) t in omega (arith, s.placed i l (omega arith))),
    );
  }
