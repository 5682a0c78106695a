-- A train is placed: of those that may stand in slot a one with the earliest last slot. The trains that still wait fit as before.
-- Assumes nothing.
use Rattle.std.specs.Prelude.{◌≡◌, refl, ◌≢◌, List, length, set}
use Rattle.std.proofs.Common.{sym, eqb→eq, get_or-set_same, get_or-set_other}
use Rattle.std.proofs.Math.Path.{subst}
use Rattle.std.proofs.Math.Logic.{⊎_elim}
use Prim.Native.Nat.{ℕ, suc, ◌+◌, ◌*◌, ◌≤◌, ◌<◌}
use native.Mathlib.Omega.{arith}
use Rattle.std.proofs.Math.Dec.{T, eqb}
use Rattle.std.proofs.Math.ListN.{length-set}
use Rattle.fold.specs.Fold.{count}
use Rattle.fold.specs.Counting.{same_or, le_or_lt, count_le, count_less, count-more}
use Rattle.model.specs.Model.{Yard, first_slot, last_slot, slot_of, load}
use Rattle.feasibility.specs.Bound.{Windows, Spacious}
use Rattle.feasibility.specs.Earliest.{Earliest}
use Rattle.feasibility.specs.Partial.{waiting, ready, waits, Partial}
use Rattle.feasibility.proofs.Partial.{is_waiting, later_fits}

-- what holds of slot a at i, and of the row's slots elsewhere, holds of the row with train i in slot a
set_holds : (P : ℕ → ℕ → Type 0) (row : List ℕ) (i a : ℕ) → i < length row → P i a → ((j : ℕ) → j ≢ i → P j (slot_of row j))
    → (j : ℕ) → P j (slot_of (set row i a) j)
set_holds P row i a h here other j =
    ⊎_elim
    (λ (e : j ≡ i). subst (λ k. P k (slot_of (set row i a) k)) (sym e) (rw (get_or-set_same row i a 0 h) here))
    (λ (d : j ≢ i). rw (get_or-set_other row i j a 0 d) (other j d))
    (same_or j i)

module _ (y : Yard) (windows : Windows y) (spacious : Spacious y) (a g : ℕ) (row : List ℕ) (from : 1 ≤ a) (s : Partial y a (suc g) row)
    (i : ℕ) (chosen : Earliest y.trains (ready y row a) (last_slot y) i) where
  after : List ℕ
  after = set row i a

  in_row : i < length row
  in_row = omega (arith, s.long, chosen.below)

  -- train i waited, and slot a lies in its window
  waited : (slot_of row i ≡ 0) × (first_slot y i ≤ a)
  waited = waits (slot_of row i) (first_slot y i) a chosen.passes

  in_window_lem : (first_slot y i ≤ a) × (a ≤ last_slot y i)
  in_window_lem = (waited.1, s.open_yet i chosen.below waited.0)

  -- a train that still waits is another, and waited before
  waits_on : (j : ℕ) → slot_of after j ≡ 0 → (j ≢ i) × (slot_of row j ≡ 0)
  unfolding after
  waits_on = set_holds (λ j x. x ≡ 0 → (j ≢ i) × (slot_of row j ≡ 0)) row i a in_row (λ e. absurd (omega arith)) (λ j d e. (d, e))

  -- train i ends by slot b: one less waits
  fits_less : (b d : ℕ) → b ≡ a + d → b ≤ y.slots → last_slot y i ≤ b → count y.trains (waiting y after b) ≤ g + y.tracks * d
  fits_less b d e h l = omega (
    arith,
    s.fits b d e h,
    count_less (waiting y row b) (waiting y after b) y.trains i chosen.below (is_waiting (slot_of row i) (last_slot y i) b waited.0 l)
        (λ t. (waits_on i (waits (slot_of after i) (last_slot y i) b t).0).0 refl)
        (λ j k d t. let (z, q) = waits (slot_of after j) (last_slot y j) b t in is_waiting (slot_of row j) (last_slot y j) b (waits_on j z).1 q),
  )

  -- it ends later: so does every train that may stand in slot a, and those that end by b begin after a
  fits_later : (b d : ℕ) → b ≡ a + d → b ≤ y.slots → b < last_slot y i → count y.trains (waiting y after b) ≤ g + y.tracks * d
  fits_later b d e h l =
      later_fits y windows spacious a g b d after
      (λ j k t.
      let (z, q) = waits (slot_of after j) (last_slot y j) b t in
      ⊎_elim
      (λ (m : first_slot y j ≤ a). absurd (omega (arith, chosen.least j k (is_waiting (slot_of row j) (first_slot y j) a (waits_on j z).1 m))))
      (λ m. m)
      (le_or_lt (first_slot y j) a))
      e
      h

  -- slot a has one train more, every other slot has the trains that it had
  one_more : load y.trains after a + g ≤ y.tracks
  unfolding load after
  one_more = omega (
    arith,
    s.left from,
    count-more (λ j. eqb (slot_of row j) a) (λ j. eqb (slot_of after j) a) y.trains i
        (λ j l d t. subst (λ x. T (eqb x a)) (get_or-set_other row i j a 0 d) t),
  )

  as_before : (t : ℕ) → t ≢ a → load y.trains after t ≤ load y.trains row t
  unfolding load after
  as_before t d =
      count_le (λ j. eqb (slot_of after j) t) (λ j. eqb (slot_of row j) t) y.trains
      (λ j l. set_holds (λ j x. T (eqb x t) → T (eqb (slot_of row j) t)) row i a in_row (λ e. absurd (d (sym (eqb→eq a t e)))) (λ j k e. e) j)

  pub partial_place : Partial y a g (set row i a)
  unfolding after
  partial_place = record {
    long = omega (arith, length-set row i a, s.long);
    placed =
        set_holds (λ j x. j < y.trains → 1 ≤ x → (first_slot y j ≤ x) × (x ≤ last_slot y j) × (x ≤ a)) row i a in_row
        (λ l h. (in_window_lem.0, in_window_lem.1, omega arith))
        (λ j d. s.placed j);
    open_yet = λ j l e. s.open_yet j l (waits_on j e).1;
    fits = λ b d e h. ⊎_elim (fits_less b d e h) (fits_later b d e h) (le_or_lt (last_slot y i) b);
    room =
        λ t.
        ⊎_elim
        (λ (e : suc t ≡ a). subst (λ x. load y.trains after x ≤ y.tracks) (sym e) (omega (arith, one_more)))
        (λ d. omega (arith, as_before (suc t) d, s.room t))
        (same_or (suc t) a);
    left = λ h. one_more;
  }
