-- Rows filled slot by slot: where no interval is overbooked, the trains that wait always fit in the tracks that are left.
-- Assumes nothing.
use Rattle.std.specs.Prelude.{◌≡◌, Bool, ◌&&◌, List, T, leb, length, replicate}
use Rattle.std.proofs.Math.Path.{subst}
use Rattle.std.proofs.Common.{⊎_elim, leb→le, le→leb, eq-eqb}
use Prim.Native.Nat.{ℕ, zero, suc, ◌+◌, ◌*◌, ◌≤◌, ◌<◌, zero-le}
use native.Mathlib.Omega.{arith}
use Rattle.std.proofs.Math.Dec.{eqb, eqb→eq}
use Rattle.std.proofs.Math.ListN.{length-replicate, get_or-replicate}
use Rattle.fold.specs.Test.{of_true, both, both_of}
use Rattle.fold.specs.Fold.{count}
use Rattle.fold.specs.Counting.{le_or_lt, count_zero, zero_count, count_le}
use Rattle.model.specs.Model.{Yard, first_slot, last_slot, slot_of, load, bound, bound_inside}
use Rattle.model.proofs.Rows.{both_le, le_both}
use Rattle.feasibility.specs.Bound.{is_bound, Windows, Spacious}

-- ---- the trains that wait: they have no slot yet, 0 in the row

-- train i waits, and its last slot is at most b
abbrev pub waiting : Yard → List ℕ → ℕ → ℕ → Bool
waiting y row b i = eqb (slot_of row i) 0 && leb (last_slot y i) b

-- train i waits, and its first slot is at most a
abbrev pub ready : Yard → List ℕ → ℕ → ℕ → Bool
ready y row a i = eqb (slot_of row i) 0 && leb (first_slot y i) a

unfoldable pub waits : (slot x b : ℕ) → T (eqb slot 0 && leb x b) → (slot ≡ 0) × (x ≤ b)
waits slot x b t = let (p, q) = both_of (eqb slot 0) (leb x b) t in (eqb→eq slot 0 p, leb→le x b q)

-- ---- a row filled up to slot a, with g tracks of slot a left

pub record Partial (y : Yard) (a g : ℕ) (row : List ℕ) : Type 0 where
  pub long : length row ≡ y.trains
  -- a train that has a slot has one of its window, up to a
  pub placed : (i : ℕ) → i < y.trains → 1 ≤ slot_of row i → (first_slot y i ≤ slot_of row i) × (slot_of row i ≤ last_slot y i) × (slot_of row i ≤ a)
  -- the window of a train that waits does not end before a
  pub open_yet : (i : ℕ) → i < y.trains → slot_of row i ≡ 0 → a ≤ last_slot y i
  -- the trains that wait and end by slot b are no more than the tracks left in a..b
  pub fits : (b d : ℕ) → b ≡ a + d → b ≤ y.slots → count y.trains (waiting y row b) ≤ g + y.tracks * d
  -- no slot is overfull, and slot a has g tracks left
  pub room : (t : ℕ) → load y.trains row (suc t) ≤ y.tracks
  pub left : 1 ≤ a → load y.trains row a + g ≤ y.tracks
