-- An overbooked interval leaves no fitting row, so no allowed one: the trains bound inside a..b all stand in its slots, and each slot holds at most G.
-- Assumes nothing.
use Rattle.std.specs.Prelude.{◌≡◌, Bool, ◌&&◌, ◌≢◌, List, T, leb}
use Rattle.std.proofs.Math.Logic.{inl, inr, ⊎_elim}
use Prim.Native.Nat.{ℕ, zero, suc, ◌+◌, ◌-◌, ◌*◌, ◌≤◌}
use native.Mathlib.Omega.{arith}
use Rattle.std.proofs.Math.Dec.{eqb}
use Rattle.std.proofs.Common.{eq-eqb}
use Rattle.fold.specs.Test.{of_true}
use Rattle.fold.specs.Fold.{count}
use Rattle.fold.specs.Counting.{same_or, count_zero, count_le, count_or}
use Rattle.model.specs.Model.{Yard, first_slot, last_slot, slot_of, load, bound, bound_inside, fitting, overbooked, NoRow}
use Rattle.model.specs.Rows.{Fitting}
use Rattle.model.proofs.Rows.{fitting_is, allowed_fits, both_le, le_both}
use Rattle.model.proofs.Overbooked.{overbooked-range}
use Rattle.feasibility.specs.Bound.{is_bound, places}

module _ (y : Yard) (row : List ℕ) (w : Fitting y row) where
  -- train i stands in one of the slots a..b
  abbrev pub within : ℕ → ℕ → ℕ → Bool
  within a b i = leb a (slot_of row i) && leb (slot_of row i) b
