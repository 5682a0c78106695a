-- The first overbooked interval of a day as a function (01: of all overbooked stretches the smallest first slot, and for it the
-- smallest last slot), and that it names just that one.
-- Assumes nothing.
use Rattle.std.specs.Prelude.{Bool, cond, T}
use Rattle.std.proofs.Math.Option.{Option, none, some}
use Prim.Native.Nat.{ℕ, suc}
use Rattle.std.proofs.Math.Dec.{leb}
use Rattle.fold.specs.Fold
use Rattle.fold.specs.Fold.{lowest, lowest-passes, lowest-before, some_at, some_of}
use Rattle.model.specs.Model.{Yard, overbooked, FirstOverbooked}

-- ---- definition

-- an interval of slots, 01's stretch
pub record Interval : Type 0 where
  pub first : ℕ
  pub last : ℕ

-- some overbooked interval begins at slot a
unfoldable pub overbooked_from : Yard → ℕ → Bool
overbooked_from y a = Fold.some y.slots λ b. overbooked y a (suc b)

-- the smallest first slot, and for the first slot a the smallest last slot; past T where there is none
unfoldable pub overbooked_first : Yard → ℕ
overbooked_first y = suc (lowest y.slots λ a. overbooked_from y (suc a))

unfoldable pub overbooked_last : Yard → ℕ → ℕ
overbooked_last y a = suc (lowest y.slots λ b. overbooked y a (suc b))

unfoldable pub first_overbooked : Yard → Option Interval
first_overbooked y =
    let a = overbooked_first y in
    cond (leb a y.slots) (some (record { first = a; last = overbooked_last y a })) none

-- ---- what it says

module _ (y : Yard) where
  -- none: no interval is overbooked. An interval: it is the first overbooked one
  abbrev pub SaysFirst : Option Interval → Type 0
  SaysFirst none = (a b : ℕ) → T (overbooked y a b) → ⊥
  SaysFirst (some w) = FirstOverbooked y w.first w.last
