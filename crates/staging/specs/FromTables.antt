-- Staged choices that read the filled tables are the day's: test and contribution agree for the sets and slots of the day, so what the
-- loops have solved over the tables they have solved over the model (`solved_day`).
-- Assumes nothing.
use Rattle.std.specs.Prelude.{◌≡◌, refl, Bool, true, false, cond, ◌&&◌, List, T, leb, ltb}
use Rattle.std.proofs.Math.Path.{sym, ap₂}
use Rattle.std.proofs.Common.{ap, ◌∙◌, leb→le, le→leb, lt-ltb, le-ltb}
use Rattle.std.proofs.Math.Bool.{and_comm, and_assoc}
use Prim.Native.Nat.{ℕ, zero, suc, ◌+◌, ◌-◌, ◌*◌, ◌^◌, ◌≤◌, ◌<◌}
use native.Mathlib.Omega.{arith}
use Rattle.std.specs.Int.Bits.{bit_and}
use Rattle.std.proofs.lemmas.Nat.{and_le_l}
use Rattle.std.specs.Int.Count.{ones}
use Rattle.std.proofs.Math.ListN.{get_or}
use Rattle.fold.specs.Test.{is_true, of_true, both, both_of}
use Rattle.sets.specs.Subset.{Sub, subset, sub_le}
use Rattle.model.specs.Model.{Yard, received, cost}
use Rattle.optimum.specs.Layers.{Solved}
use Rattle.optimum.proofs.Agree.{solved_agree}
use Rattle.staging.specs.Tables.{needing, from_outside, open_in, together, servable, late_trains, slot_cost, stage_key, Tables, barred, from_tables, late_set, cost_from_tables, key_from_tables}
use Rattle.staging.specs.SlotInRow.{row_around}

-- a set that may be served in some slot, as far as tracks and groups go
abbrev pub admitted : Yard → ℕ → Bool
admitted y s = leb (ones s) y.tracks && together y.trains y.groups s

-- the tables of a day, filled for every set of its trains and every slot
pub record DayTables (y : Yard) (x : Tables) : Type 0 where
  pub needs : (m : ℕ) → m < 2 ^ y.trains → get_or x.need m 0 ≡ needing y.trains (received y) m
  pub lates : (m : ℕ) → m < 2 ^ y.trains → get_or x.late m 0 ≡ y.revisit * ones m
  pub counts : (m : ℕ) → m < 2 ^ y.trains → get_or x.count m 0 ≡ ones m
  pub prices : (s : ℕ) → s < 2 ^ y.trains
      → get_or x.price s 0 ≡ cond (admitted y s) (y.split * from_outside y.trains (received y) s) barred
  pub windows : (j : ℕ) → j < y.slots → get_or x.opens j 0 ≡ open_in y.trains y.first y.last (suc j)
  -- no row costs as much as `barred`, the greatest number of 32 bits
  pub cheap : (row : List ℕ) → cost y row < barred
