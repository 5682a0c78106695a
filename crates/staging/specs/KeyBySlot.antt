-- The key of a row (order 5 of document 02): cost, revisits and the sum of slot numbers are sums over the slots of what a stage sees, so a
-- row's worth is the three packed into one number (`row_key_lem`), which orders rows as the three do, one after the other (BestPlan.antt), and
-- stays below `keys_below` (`key_low`). The sum of slot numbers is the sum over the slots of how many trains remain before each
-- (`slots_by_slot`): a train remains before as many slots as its slot's number says.
-- Assumes nothing.
use Rattle.std.specs.Prelude.{◌≡◌, List, ℕ, zero, suc, ◌+◌, ◌*◌, ◌^◌, ◌≤◌, ◌<◌, min, leb}
use Rattle.std.proofs.Math.Path.{sym}
use Rattle.std.proofs.Common.{ap, ap₂, ◌∙◌, ⊎_elim, arith, le-leb}
use Rattle.std.proofs.Math.Nat.{mul-le-mul}
use Rattle.std.specs.Int.Count.{ones}
use Rattle.std.proofs.lemmas.Bool.{lt-leb}
use Rattle.fold.specs.Counting.{le_or_lt, count-bound}
use Rattle.fold.specs.Fold.{bit, sum, count}
use Rattle.fold.specs.Sums.{sum_ext, sum_swap, sum_bound}
use Rattle.sets.specs.Mask.{ones_mask}
use Rattle.model.specs.Model.{Yard, received, slot_of, revisiting, revisits, cost, slot_total}
use Rattle.optimum.specs.Keys.{pack}
use Rattle.optimum.proofs.Keys.{worth-pack}
use Rattle.optimum.specs.Rows.{remaining, worth}
use Rattle.staging.specs.Tables.{late_trains, slot_cost, waiting, revisits_below, sums_below, keys_below, stage_key}
use Rattle.staging.specs.CostBySlot.{Slotted}

-- ---- the three in one

-- cost, revisits and sum of slot numbers, packed
abbrev pub packed : ℕ → ℕ → ℕ → ℕ
packed cost late sum = (cost * revisits_below + late) * sums_below + sum

abbrev pub row_key : Yard → List ℕ → ℕ
row_key y row = packed (cost y row) (revisits y.trains (received y) row) (slot_total y.trains row)

-- ---- of 12 trains and 8 slots

pub record Few (y : Yard) : Type 0 where
  pub trains : y.trains ≤ 12
  pub slots : y.slots ≤ 8
