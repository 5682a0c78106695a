-- Equation (1) by slots: a row's revisits and split moves are sums over the slots of what the set of each slot causes, so the row's worth
-- as staged choices is its cost (`worth-cost`). A revisit is counted in the train's own slot, where its supplier still remains; the boxes
-- that a train receives are split or direct in its own slot too, so the row's direct moves are a sum over the slots as well
-- (`shares_direct`).
-- Assumes nothing.
use Rattle.std.specs.Prelude.{◌≡◌, refl, Bool, true, false, ◌&&◌, List}
use Rattle.std.proofs.Math.Path.{sym, ap, ap₂}
use Rattle.std.proofs.Common.{◌∙◌, eqb-true}
use Rattle.std.proofs.Math.Bool.{cond, and_comm}
use Prim.Native.Nat.{ℕ, suc, ◌+◌, ◌-◌, ◌*◌, ◌≤◌, ◌<◌}
use Rattle.std.specs.Int.Bits.{bit_and}
use Rattle.std.specs.Int.Count.{ones}
use Rattle.std.proofs.Math.Dec.{ltb, leb, eqb}
use Rattle.fold.specs.Test.{eqb_sym}
use Rattle.fold.specs.Fold.{bit, sum, count, some}
use Rattle.fold.specs.Sums.{sum_ext, some_ext, sum-add, sum_times, sum_swap, sum_only}
use Rattle.sets.specs.Mask.{has, has-mask, mask_and, ones_mask}
use Rattle.model.specs.Model.{Yard, received, supplies, slot_of, late_supplier, revisiting, revisits, split_boxes, splits_to, splits, direct_boxes, direct_to, direct, weighed, outcome, cost}
use Rattle.optimum.specs.Rows.{stage_set, remaining, worth}
use Rattle.optimum.proofs.Rows.{remaining-next}
use Rattle.staging.specs.Tables.{needing, from_outside, from_inside, late_trains, slot_cost, Share, slot_share}

-- each train has one of the slots 1 to T
abbrev pub Slotted : ℕ → ℕ → List ℕ → Type 0
Slotted n slots row = (i : ℕ) → i < n → (1 ≤ slot_of row i) × (slot_of row i ≤ slots)

-- the sum of f over the trains of slot t
abbrev pub in_slot : ℕ → List ℕ → (ℕ → ℕ) → ℕ → ℕ
in_slot n row f t = sum n λ i. cond (eqb (slot_of row i) t) (f i) 0

-- ---- the whole row

-- what its slot j + 1 contributes
abbrev pub share_in : Yard → List ℕ → ℕ → Share
share_in y row j = slot_share y (suc j) (remaining y.trains row (suc j)) (stage_set y.trains row (suc j))
