-- Laws of KeyBySlot.antt of specs/.
-- The key of a row (order 5 of document 02): cost, revisits and the sum of slot numbers are sums over the slots of what a stage sees, so a
-- row's worth is the three packed into one number (`row_key_lem`), which orders rows as the three do, one after the other (BestPlan.antt), and
-- stays below `keys_below` (`key_low`). The sum of slot numbers is the sum over the slots of how many trains remain before each
-- (`slots_by_slot`): a train remains before as many slots as its slot's number says.
-- Assumes nothing.
use Rattle.std.specs.Prelude.{◌≡◌, List, ℕ, zero, suc, ◌+◌, ◌*◌, ◌^◌, ◌≤◌, ◌<◌, min, leb}
use Rattle.std.proofs.Math.Path.{sym}
use Rattle.std.proofs.Common.{ap, ap₂, ◌∙◌, ⊎_elim, arith, le-leb}
use Rattle.std.proofs.Math.Nat.{mul-le-mul}
use Rattle.std.specs.Int.Count.{ones}
use Rattle.std.proofs.lemmas.Bool.{lt-leb}
use Rattle.fold.specs.Counting.{le_or_lt, count-bound}
use Rattle.fold.specs.Fold.{bit, sum, count}
use Rattle.fold.specs.Sums.{sum_ext, sum_swap, sum_bound}
use Rattle.sets.specs.Mask.{ones_mask}
use Rattle.model.specs.Model.{Yard, received, slot_of, revisiting, revisits, cost, slot_total}
use Rattle.optimum.specs.Keys.{pack}
use Rattle.optimum.proofs.Keys.{worth-pack}
use Rattle.optimum.specs.Rows.{remaining, worth}
use Rattle.staging.specs.Tables.{late_trains, slot_cost, waiting, revisits_below, sums_below, keys_below, stage_key}
use Rattle.staging.specs.CostBySlot.{Slotted}
use Rattle.staging.proofs.CostBySlot.{revisits_by_slot, worth-cost}
use Rattle.staging.specs.KeyBySlot.{packed, row_key, Few}

-- ---- the sum of slot numbers

-- of the numbers 1 to m as many as x are at most x, or all
count_to : (m x : ℕ) → sum m (λ t. bit (leb (suc t) x)) ≡ min m x
unfolding sum
count_to zero x = omega arith
count_to (suc m) x =
    ⊎_elim (λ (l : suc m ≤ x). omega (arith, count_to m x, ap bit (le-leb (suc m) x l)))
    (λ (l : x < suc m). omega (arith, count_to m x, ap bit (lt-leb (suc m) x l))) (le_or_lt (suc m) x)

pub slots_by_slot : (n slots : ℕ) (row : List ℕ) → Slotted n slots row → worth waiting n slots row ≡ slot_total n row
unfolding worth slot_total count
slots_by_slot n slots row staged =
    sum_ext slots (λ j. ones (remaining n row (suc j))) (λ j. sum n λ i. bit (leb (suc j) (slot_of row i))) (λ j l. ones_mask n λ i. leb (suc j) (slot_of row i))
    ∙ sum_swap slots n (λ j i. bit (leb (suc j) (slot_of row i)))
    ∙ sum_ext n (λ i. sum slots λ j. bit (leb (suc j) (slot_of row i))) (slot_of row) (λ i l. omega (arith, count_to slots (slot_of row i), staged i l))

module _ (y : Yard) (slots : ℕ) (row : List ℕ) (staged : Slotted y.trains slots row) where
  late_by_slot : worth (λ t. late_trains y) y.trains slots row ≡ revisits y.trains (received y) row
  unfolding worth
  late_by_slot = sym (revisits_by_slot y slots row staged)

  pub row_key_lem : worth (stage_key y) y.trains slots row ≡ row_key y row
  row_key_lem =
      worth-pack sums_below (pack revisits_below (slot_cost y) (λ t. late_trains y)) waiting y.trains slots row
      ∙ ap₂ (λ a b. a * sums_below + b)
      (worth-pack revisits_below (slot_cost y) (λ t. late_trains y) y.trains slots row
      ∙ ap₂ (λ a b. a * revisits_below + b) (worth-cost y slots row staged) late_by_slot)
      (slots_by_slot y.trains slots row staged)

module _ (y : Yard) (few : Few y) (row : List ℕ) where
  pub revisits_low : revisits y.trains (received y) row < revisits_below
  unfolding revisits
  revisits_low = omega (arith, few.trains, count-bound (revisiting y.trains (received y) row) y.trains)

  pub slots_low : Slotted y.trains y.slots row → slot_total y.trains row < sums_below
  unfolding slot_total
  slots_low staged = omega (arith, sum_bound y.trains y.slots (slot_of row) (λ i l. (staged i l).1), mul-le-mul few.trains few.slots)

  -- a cost of 32 bits gives a key of 43
  pub key_low : Slotted y.trains y.slots row → cost y row < 2 ^ 32 → row_key y row < keys_below
  key_low staged l = omega (arith, revisits_low, slots_low staged)
