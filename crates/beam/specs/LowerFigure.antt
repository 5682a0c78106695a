-- The lower figure of a day (document 02, order 9), and that no row that fits costs less (`figure_lower`). Two things hold in every such
-- row. A train revisits where a supplier's first slot is after its own last slot. And a train shares its slot with at most G - 1 others,
-- so at most the G - 1 largest of its supplies are moved directly.
-- Assumes nothing.
use Rattle.std.specs.Prelude.{◌≡◌, refl, Bool, ◌&&◌, List, ◌⊎◌, T}
use Rattle.std.proofs.Common.{sym, ap₂, ◌∙◌, inl, inr, add-le-add, mul-le-mul_left, lt→ltb, eqb→eq, eq-eqb, ne_eqb}
use Rattle.std.proofs.Math.Path.{ap, subst}
use Rattle.std.proofs.Math.Bool.{true, false, not, cond}
use Prim.Native.Nat.{ℕ, zero, suc, ◌+◌, ◌-◌, ◌≤◌, ◌<◌, zero-le, max}
use native.Mathlib.Omega.{arith}
use Rattle.std.proofs.Math.Dec.{ltb, eqb, ltb→lt}
use Rattle.fold.specs.Test.{of_true, both, both_of, not_of}
use Rattle.fold.specs.Fold.{bit, sum, count, some, some_at, some_of}
use Rattle.fold.specs.Sums.{sum_le, sum_ext, sum-add, sum_zero}
use Rattle.fold.specs.Counting.{le_or_lt, count_suc, count_zero, count_le, count_less, bit_yes}
use Rattle.model.specs.Model.{Yard, received, first_slot, last_slot, slot_of, supplies, late_supplier, revisiting, revisits, split_boxes, splits_to, splits, weighed, cost, load, fitting}
use Rattle.model.specs.Rows.{Fitting}
use Rattle.model.proofs.Rows.{fitting_is}

-- ---- definitions

-- the greatest sum of at most k of the values f 0, .., f (n - 1): that of the k largest
unfoldable pub largest : ℕ → ℕ → (ℕ → ℕ) → ℕ
largest zero n f = 0
largest (suc k) zero f = 0
largest (suc k) (suc n) f = max (largest (suc k) n f) (largest k n f + f n)

-- train i has a supplier whose first slot is after its own last slot
unfoldable pub surely_revisits : Yard → ℕ → Bool
surely_revisits y i = some y.trains λ j. supplies (received y) i j && ltb (last_slot y i) (first_slot y j)

-- the boxes that train i receives, less its G - 1 largest supplies
unfoldable pub surely_split : Yard → ℕ → ℕ
surely_split y i = sum y.trains (received y i) - largest (y.tracks - 1) y.trains (received y i)

unfoldable pub lower_figure : Yard → ℕ
lower_figure y = weighed y.revisit y.split (count y.trains (surely_revisits y)) (sum y.trains (surely_split y))

-- ---- the order's words again: what is left out of a train's boxes is some G - 1 supplies or fewer, and no G - 1 come to more

pub record LessLargest (y : Yard) (i : ℕ) : Type 0 where
  pub taken : ℕ → Bool
  pub few : count y.trains taken ≤ y.tracks - 1
  pub is : surely_split y i ≡ sum y.trains (received y i) - sum y.trains (λ j. cond (taken j) (received y i j) 0)
  pub no_more : (others : ℕ → Bool) → count y.trains others ≤ y.tracks - 1
      → sum y.trains (λ j. cond (others j) (received y i j) 0) ≤ sum y.trains (λ j. cond (taken j) (received y i j) 0)

-- ---- what holds in every row that fits

-- no train has boxes for itself
abbrev pub NoOwnBoxes : Yard → Type 0
NoOwnBoxes y = (i : ℕ) → i < y.trains → received y i i ≡ 0
