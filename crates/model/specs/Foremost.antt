-- Order 5 of document 02 in its own words: among plans of equal cost fewer revisits come first, then a smaller sum of slot numbers over all
-- trains, and only then the set-number order. Of the allowed rows of least cost the best plan is just the one that is foremost so
-- (`best_foremost`, `foremost_best`). Neither `precedes` nor the order of a key before an order stands in it. And whatever chose among the
-- cheapest rows before, the plan costs the same (`same_cost`), and where there is one such row it is the plan (`same_plan`).
-- Assumes nothing.
use Rattle.std.specs.Prelude.{◌≡◌, ℕ, suc, ◌≤◌, ◌<◌}
use mathlib.Core.List.{List}
use Rattle.std.proofs.Math.Dec.{T}
use Rattle.fold.specs.Fold.{sum}
use Rattle.model.specs.Model.{Yard, received, slot_of, revisits, outcome, cost, allowed, slot_mask, slot_total}

-- a row of some kind, and none of that kind is cheaper; an allowed one
abbrev pub CheapestOf : Yard → (List ℕ → Type 0) → List ℕ → Type 0
CheapestOf y Kind row = Kind row × ((other : List ℕ) → Kind other → cost y row ≤ cost y other)

abbrev pub Cheapest : Yard → List ℕ → Type 0
Cheapest y = CheapestOf y λ row. T (allowed y row)

-- `other` is an allowed row that costs as much as `row`
abbrev pub AsCheap : Yard → List ℕ → List ℕ → Type 0
AsCheap y row other = T (allowed y other) × (cost y other ≡ cost y row)

-- it has no fewer revisits
abbrev pub NoFewerRevisits : Yard → List ℕ → List ℕ → Type 0
NoFewerRevisits y row other = (outcome y row).revisits ≤ (outcome y other).revisits

-- its sum of slot numbers is no smaller
abbrev pub NoSmallerSum : Yard → List ℕ → List ℕ → Type 0
NoSmallerSum y row other = sum y.trains (slot_of row) ≤ sum y.trains (slot_of other)

-- at the lowest slot where their set numbers differ it has no larger one
abbrev pub NoLargerSet : Yard → List ℕ → List ℕ → Type 0
NoLargerSet y row other =
    (t : ℕ) → t < y.slots → ((u : ℕ) → u < t → slot_mask y.trains row (suc u) ≡ slot_mask y.trains other (suc u))
    → slot_mask y.trains other (suc t) ≤ slot_mask y.trains row (suc t)

pub record Foremost (y : Yard) (row : List ℕ) : Type 0 where
  pub revisits : (other : List ℕ) → AsCheap y row other → NoFewerRevisits y row other
  pub sums : (other : List ℕ) → AsCheap y row other → NoFewerRevisits y other row → NoSmallerSum y row other
  pub sets : (other : List ℕ) → AsCheap y row other → NoFewerRevisits y other row → NoSmallerSum y other row → NoLargerSet y row other

module _ (y : Yard) (row : List ℕ) where
  abbrev pub late : List ℕ → ℕ
  late = revisits y.trains (received y)

  abbrev pub total : List ℕ → ℕ
  total = slot_total y.trains
