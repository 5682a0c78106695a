-- The best plan of a day as a function: the best of all its rows, or none. A day has at most one best plan, and it has one exactly
-- where it has an allowed row.
-- Assumes nothing.
use Rattle.std.specs.Prelude.{Bool, List, ℕ}
use Rattle.std.proofs.Math.Option.{Option, none, some}
use Rattle.model.specs.Model.{Yard, cost, allowed, by_key, precedes, Best, NoRow}
use Rattle.model.specs.Rows.{all_rows}
use Rattle.model.specs.Order.{pick}

-- ---- definition

-- r is the better of two rows: cheaper, or as cheap and before the other
abbrev pub better : Yard → List ℕ → List ℕ → Bool
better y = by_key (cost y) (precedes y)

-- the best plan of a day, if it has one: the best of the allowed ones among all rows
unfoldable pub best_of : Yard → Option (List ℕ)
best_of y = pick (allowed y) (better y) (all_rows y.trains y.slots)

module _ (y : Yard) where
  -- ---- what the function says: none where no row is allowed, otherwise the best plan

  abbrev pub Says : Option (List ℕ) → Type 0
  Says none = NoRow y
  Says (some r) = Best y r
