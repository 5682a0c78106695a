-- Order 8 of document 02: fewest revisits, then fewest split moves. Section 3.1 of the source takes the sum of all boxes as the weight of a
-- revisit and 1 as that of a split move, so that the two objectives are in lexicographic order. Why they are:
--   revisits-splits    a row has no more revisits than split moves, so one with revisits has some;
--   splits-boxes       no row has more split moves than there are boxes (Moves.antt);
--   fewer-cheaper      hence one revisit less is never bought by split moves: of any two rows the one with fewer revisits is cheaper;
--   lexicographic      and the cost compares rows by revisits, and those with as many by split moves.
-- So of any rows that one may choose from the cheapest are just those with the fewest revisits and, among these, the fewest split moves
-- (`cheapest_fewest`, `fewest_cheapest`; of the allowed ones `fewest_exactly`), and the best plan is such a row (`best_fewest`). The order of
-- rows of equal cost has no part in it. It has where a revisit weighs one split move less: `best_fewest_below`.
-- Assumes nothing.
use Rattle.std.specs.Prelude.{◌≡◌, List, ℕ, ◌*◌, ◌≤◌, T}
use Rattle.model.specs.Model.{Yard, boxes_of, outcome, allowed}

-- ---- definitions

-- order 8: the revisit weight is the sum of all boxes, the split weight is 1
abbrev pub SumWeights : Yard → Type 0
SumWeights y = (y.revisit ≡ boxes_of y) × (y.split ≡ 1)

-- a split move weighs something, and a revisit at least as much as split moves of all boxes
abbrev pub Outweighs : Yard → Type 0
Outweighs y = (1 ≤ y.split) × (y.split * boxes_of y ≤ y.revisit)

-- of the rows of some kind: the fewest revisits of all, and the fewest split moves of those that share this fewest
pub record FewestOf (y : Yard) (Kind : List ℕ → Type 0) (row : List ℕ) : Type 0 where
  pub is_of_kind : Kind row
  pub revisits : (other : List ℕ) → Kind other → (outcome y row).revisits ≤ (outcome y other).revisits
  pub splits : (other : List ℕ) → Kind other → (outcome y other).revisits ≡ (outcome y row).revisits → (outcome y row).splits ≤ (outcome y other).splits

-- of all allowed rows
abbrev pub Fewest : Yard → List ℕ → Type 0
Fewest y = FewestOf y λ row. T (allowed y row)

-- the day with order 8's weights
abbrev pub reweighed : Yard → Yard
reweighed y = record {
  trains = y.trains;
  tracks = y.tracks;
  slots = y.slots;
  revisit = boxes_of y;
  split = 1;
  numbers = y.numbers;
  first = y.first;
  last = y.last;
  groups = y.groups;
  width = y.width;
  boxes = y.boxes;
}

module _ (y : Yard) where
  abbrev pub revisits_of : List ℕ → ℕ
  revisits_of row = (outcome y row).revisits

  abbrev pub splits_of : List ℕ → ℕ
  splits_of row = (outcome y row).splits
