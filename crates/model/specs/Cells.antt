-- A square table that is stored row after row: where an entry stands.
-- Assumes nothing.
use Rattle.std.specs.Prelude.{List, ℕ, ◌*◌, ◌≤◌, ◌<◌, length}

-- the table has `width` rows of that length, and (i, j) is one of its entries
pub record InTable (width : ℕ) (table : List ℕ) (i j : ℕ) : Type 0 where
  pub row : i < width
  pub column : j < width
  pub whole : width * width ≤ length table
