-- The entries of the table of prices, and the parts that they are made of: of n trains that receive a i j boxes from each other.
-- Assumes nothing.
use Rattle.std.specs.Prelude.{cond, List, ℕ, ◌+◌, ◌-◌, ◌*◌, leb}
use Rattle.std.specs.Int.Count.{ones}
use Rattle.optimum.specs.Workspace.{at}
use Rattle.staging.specs.Tables.{from_outside, barred}

-- the split moves of the set m with two trains more, those of the sets `below` and `size`, which receive `pair` boxes from each other: b
-- has the split moves of m with one of the two and of m alone. Where the two are together the boxes between them are not split
abbrev pub with_pair : List ℕ → ℕ → ℕ → ℕ → ℕ → ℕ
with_pair b size below pair m = at b (below + m) + at b (size + m) - (at b m + pair)

-- what the split moves of s cost; barred where it has more trains than tracks
abbrev pub price_of : ℕ → ℕ → ℕ → ℕ → ℕ
price_of tracks split s moves = cond (leb (ones s) tracks) (split * moves) barred

abbrev pub split_cost : ℕ → (ℕ → ℕ → ℕ) → ℕ → ℕ → ℕ → ℕ
split_cost n a tracks split s = price_of tracks split s (from_outside n a s)
