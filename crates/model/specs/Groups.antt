-- Groups of trains (order 4 of document 02): what it says that a row keeps them, which groups are parted where it does not, and that a day
-- without groups allows just the rows that fit.
-- Assumes nothing.
use Rattle.std.specs.Prelude.{◌≡◌, List, ℕ, ◌≤◌, ◌<◌}
use Rattle.model.specs.Model.{Yard, group_of}

-- the groups of n positions have no greater number than k
abbrev pub GroupsUpTo : ℕ → ℕ → List ℕ → Type 0
GroupsUpTo k n groups = (i : ℕ) → i < n → group_of groups i ≤ k

-- ---- a day without groups

abbrev pub NoGroups : Yard → Type 0
NoGroups y = (i : ℕ) → i < y.trains → group_of y.groups i ≡ 0
