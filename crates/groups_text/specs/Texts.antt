-- The text of the fourth section as the code puts it.
-- Assumes nothing.
use Rattle.std.specs.Prelude.{Bool, cond, List, [], ◌++◌, ℕ, suc, ltb}
use Rattle.fold.specs.Fold.{some}
use Rattle.fold.specs.Listed.{joined}
use Rattle.model.specs.Model.{group_of}
use Rattle.lines.specs.Lines.{rows_text}
use Rattle.dayfile.specs.Reading.{group_names}
use Rattle.dayfile.specs.Writing.{member_rows}

-- the rows of the fourth section: position i in group g, and all of group g + 1, of n trains
abbrev pub member_text : List ℕ → List ℕ → ℕ → ℕ → List ℕ
member_text numbers groups g i = rows_text (member_rows numbers groups g i)

abbrev pub group_text : ℕ → List ℕ → List ℕ → ℕ → List ℕ
group_text n numbers groups g = joined n (member_text numbers groups (suc g))

-- one of n trains has a group
abbrev pub has_groups : ℕ → List ℕ → Bool
has_groups n groups = some n λ i. ltb 0 (group_of groups i)

-- the section has the groups 1 to k, and is left out where no train has one
abbrev pub sets_text : ℕ → ℕ → List ℕ → List ℕ → List ℕ
sets_text k n numbers groups = cond (has_groups n groups) (group_names ++ joined k (group_text n numbers groups)) []
