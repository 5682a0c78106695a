-- Parted groups counted from 0, as the code's search counts them.
-- Assumes nothing.
use Rattle.std.specs.Prelude.{◌≡◌, Bool, List, ℕ, suc, ◌+◌}
use Rattle.std.proofs.Common.{sym, ap, ◌∙◌, add-one}
use Rattle.model.specs.Model.{parted}

-- group g + 1 is parted
abbrev pub parts : ℕ → List ℕ → List ℕ → ℕ → Bool
parts n groups row g = parted n groups row (suc g)

pub parts_is : (n : ℕ) (groups row : List ℕ) (g : ℕ) {r : Bool} → r ≡ parted n groups row (g + 1) → parts n groups row g ≡ r
parts_is n groups row g e = sym (e ∙ ap (parted n groups row) (add-one g))
