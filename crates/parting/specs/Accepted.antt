-- Lists of rows that each have a value, and of accepted day files. That such files, joined and parted, come back is proved in proofs/.
-- Assumes nothing.
use Rattle.std.specs.Prelude.{◌≡◌, List, [], ◌∷◌, ℕ, ◌≤◌, length}
use Rattle.model.specs.Model.{Yard}
use Rattle.day.specs.Answer.{gives}
use Rattle.day.specs.declared.Limits.{Limits}
use Rattle.dayfile.specs.Reading.{read_day}

-- no row is without values
abbrev pub Filled : List (List ℕ) → Type 0
Filled [] = Unit
Filled (r ∷ rows) = (1 ≤ length r) × Filled rows

-- each of the texts is a day file
abbrev pub AllAccepted : Limits → List (List ℕ) → Type 0
AllAccepted l [] = Unit
AllAccepted l (file ∷ files) = ((y : Yard) × (read_day l file ≡ gives y)) × AllAccepted l files
