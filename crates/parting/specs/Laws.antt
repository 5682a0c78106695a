-- Files that come back where they were joined: those without an empty line, each of whose lines ends. That they do is proved in proofs/.
-- Assumes nothing.
use Rattle.std.specs.Prelude.{Bool, not, ◌&&◌, ℕ, ◌<◌, eqb, length}
use Rattle.std.proofs.Math.Bool.{true, false, cond}
use mathlib.Core.List.{List, [], ◌∷◌}
use Rattle.std.proofs.Math.Dec.{T}

-- ---- files without an empty line, all of whose lines end

-- no line from here on is empty, and the last one has its byte 10
unfoldable pub lined : Bool → List ℕ → Bool
lined start [] = start
lined start (c ∷ s) = cond (eqb c 10) (not start && lined true s) (lined false s)

-- a file that joins as it is: it is not empty, no line of it is, and each of its lines ends
pub record Whole (file : List ℕ) : Type 0 where
  pub some : 0 < length file
  pub lines : T (lined true file)

abbrev pub AllWhole : List (List ℕ) → Type 0
AllWhole [] = Unit
AllWhole (file ∷ files) = Whole file × AllWhole files
