-- The parting of a text into days (document 02, order 10): "Every empty line parts two days", also at the ends of the text and one after
-- the other. An empty line is a byte 10 where a line begins; it belongs to neither day. An empty text has no days.
-- Assumes nothing.
use Rattle.std.specs.Prelude.{Bool, true, cond, ◌&&◌, List, [], ◌∷◌, ◌++◌, ℕ, zero, suc, eqb, length, get_or}
use Rattle.fold.specs.Fold.{count}

-- a byte put before the first day
abbrev pub before : ℕ → List (List ℕ) → List (List ℕ)
before c [] = (c ∷ []) ∷ []
before c (day ∷ days) = (c ∷ day) ∷ days

-- the days from a place on; `start`: a line begins here
unfoldable pub days_from : Bool → List ℕ → List (List ℕ)
days_from start [] = [] ∷ []
days_from start (c ∷ s) = cond (start && eqb c 10) ([] ∷ days_from true s) (before c (days_from (eqb c 10) s))

abbrev pub days : List ℕ → List (List ℕ)
days [] = []
days (c ∷ s) = days_from true (c ∷ s)

-- ---- what the laws speak of

-- the byte at i is an empty line: it is a byte 10, and a line begins there, at the start or behind another byte 10
abbrev pub line_begins : Bool → List ℕ → ℕ → Bool
line_begins start s zero = start
line_begins start s (suc i) = eqb (get_or s i 0) 10

abbrev pub empty_at : Bool → List ℕ → ℕ → Bool
empty_at start s i = line_begins start s i && eqb (get_or s i 0) 10

-- the empty lines from a place on
abbrev pub empty_lines : Bool → List ℕ → ℕ
empty_lines start s = count (length s) (empty_at start s)

-- files joined in one text with an empty line between
unfoldable pub joined_files : List (List ℕ) → List ℕ
joined_files [] = []
joined_files (file ∷ []) = file
joined_files (file ∷ next ∷ files) = file ++ 10 ∷ joined_files (next ∷ files)
