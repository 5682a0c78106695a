-- The lines of a file: names lines, and rows of values, parted by one space and ended by one byte 10; how each is read from the front
-- of a text, and how a row is written.
-- Assumes nothing.
use Rattle.std.specs.Prelude.{cond, List, [], ◌∷◌, ◌++◌, ℕ, zero, suc, eqb}
use Prim.Native.String.{String, [] as none, ◌∷◌ as ◌then◌}
use Prim.Native.Char.{code}
use Rattle.decimal.specs.Parsed.{Parsed, fail, got, and_then}
use Rattle.decimal.specs.Decimal.{value, digits}

-- a text of ASCII characters as its bytes
abbrev pub ascii : String → List ℕ
ascii none = []
ascii (c then s) = code c ∷ ascii s

-- ---- reading

-- the byte e
unfoldable pub byte : ℕ → List ℕ → Parsed (Unit {0})
byte e [] = fail
byte e (c ∷ s) = cond (eqb c e) (got tt s) fail

-- the bytes of a names line
unfoldable pub names : List ℕ → List ℕ → Parsed (Unit {0})
names [] s = got tt s
names (e ∷ word) s = and_then (byte e s) (λ u r. names word r)

-- a value, and the byte e that ends it
unfoldable pub field : ℕ → List ℕ → Parsed ℕ
field e s = and_then (value s) (λ v r. and_then (byte e r) (λ u q. got v q))

-- a row of k + 1 values
unfoldable pub row : ℕ → List ℕ → Parsed (List ℕ)
row zero s = and_then (field 10 s) (λ v r. got (v ∷ []) r)
row (suc k) s = and_then (field 32 s) (λ v r. and_then (row k r) (λ vs q. got (v ∷ vs) q))

-- ---- writing

abbrev pub field_text : ℕ → ℕ → List ℕ
field_text v e = digits v ++ (e ∷ [])

unfoldable pub row_text : List ℕ → List ℕ
row_text [] = []
row_text (v ∷ []) = field_text v 10
row_text (v ∷ w ∷ vs) = field_text v 32 ++ row_text (w ∷ vs)

unfoldable pub rows_text : List (List ℕ) → List ℕ
rows_text [] = []
rows_text (r ∷ rows) = row_text r ++ rows_text rows
