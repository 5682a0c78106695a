-- The line reader: told what is due, it finds a names line, a row of values or the end of the text, or refuses the line's form (1
-- where a names line is due, 2 where a row is). And the code's answer for it.
-- Assumes nothing.
use Rattle.std.specs.Prelude.{◌≡◌, List, [], ◌∷◌, ℕ, ◌≤◌, length, get_or, drop, Option, Some, None, Result, Ok, Err}
use Rattle.day.specs.Answer.{number, carried}
use Rattle.decimal.specs.Parsed.{Parsed, fail, got, ReadTo}
use Rattle.day.specs.declared.Refusal.{Refusal}
use Rattle.lines.specs.Lines.{names, row}
use Rattle.lines.specs.declared.Due.{Due}
use Rattle.lines.specs.declared.Due.TheVariants.{NamesLine, RowOfThree, RowOfFive, RowOrEnd, RowNamesOrEnd, PairOrEnd}
use Rattle.lines.specs.declared.Line.{Line}
use Rattle.lines.specs.declared.Line.TheVariants.{Names, Row, End}

-- what stands at the front of a text, with the text after it; or the number of a refusal and what it carries
pub data Found : Type 0 where
  a_names_line : List ℕ → Found
  a_row : List ℕ → List ℕ → Found
  the_end : Found
  a_refusal : ℕ → List ℕ → Found

abbrev pub names_found : ℕ → Parsed (Unit {0}) → Found
names_found line fail = a_refusal 1 (line ∷ [])
names_found line (got u r) = a_names_line r

abbrev pub row_found : ℕ → Parsed (List ℕ) → Found
row_found line fail = a_refusal 2 (line ∷ [])
row_found line (got values r) = a_row values r

-- the end of the text, else what is found otherwise
abbrev pub end_or : List ℕ → Found → Found
end_or [] f = the_end
end_or (c ∷ s) f = f

-- a names line where there is one, else what is found otherwise
abbrev pub names_or : Parsed (Unit {0}) → Found → Found
names_or fail f = f
names_or (got u r) f = a_names_line r

-- word is the names line that is due, or that may end the rows
abbrev pub found : Due → List ℕ → ℕ → List ℕ → Found
found NamesLine word line s = names_found line (names word s)
found RowOfThree word line s = row_found line (row 2 s)
found RowOfFive word line s = row_found line (row 4 s)
found RowOrEnd word line s = end_or s (row_found line (row 2 s))
found RowNamesOrEnd word line s = end_or s (names_or (names word s) (row_found line (row 2 s)))
found PairOrEnd word line s = end_or s (row_found line (row 1 s))

-- ---- the code's answer for what is found in the text t; a row's fields that it does not have are 0

pub record RowAt (t : List ℕ) (f : Found) (a b c d e next : ℕ) : Type 0 where
  pub values : List ℕ
  pub is : f ≡ a_row values (drop next t)
  pub inside : next ≤ length t
  pub first : a ≡ get_or values 0 0
  pub second : b ≡ get_or values 1 0
  pub third : c ≡ get_or values 2 0
  pub fourth : d ≡ get_or values 3 0
  pub fifth : e ≡ get_or values 4 0

-- a line that was found
abbrev pub Finds : List ℕ → Found → Line → Type 0
Finds t f (Names next) = (f ≡ a_names_line (drop next t)) × (next ≤ length t)
Finds t f (Row a b c d e next) = RowAt t f a b c d e next
Finds t f End = f ≡ the_end

abbrev pub Answers : List ℕ → Found → Result Line Refusal → Type 0
Answers t f (Ok line) = Finds t f line
Answers t f (Err r) = f ≡ a_refusal (number r) (carried r)

-- the code's answer for a names line: the place after it, or that none is there
abbrev pub NamesTo : List ℕ → Parsed (Unit {0}) → Option ℕ → Type 0
NamesTo t p (Some next) = ReadTo t p tt next
NamesTo t p None = p ≡ fail

-- for a row: the line, whatever its number is, or that no row is there
abbrev pub RowTo : List ℕ → Parsed (List ℕ) → Option Line → Type 0
RowTo t p (Some found) = (line : ℕ) → Finds t (row_found line p) found
RowTo t p None = p ≡ fail
