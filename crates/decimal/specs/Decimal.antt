-- Values in decimal (01: one to five digits, without leading zeros, 0 itself is `0`): how one is written, and how one is read from
-- the front of a text.
-- Assumes nothing.
use Rattle.std.specs.Prelude.{Bool, cond, ◌&&◌, List, [], ◌∷◌, ◌++◌, ℕ, zero, suc, ◌+◌, ◌-◌, ◌*◌, ◌/◌, ◌%◌, ltb, leb}
use Rattle.decimal.specs.Parsed.{Parsed, fail, got}

abbrev pub is_digit : ℕ → Bool
is_digit c = leb 48 c && leb c 57

-- a value that may take one more digit: it is not 0, and has at most four
abbrev pub grows : ℕ → Bool
grows v = leb 1 v && leb v 9999

-- the digits at the front of s, after those of v
unfoldable pub more : ℕ → List ℕ → Parsed ℕ
more v [] = got v []
more v (c ∷ s) = cond (is_digit c) (cond (grows v) (more (v * 10 + (c - 48)) s) fail) (got v (c ∷ s))

-- the value at the front of a text
unfoldable pub value : List ℕ → Parsed ℕ
value [] = fail
value (c ∷ s) = cond (is_digit c) (more (c - 48) s) fail

-- v in decimal, with at most k digits after the first
unfoldable pub digits_within : ℕ → ℕ → List ℕ
digits_within zero v = (48 + v) ∷ []
digits_within (suc k) v = cond (ltb v 10) ((48 + v) ∷ []) (digits_within k (v / 10) ++ (48 + v % 10) ∷ [])

abbrev pub digits : ℕ → List ℕ
digits v = digits_within v v
