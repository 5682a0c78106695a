-- The walk through a text: a loop looks for the next empty line from a place where a line begins; what lies between is the first day of
-- the rest of the text.
-- Assumes nothing.
use Rattle.std.specs.Prelude.{◌≡◌, Bool, ℕ, ◌+◌, ◌-◌, ◌≤◌, ◌<◌, length, take, drop}
use Rattle.std.proofs.Math.Bool.{true}
use mathlib.Core.List.{List, [], ◌∷◌, ◌++◌}
use Rattle.parting.specs.Parting.{days_from, days}

-- the bytes from a to b, as a part of a lent text is
abbrev pub part : List ℕ → ℕ → ℕ → List ℕ
part text a b = take (b - a) (drop a text)

-- bytes put before the first day
abbrev pub behind : List ℕ → List (List ℕ) → List (List ℕ)
behind p [] = p ∷ []
behind p (day ∷ later) = (p ++ day) ∷ later

-- ---- looking for the next empty line

-- from `at`, where a line begins, up to i no empty line was found; `start`: a line begins at i
pub record Passed (text : List ℕ) (at i : ℕ) (start : Bool) : Type 0 where
  pub since : at ≤ i
  pub inside : i ≤ length text
  pub rest : days_from true (drop at text) ≡ behind (part text at i) (days_from start (drop i text))

-- what the loop gives: the place of the next empty line, or the length of the text
pub record NextEmpty (text : List ℕ) (at i : ℕ) : Type 0 where
  pub since : at ≤ i
  pub inside : i ≤ length text
  pub found : i < length text → days_from true (drop at text) ≡ part text at i ∷ days_from true (drop (i + 1) text)
  pub ended : length text ≤ i → days_from true (drop at text) ≡ part text at i ∷ []

-- ---- counting the days, up to `most`

pub record CountedTo (most : ℕ) (text : List ℕ) (at n : ℕ) : Type 0 where
  pub some : 0 < length text
  pub count : n + length (days_from true (drop at text)) ≡ length (days text)
  pub inside : at ≤ length text
  pub few : n ≤ most
