-- What a call that writes a text answers and leaves, in the numbers of document 01: 10 where the output is too short, else the count of
-- bytes; the text stands in the first bytes and those beyond stay; a refusal changes no byte.
-- Assumes nothing.
use Rattle.std.specs.Prelude.{List, [], ◌∷◌, ◌++◌, ℕ, leb, length, drop, Result}
use Rattle.day.specs.Answer.{Answer, gives, refuses, answered, Check, must, checked}
use Rattle.day.specs.declared.Refusal.{Refusal}

-- ---- the code's answer in 01's numbers

abbrev pub answer : Result ℕ Refusal → Answer ℕ
answer = answered λ count. count

-- ---- a text and an output of a given size: a call's own checks come first, then 10

unfoldable pub writes : List Check → List ℕ → ℕ → Answer ℕ
writes checks text size = checked checks (checked (must (leb (length text) size) 10 (0 ∷ []) ∷ []) (gives (length text)))

-- the output afterwards
abbrev pub out_after : Answer ℕ → List ℕ → List ℕ → List ℕ
out_after (gives count) text out = text ++ drop (length text) out
out_after (refuses k carries) text out = out

unfoldable pub leaves : List Check → List ℕ → List ℕ → List ℕ
leaves checks text out = out_after (writes checks text (length out)) text out
