-- Reading and writing at a place of a text: what the code's answers say.
-- Assumes nothing.
use Rattle.std.specs.Prelude.{◌≡◌, List, ℕ, ◌+◌, length, Option, Some, None}
use Rattle.std.proofs.lemmas.List.Edits.{sets}
use Rattle.decimal.specs.Parsed.{Parsed, fail, ReadTo}
use Rattle.decimal.specs.declared.Field.{Field}

-- the code's answer for what was read in the text t: the value and the place after it, or that nothing of the form is there
abbrev pub Answers : List ℕ → Parsed ℕ → Option Field → Type 0
Answers t p (Some f) = ReadTo t p f.value f.next
Answers t p None = p ≡ fail

-- the code has stored the bytes a in l from the place i on: now m, with the place j after them
pub record Put (l m : List ℕ) (i j : ℕ) (a : List ℕ) : Type 0 where
  pub next : j ≡ i + length a
  pub list : m ≡ sets l i a
