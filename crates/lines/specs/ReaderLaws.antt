-- The line reader at a place of a text: what the byte there does.
-- Assumes nothing.
use Rattle.std.specs.Prelude.{◌≡◌, List, ℕ, ◌+◌, ◌≤◌, ◌<◌, length, get_or, drop}
use borrow.Author.Tests.{eq-eqb, ne_eqb}
use Rattle.decimal.specs.Parsed.{fail, got, and_then}
use Rattle.decimal.specs.PlaceLaws.{at_end, here}
use Rattle.lines.specs.Lines.{byte, names}
use Rattle.lines.specs.Reader.{Found, end_or}

-- ---- the byte at a place

module _ (t : List ℕ) (p e : ℕ) where
  pub byte_end : length t ≤ p → byte e (drop p t) ≡ fail
  unfolding byte
  byte_end h = rw (at_end t p h)

  pub byte_other : p < length t → (get_or t p 0 ≡ e → ⊥) → byte e (drop p t) ≡ fail
  unfolding byte
  byte_other h n = rw (here t p h, ne_eqb (get_or t p 0) e n)

  pub byte_is : p < length t → get_or t p 0 ≡ e → byte e (drop p t) ≡ got tt (drop (p + 1) t)
  unfolding byte
  byte_is h n = rw (here t p h, eq-eqb (get_or t p 0) e n)

-- ---- a names line from its byte i on

pub names_all : (word : List ℕ) (i : ℕ) (s : List ℕ) → length word ≤ i → names (drop i word) s ≡ got tt s
unfolding names
names_all word i s h = rw (at_end word i h)

pub names-next : (word : List ℕ) (i : ℕ) (s : List ℕ) → i < length word → names (drop i word) s ≡ and_then (byte (get_or word i 0) s) (λ u r. names (drop (i + 1) word) r)
unfolding names
names-next word i s h = rw (here word i h)

-- ---- where the text goes on its line decides

pub goes_on : (t : List ℕ) (p : ℕ) (f : Found) → p < length t → end_or (drop p t) f ≡ f
goes_on t p f h = rw (here t p h)
