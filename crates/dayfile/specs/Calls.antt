-- What the two calls on day files answer, for any text, any record and any output, and the round trips at their level: what writing
-- leaves in a long enough output reads back as the day, and what reading accepts is written as the same bytes.
-- Assumes nothing.
use Rattle.std.specs.Prelude.{◌≡◌, List, [], ◌∷◌, ℕ, ◌≤◌, T, length, take}
use Rattle.std.proofs.Common.{ap, ◌∙◌, arith}
use Rattle.model.specs.Model.{Yard}
use Rattle.day.specs.Answer.{Answer, gives, where_given, Check, must}
use Rattle.day.specs.Sound.{zero_day, sound}
use Rattle.day.specs.declared.Limits.{Limits}
use Rattle.output.specs.Output.{writes, leaves}
use Rattle.output.specs.Laws.{fits, Filled, filled}
use Rattle.dayfile.specs.Reading.{read_day}
use Rattle.dayfile.specs.Writing.{day_text, Short}
use Rattle.dayfile.specs.RoundTrip.{write_read, read_write, read_sound}

-- ---- reading: the day, or with a refusal a record of zeros

abbrev pub day_or_zero : Limits → Answer Yard → Yard
day_or_zero l a = where_given a (zero_day l) λ y. y

-- ---- writing: check 8, then the text of the day is written into the output (`writes` and `leaves`)

abbrev pub day_checks : Limits → Yard → List Check
day_checks l y = must (sound l y) 8 (0 ∷ []) ∷ []

abbrev pub day_writes : Limits → Yard → ℕ → Answer ℕ
day_writes l y size = writes (day_checks l y) (day_text l y) size

abbrev pub day_leaves : Limits → Yard → List ℕ → List ℕ
day_leaves l y out = leaves (day_checks l y) (day_text l y) out

pub day_filled : (l : Limits) (y : Yard) (out : List ℕ) → Filled (day_text l y) out (day_writes l y (length out)) (day_leaves l y out)
day_filled l y out = filled (day_checks l y) (day_text l y) out

-- ---- the round trips

module _ (l : Limits) (short : Short l) where
  -- what writing leaves in a long enough output, read, gives the day
  pub written_reads : (y : Yard) (out : List ℕ) → T (sound l y) → length (day_text l y) ≤ length out
      → (k : ℕ) × (day_writes l y (length out) ≡ gives k) × (read_day l (take k (day_leaves l y out)) ≡ gives y)
  written_reads y out s h = let (a, t) = fits (day_text l y) out (day_checks l y) (s, tt) h in (length (day_text l y), a, ap (read_day l) t ∙ write_read l y short s)

  -- what reading accepts, written into a long enough output, gives the same bytes
  pub read_writes : (text : List ℕ) (y : Yard) (out : List ℕ) → read_day l text ≡ gives y → length text ≤ length out
      → (day_writes l y (length out) ≡ gives (length text)) × (take (length text) (day_leaves l y out) ≡ text)
  read_writes text y out r h =
      let e : text ≡ day_text l y = read_write l text y r in
      let s = read_sound l text y r in
      let (a, t) = fits (day_text l y) out (day_checks l y) (s, tt) (omega (arith, ap length e)) in
      rw e (a, t)
