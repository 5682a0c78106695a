-- Single lines of a day file, and the sections at their end and at their next row: what callers use of the definitions of Reading.antt.
-- Assumes nothing.
use Rattle.std.proofs.Math.Path.{◌≡◌, refl}
use Rattle.std.proofs.Common.{sym, ap, ◌∙◌, arith, length-append}
use Rattle.std.specs.Prelude.{true, false, ◌&&◌, ltb, length}
use Rattle.std.proofs.Math.Bool.{and-false}
use mathlib.Core.List.{List, [], ◌∷◌, ◌++◌}
use Prim.Native.Nat.{ℕ, zero, suc, ◌≤◌}
use Rattle.day.specs.Answer.{Answer, gives, refuses, Check, checked}
use Rattle.day.specs.AnswerLaws.{AllHold, checked_holds, checked_gives}
use Rattle.day.specs.declared.Limits.{Limits}
use Rattle.decimal.specs.Parsed.{Parsed, fail, got, no_fail, taken}
use Rattle.decimal.specs.Decimal.{value}
use Rattle.lines.specs.Lines.{field, names, row, row_text}
use Rattle.lines.specs.Laws.{names_written, names_read, Small, row_written, row_read}
use Rattle.dayfile.specs.Reading.{group_names, field2, move_checks, group_checks, or_refuse, read_names, is_end, is_read, RowRest, read_row, add_row, moves_end, read_moves, read_groups}

-- ---- a reading that gives something, taken apart

pub refuse_gives : {X Z W : Type 0} (form line : ℕ) (p : Parsed X) (f : X → List ℕ → Answer Z) {z : Z}
    → or_refuse form line p f ≡ gives z → ((x : X) (s : List ℕ) → p ≡ got x s → f x s ≡ gives z → W) → W
refuse_gives form line fail f e k = absurd (let z : ◌≡◌ {A = ℕ} 0 1 = cc in omega arith)
refuse_gives form line (got x s) f e k = k x s refl e

-- ---- a names line

pub names-line : (word : List ℕ) (line : ℕ) (s : List ℕ) → read_names word line (word ++ s) ≡ gives s
names-line word line s = ap (λ (p : Parsed (Unit {0})). or_refuse 1 line p λ u r. gives r) (names_written word s)

pub names-line_read : (word : List ℕ) (line : ℕ) (s r : List ℕ) → read_names word line s ≡ gives r → s ≡ word ++ r
names-line_read word line s r h =
    refuse_gives 1 line (names word s) _ h λ u q e g.
    let same : q ≡ r = cc in
    names_read word s u q e ∙ ap (λ (x : List ℕ). word ++ x) same

-- ---- a row

pub row_line : (k line : ℕ) (checks : List ℕ → List Check) (r s : List ℕ) → length r ≡ suc k → Small r → AllHold (checks r)
    → read_row k line checks (row_text r ++ s) ≡ gives (record { row = r; rest = s })
row_line k line checks r s e w h =
    ap (λ (p : Parsed (List ℕ)). or_refuse 2 line p λ r q. checked (checks r) (gives (record { row = r; rest = q }))) (row_written k r s e w)
    ∙ checked_holds (checks r) (gives (record { row = r; rest = s })) h

pub record RowLine (k : ℕ) (checks : List ℕ → List Check) (s : List ℕ) (x : RowRest) : Type 0 where
  pub text : s ≡ row_text x.row ++ x.rest
  pub count : length x.row ≡ suc k
  pub holds : AllHold (checks x.row)

pub row-line_read : (k line : ℕ) (checks : List ℕ → List Check) (s : List ℕ) (x : RowRest) → read_row k line checks s ≡ gives x → RowLine k checks s x
row-line_read k line checks s x h =
    refuse_gives 2 line (row k s) _ h λ r q e g.
    let (holds, m) = checked_gives (checks r) (gives (record { row = r; rest = q })) x g in
    let same : record { row = r; rest = q } ≡ x = cc in
    let w = row_read k s r q e in
    rw (← same) (record { text = w.text; count = w.count; holds = holds })

-- the text of a row is not empty
pub row_longer : (r : List ℕ) → 1 ≤ length r → 1 ≤ length (row_text r)
unfolding row_text
row_longer [] e = absurd (omega arith)
row_longer (a ∷ []) e = simp length-append (omega arith)
row_longer (a ∷ b ∷ r) e = simp length-append (omega arith)

-- ---- a row begins with a digit, so no section ends there

no_value : (r : List ℕ) → value (group_names ++ r) ≡ fail
unfolding value group_names
no_value r = refl

digit_first : (s : List ℕ) (v : ℕ) (r : List ℕ) → value s ≡ got v r → is_read (names group_names s) ≡ false
digit_first s v r e = go (names group_names s) (names_read group_names s)
  where
    go : (p : Parsed (Unit {0})) → ((u : Unit) (q : List ℕ) → p ≡ got u q → s ≡ group_names ++ q) → is_read p ≡ false
    go fail h = refl
    go (got u q) h = absurd (no_fail (sym (no_value q) ∙ ap value (sym (h u q refl)) ∙ e))

row-value : {W : Type 0} (k : ℕ) (s r q : List ℕ) → row k s ≡ got r q → ((v : ℕ) (rest : List ℕ) → value s ≡ got v rest → W) → W
unfolding row field
row-value zero s r q e k = taken {p = field 10 s} e λ v x g h. taken {p = value s} g λ a y i j. k a y i
row-value (suc n) s r q e k = taken {p = field 32 s} e λ v x g h. taken {p = value s} g λ a y i j. k a y i

value_goes_on : (l : Limits) (s : List ℕ) (v : ℕ) (r : List ℕ) → value s ≡ got v r → (is_end s ≡ false) × (moves_end l s ≡ false)
unfolding value moves_end
value_goes_on l [] v r e = absurd (no_fail e)
value_goes_on l (c ∷ s) v r e = (refl, ap (λ b. ltb 0 l.groups && b) (digit_first (c ∷ s) v r e) ∙ and-false (ltb 0 l.groups))

pub row_goes_on : (l : Limits) (k line : ℕ) (checks : List ℕ → List Check) (s : List ℕ) (x : RowRest) → read_row k line checks s ≡ gives x
    → (is_end s ≡ false) × (moves_end l s ≡ false)
row_goes_on l k line checks s x e =
    refuse_gives 2 line (row k s) _ e λ r q f g. row-value k s r q f λ v rest h. value_goes_on l s v rest h

-- ---- the moves at their end, at a row, and at a line that is refused

module _ (l : Limits) (numbers : List ℕ) where
  pub moves_end_lem : (k : ℕ) (before : List ℕ) (line : ℕ) (s : List ℕ) → moves_end l s ≡ true → read_moves l numbers k before line s ≡ gives (record { rows = []; rest = s })
  unfolding read_moves
  moves_end_lem zero before line s e = rw e
  moves_end_lem (suc k) before line s e = rw e

  pub moves_row : (k : ℕ) (before : List ℕ) (line : ℕ) (s : List ℕ) (x : RowRest) → read_row 2 line (move_checks l numbers before line) s ≡ gives x
      → read_moves l numbers (suc k) before line s ≡ add_row x.row (read_moves l numbers k x.row (suc line) x.rest)
  unfolding read_moves
  moves_row k before line s x e = rw ((row_goes_on l 2 line (move_checks l numbers before line) s x e).1, e)

  pub moves_stop : (k : ℕ) (before : List ℕ) (line : ℕ) (s : List ℕ) (x : ℕ) (carries : List ℕ) → length s ≤ k → moves_end l s ≡ false
      → read_row 2 line (move_checks l numbers before line) s ≡ refuses x carries → read_moves l numbers k before line s ≡ refuses x carries
  unfolding read_moves moves_end
  moves_stop zero before line [] x carries h n e = absurd (let z : ◌≡◌ {A = ℕ} 0 1 = cc in omega arith)
  moves_stop zero before line (c ∷ s) x carries h n e = absurd (omega arith)
  moves_stop (suc k) before line s x carries h n e = rw (n, e)

  -- ---- the groups at the end of the text, at a row, and at a line that is refused

  pub groups_end : (k : ℕ) (taken before : List ℕ) (line : ℕ) → read_groups l numbers k taken before line [] ≡ gives (record { rows = []; rest = [] })
  unfolding read_groups
  groups_end zero taken before line = refl
  groups_end (suc k) taken before line = refl

  pub groups_row : (k : ℕ) (taken before : List ℕ) (line : ℕ) (s : List ℕ) (x : RowRest) → read_row 1 line (group_checks l numbers taken before line) s ≡ gives x
      → read_groups l numbers (suc k) taken before line s ≡ add_row x.row (read_groups l numbers k (field2 x.row ∷ taken) x.row (suc line) x.rest)
  unfolding read_groups
  groups_row k taken before line s x e = rw ((row_goes_on l 1 line (group_checks l numbers taken before line) s x e).0, e)

  pub groups_stop : (k : ℕ) (taken before : List ℕ) (line : ℕ) (s : List ℕ) (x : ℕ) (carries : List ℕ) → length s ≤ k → is_end s ≡ false
      → read_row 1 line (group_checks l numbers taken before line) s ≡ refuses x carries → read_groups l numbers k taken before line s ≡ refuses x carries
  unfolding read_groups
  groups_stop zero taken before line [] x carries h n e = absurd (let z : ◌≡◌ {A = ℕ} 0 1 = cc in omega arith)
  groups_stop zero taken before line (c ∷ s) x carries h n e = absurd (omega arith)
  groups_stop (suc k) taken before line s x carries h n e = rw (n, e)
