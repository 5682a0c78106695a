-- Reading and writing a line undo each other: what is written is read, and what was read is what is written.
-- Assumes nothing.
use Rattle.std.specs.Prelude.{◌≡◌, refl, Bool, true, false, cond, List, [], ◌∷◌, ◌++◌, ℕ, zero, suc, ◌≤◌, eqb, length}
use Rattle.std.proofs.Common.{sym, ap, ◌∙◌, append_assoc, arith, eq-eqb, eqb-true}
use Rattle.decimal.specs.Parsed.{fail, got, no_fail, taken}
use Rattle.decimal.specs.Decimal.{is_digit, value, digits}
use Rattle.decimal.specs.Laws.{value_written, value_read}
use Rattle.lines.specs.Lines.{byte, names, field, row, field_text, row_text}

-- ---- bytes and names lines

byte_written : (e : ℕ) (r : List ℕ) → byte e (e ∷ r) ≡ got tt r
unfolding byte
byte_written e r = rw (eq-eqb e e refl)

byte_read : (e : ℕ) (s : List ℕ) (u : Unit {0}) (r : List ℕ) → byte e s ≡ got u r → s ≡ e ∷ r
unfolding byte
byte_read e [] u r h = absurd (no_fail h)
byte_read e (c ∷ s) u r h = go (eqb c e) refl h
  where
    go : (b : Bool) → eqb c e ≡ b → cond b (got tt s) fail ≡ got u r → c ∷ s ≡ e ∷ r
    go true p h = let q = eqb-true c e p in cc
    go false p h = absurd (no_fail h)

pub names_written : (word r : List ℕ) → names word (word ++ r) ≡ got tt r
unfolding names
names_written [] r = refl
names_written (e ∷ word) r = rw (byte_written e (word ++ r)) (names_written word r)

pub names_read : (word s : List ℕ) (u : Unit {0}) (r : List ℕ) → names word s ≡ got u r → s ≡ word ++ r
unfolding names
names_read [] s u r h = cc
names_read (e ∷ word) s u r h =
    taken {p = byte e s} {f = λ v q. names word q} h λ a q g k. byte_read e s a q g ∙ ap (λ (l : List ℕ). e ∷ l) (names_read word q u r k)

-- ---- a value and the byte that ends it

field_written : (e v : ℕ) (r : List ℕ) → is_digit e ≡ false → v ≤ 99999 → field e (field_text v e ++ r) ≡ got v r
unfolding field
field_written e v r d h = rw (append_assoc, value_written v e r h d, byte_written e r)

pub field_read : (e : ℕ) (s : List ℕ) (v : ℕ) (r : List ℕ) → field e s ≡ got v r → (s ≡ field_text v e ++ r) × (v ≤ 99999)
unfolding field
field_read e s v r h =
    taken {p = value s} h λ a q g k. taken {p = byte e q} k λ u x i j.
    let w = value_read s a q g in
    let b = byte_read e q u x i in
    let m : a ≡ v = cc in
    let n : x ≡ r = cc in
    (w.text ∙ rw (b, m, n) (sym (append_assoc (digits v) (e ∷ []) r)), omega (arith, w.small))

-- ---- rows

-- each value has at most five digits
abbrev pub Small : List ℕ → Type 0
Small [] = Unit
Small (v ∷ vs) = (v ≤ 99999) × Small vs

pub row_written : (k : ℕ) (vs r : List ℕ) → length vs ≡ suc k → Small vs → row k (row_text vs ++ r) ≡ got vs r
unfolding row row_text
row_written k [] r e h = absurd (omega arith)
row_written zero (v ∷ []) r e h = rw (field_written 10 v r refl h.0)
row_written zero (v ∷ w ∷ vs) r e h = absurd (omega arith)
row_written (suc k) (v ∷ []) r e h = absurd (omega arith)
row_written (suc k) (v ∷ w ∷ vs) r e h =
    rw (append_assoc (field_text v 32) (row_text (w ∷ vs)) r, field_written 32 v (row_text (w ∷ vs) ++ r) refl h.0, row_written k (w ∷ vs) r (omega arith) h.1)

pub record RowRead (k : ℕ) (s vs r : List ℕ) : Type 0 where
  pub text : s ≡ row_text vs ++ r
  pub count : length vs ≡ suc k
  pub small : Small vs

row_more : (v : ℕ) (vs : List ℕ) (k : ℕ) → length vs ≡ suc k → field_text v 32 ++ row_text vs ≡ row_text (v ∷ vs)
unfolding row_text
row_more v [] k e = absurd (omega arith)
row_more v (w ∷ vs) k e = refl

pub row_read : (k : ℕ) (s vs r : List ℕ) → row k s ≡ got vs r → RowRead k s vs r
unfolding row row_text
row_read zero s vs r h =
    taken {p = field 10 s} h λ v q g k.
    let f = field_read 10 s v q g in
    let m : v ∷ [] ≡ vs = cc in
    let n : q ≡ r = cc in
    rw (← m, ← n) (record { text = f.0; count = refl; small = (f.1, tt) })
row_read (suc k) s vs r h =
    taken {p = field 32 s} h λ v q g j. taken {p = row k q} j λ ws x i l.
    let f = field_read 32 s v q g in
    let w = row_read k q ws x i in
    let m : v ∷ ws ≡ vs = cc in
    let n : x ≡ r = cc in
    rw (← m, ← n)
    (record {
      text = f.0 ∙ ap (λ (l : List ℕ). field_text v 32 ++ l) w.text ∙ sym (append_assoc (field_text v 32) (row_text ws) x) ∙ ap (λ (l : List ℕ). l ++ x) (row_more v ws k w.count);
      count = ap suc w.count;
      small = (f.1, w.small);
    })
