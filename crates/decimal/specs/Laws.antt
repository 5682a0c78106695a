-- Writing and reading a value undo each other: what is written is read, and what was read is what is written.
-- Assumes nothing.
use Rattle.std.specs.Prelude.{◌≡◌, refl, Bool, true, false, cond, List, [], ◌∷◌, ◌++◌, ℕ, zero, suc, ◌+◌, ◌-◌, ◌*◌, ◌/◌, ◌%◌, ◌≤◌, ◌<◌, leb, length}
use Rattle.std.proofs.Common.{ap, ◌∙◌, append_assoc, ⊎_elim, arith, leb→le, le→leb, length-append, lt-ltb, le-ltb}
use Rattle.fold.specs.Test.{is_true, of_true, both, both_of}
use Rattle.fold.specs.Counting.{le_or_lt}
use Rattle.decimal.specs.Parsed.{fail, got, no_fail}
use Rattle.decimal.specs.Decimal.{is_digit, grows, more, value, digits_within, digits}

-- ---- the digits of a number

-- enough is enough
same_digits : (k j v : ℕ) → v ≤ k → v ≤ j → digits_within k v ≡ digits_within j v
unfolding digits_within
same_digits zero zero v h g = refl
same_digits zero (suc j) v h g = rw (lt-ltb v 10 (omega arith))
same_digits (suc k) zero v h g = rw (lt-ltb v 10 (omega arith))
same_digits (suc k) (suc j) v h g =
    ⊎_elim
    (λ l. rw (le-ltb v 10 l) (ap (λ (x : List ℕ). x ++ (48 + v % 10) ∷ []) (same_digits k j (v / 10) (omega arith) (omega arith))))
    (λ l. rw (lt-ltb v 10 l)) (le_or_lt 10 v)

pub digits_one : (v : ℕ) → v < 10 → digits v ≡ (48 + v) ∷ []
unfolding digits_within
digits_one zero h = refl
digits_one (suc v) h = rw (lt-ltb (suc v) 10 h)

pub digits_more : (v : ℕ) → 10 ≤ v → digits v ≡ digits (v / 10) ++ (48 + v % 10) ∷ []
unfolding digits_within
digits_more zero h = absurd (omega arith)
digits_more (suc v) h =
    rw (le-ltb (suc v) 10 h)
    (ap (λ (l : List ℕ). l ++ (48 + suc v % 10) ∷ []) (same_digits v (suc v / 10) (suc v / 10) (omega arith) (omega arith)))

pub length_one : (v : ℕ) → v < 10 → length (digits v) ≡ 1
length_one v h = ap length (digits_one v h)

pub length_more : (v : ℕ) → 10 ≤ v → length (digits v) ≡ length (digits (v / 10)) + 1
length_more v h = ap length (digits_more v h) ∙ length-append (digits (v / 10)) ((48 + v % 10) ∷ [])

-- ---- tests of a byte and of a value

digit_yes : (c : ℕ) → 48 ≤ c → c ≤ 57 → is_digit c ≡ true
digit_yes c l h = is_true (is_digit c) (both (leb 48 c) (leb c 57) (le→leb 48 c l) (le→leb c 57 h))

grows_yes : (v : ℕ) → 1 ≤ v → v ≤ 9999 → grows v ≡ true
grows_yes v l h = is_true (grows v) (both (leb 1 v) (leb v 9999) (le→leb 1 v l) (le→leb v 9999 h))

pub digit_is : (c : ℕ) → is_digit c ≡ true → (48 ≤ c) × (c ≤ 57)
digit_is c e = let (a, b) = both_of (leb 48 c) (leb c 57) (of_true e) in (leb→le 48 c a, leb→le c 57 b)

pub grows_is : (v : ℕ) → grows v ≡ true → (1 ≤ v) × (v ≤ 9999)
grows_is v e = let (a, b) = both_of (leb 1 v) (leb v 9999) (of_true e) in (leb→le 1 v a, leb→le v 9999 b)

-- ---- what is written is read

value_digit : (d : ℕ) (s : List ℕ) → d < 10 → value ((48 + d) ∷ s) ≡ more d s
unfolding value
value_digit d s h = rw (digit_yes (48 + d) (omega arith) (omega arith)) (ap (λ (n : ℕ). more n s) (omega arith))

more_digit : (v d : ℕ) (s : List ℕ) → 1 ≤ v → v ≤ 9999 → d < 10 → more v ((48 + d) ∷ s) ≡ more (v * 10 + d) s
unfolding more
more_digit v d s l h g =
    rw (digit_yes (48 + d) (omega arith) (omega arith), grows_yes v l h) (ap (λ (n : ℕ). more n s) (omega arith))

read_within : (k v : ℕ) → v ≤ k → v ≤ 99999 → (s : List ℕ) → value (digits v ++ s) ≡ more v s
read_within zero v h g s = rw (digits_one v (omega arith)) (value_digit v s (omega arith))
read_within (suc k) v h g s =
    ⊎_elim
    (λ l.
    rw (digits_more v l, append_assoc)
    (read_within k (v / 10) (omega arith) (omega arith) ((48 + v % 10) ∷ s)
    ∙ more_digit (v / 10) (v % 10) s (omega arith) (omega arith) (omega arith)
    ∙ ap (λ (n : ℕ). more n s) (omega arith)))
    (λ l. rw (digits_one v l) (value_digit v s l))
    (le_or_lt 10 v)

-- a byte that is no digit ends the value
pub value_written : (v e : ℕ) (s : List ℕ) → v ≤ 99999 → is_digit e ≡ false → value (digits v ++ (e ∷ s)) ≡ got v (e ∷ s)
unfolding more
value_written v e s g h = read_within v v (omega arith) g (e ∷ s) ∙ rw h

-- ---- what was read is what is written, and is below 100,000

pub record Written (s : List ℕ) (v : ℕ) (r : List ℕ) : Type 0 where
  pub text : s ≡ digits v ++ r
  pub small : v ≤ 99999

digits_snoc : (u c : ℕ) (s : List ℕ) → 1 ≤ u → 48 ≤ c → c ≤ 57 → digits (u * 10 + (c - 48)) ++ s ≡ digits u ++ (c ∷ s)
digits_snoc u c s l h g =
    let w : ℕ = u * 10 + (c - 48) in
    let p : w / 10 ≡ u = omega arith in
    let q : 48 + w % 10 ≡ c = omega arith in
    rw (digits_more w (omega arith), append_assoc, p, q)

more_read : (u : ℕ) (s : List ℕ) (v : ℕ) (r : List ℕ) → u ≤ 99999 → more u s ≡ got v r → Written (digits u ++ s) v r
unfolding more
more_read u [] v r h e = record { text = cc; small = let q : u ≡ v = cc in omega arith }
more_read u (c ∷ s) v r h e = go (is_digit c) refl (grows u) refl (more_read (u * 10 + (c - 48)) s v r) e
  where
    go : (b : Bool) → is_digit c ≡ b → (g : Bool) → grows u ≡ g
        → (u * 10 + (c - 48) ≤ 99999 → more (u * 10 + (c - 48)) s ≡ got v r → Written (digits (u * 10 + (c - 48)) ++ s) v r)
        → cond b (cond g (more (u * 10 + (c - 48)) s) fail) (got u (c ∷ s)) ≡ got v r
        → Written (digits u ++ (c ∷ s)) v r
    go true p true q ih e =
        let d = digit_is c p in
        let b = grows_is u q in
        rw (digits_snoc u c s b.0 d.0 d.1) at (ih (omega arith) e)
    go true p false q ih e = absurd (no_fail e)
    go false p g q ih e = record { text = cc; small = let q : u ≡ v = cc in omega arith }

pub value_read : (s : List ℕ) (v : ℕ) (r : List ℕ) → value s ≡ got v r → Written s v r
unfolding value
value_read [] v r e = absurd (no_fail e)
value_read (c ∷ s) v r e = go (is_digit c) refl e
  where
    go : (b : Bool) → is_digit c ≡ b → cond b (more (c - 48) s) fail ≡ got v r → Written (c ∷ s) v r
    go true p e =
        let d = digit_is c p in
        let q : 48 + (c - 48) ≡ c = omega arith in
        rw (digits_one (c - 48) (omega arith), q) at (more_read (c - 48) s v r (omega arith) e)
    go false p e = absurd (no_fail e)
