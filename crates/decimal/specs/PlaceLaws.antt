-- Reading and writing at a place of a text: what the byte there does, and what one store more leaves.
-- Assumes nothing.
use Rattle.std.specs.Prelude.{◌≡◌, refl, true, false, List, [], ◌∷◌, ◌++◌, ℕ, suc, ◌+◌, ◌-◌, ◌*◌, ◌≤◌, ◌<◌, length, get_or, set, drop}
use Rattle.std.proofs.Common.{sym, ap, ◌∙◌, add-zero, add-suc, suc-add, add-one, arith, length-append, drop_of_length-le, drop-cons}
use Rattle.std.proofs.lemmas.List.Edits.{sets}
use Rattle.decimal.specs.Parsed.{fail, got}
use Rattle.decimal.specs.Decimal.{is_digit, grows, more, value}
use Rattle.decimal.specs.Place.{Put}

-- ---- the byte at a place

module _ (t : List ℕ) (p : ℕ) where
  pub at_end : length t ≤ p → drop p t ≡ []
  at_end h = drop_of_length-le t h

  pub here : p < length t → drop p t ≡ get_or t p 0 ∷ drop (p + 1) t
  here h = rw add-one (drop-cons t p 0 h)

  -- ---- reading a value

  pub value_end : length t ≤ p → value (drop p t) ≡ fail
  unfolding value
  value_end h = rw (at_end h)

  pub value_other : p < length t → is_digit (get_or t p 0) ≡ false → value (drop p t) ≡ fail
  unfolding value
  value_other h e = rw (here h, e)

  pub value_start : p < length t → is_digit (get_or t p 0) ≡ true → value (drop p t) ≡ more (get_or t p 0 - 48) (drop (p + 1) t)
  unfolding value
  value_start h e = rw (here h, e)

  module _ (v : ℕ) where
    pub more_end : length t ≤ p → more v (drop p t) ≡ got v (drop p t)
    unfolding more
    more_end h = rw (at_end h)

    pub more_other : p < length t → is_digit (get_or t p 0) ≡ false → more v (drop p t) ≡ got v (drop p t)
    unfolding more
    more_other h e = rw (here h, e)

    pub more-full : p < length t → is_digit (get_or t p 0) ≡ true → grows v ≡ false → more v (drop p t) ≡ fail
    unfolding more
    more-full h e g = rw (here h, e, g)

    pub more-next : p < length t → is_digit (get_or t p 0) ≡ true → grows v ≡ true → more v (drop p t) ≡ more (v * 10 + (get_or t p 0 - 48)) (drop (p + 1) t)
    unfolding more
    more-next h e g = rw (here h, e, g)

-- ---- storing

-- two runs of stores, the second where the first ends, are one run
sets_append : (l : List ℕ) (i : ℕ) (a b : List ℕ) → sets (sets l i a) (i + length a) b ≡ sets l i (a ++ b)
sets_append l i [] b = ap (λ (n : ℕ). sets l n b) (add-zero i)
sets_append l i (x ∷ a) b =
    ap (λ (n : ℕ). sets (sets (set l i x) (suc i) a) n b) (add-suc i (length a) ∙ sym (suc-add i (length a))) ∙ sets_append (set l i x) (suc i) a b

-- one text after another
pub put_text : {l m n : List ℕ} {i j k : ℕ} {a b : List ℕ} → Put l m i j a → Put m n j k b → Put l n i k (a ++ b)
put_text {l} {m} {n} {i} {j} {k} {a} {b} p q =
    record {
      next = simp length-append (omega (arith, p.next, q.next));
      list = q.list ∙ rw (p.next, p.list) (sets_append l i a b);
    }

-- one byte, and one byte more
pub put_one : {l : List ℕ} {i : ℕ} (x : ℕ) → Put l (set l i x) i (i + 1) (x ∷ [])
put_one x = record { next = refl; list = refl }

pub put_byte : {l m : List ℕ} {i j : ℕ} {a : List ℕ} (x : ℕ) → Put l m i j a → Put l (set m j x) i (j + 1) (a ++ x ∷ [])
put_byte x p = put_text p (put_one x)
