-- The position of a number by the slice's own search: where one is given it is that of the listed number, else none is listed.
-- Assumes nothing.
use Rattle.std.proofs.Common.{◌&&◌, arith, le-ltb, lt-ltb, eq-eqb, ne_eqb, ◌≡◌, refl, Bool, true, false, not, cond, List, [], ◌∷◌, ℕ, suc, ◌+◌, ◌<◌, ◌≤◌, eqb, ltb, length, get_or, Option, Some, None, sym, ap, ◌∙◌, subst, ltb-true, ltb-false, le_antisymm, one-add}
use Rattle.std.specs.List.{position as place, position_or_len}
use Rattle.fold.specs.Fold.{lowest, lowest_le}
use Rattle.dayfile.specs.Reading.{position, is_listed}
use Rattle.day_rows.specs.Steps.{both_listed}

-- the position of a number that is listed, or that it is not
abbrev pub Located : List ℕ → ℕ → Option ℕ → Type 0
Located numbers x (Some i) = (i ≡ position numbers x) × (i < length numbers)
Located numbers x None = position numbers x ≡ length numbers

same_place : (numbers : List ℕ) (x : ℕ) → position_or_len (λ n. eqb n x) numbers ≡ position numbers x
unfolding position lowest
same_place [] x = refl
same_place (n ∷ numbers) x = go (eqb n x) (same_place numbers x)
  where
    go : (b : Bool) → position_or_len (λ n. eqb n x) numbers ≡ position numbers x
        → cond (not b) (1 + position_or_len (λ n. eqb n x) numbers) 0 ≡ cond b 0 (suc (position numbers x))
    go true e = refl
    go false e = one-add _ ∙ ap suc e

position_most : (numbers : List ℕ) (x : ℕ) → position numbers x ≤ length numbers
unfolding position
position_most numbers x = lowest_le (length numbers) (λ i. eqb (get_or numbers i 0) x)

pub located : (numbers : List ℕ) (x : ℕ) → Located numbers x (place (λ n. eqb n x) numbers)
located numbers x = subst (λ i. Located numbers x (cond (ltb i (length numbers)) (Some i) None)) (sym (same_place numbers x)) (go (ltb (position numbers x) (length numbers)) refl)
  where
    go : (b : Bool) → ltb (position numbers x) (length numbers) ≡ b → Located numbers x (cond b (Some (position numbers x)) None)
    go true e = (refl, ltb-true _ _ e)
    go false e = le_antisymm (position_most numbers x) (ltb-false _ _ e)

-- so what the slice's own search gives is the position, or says that there is none
pub located_is : (numbers : List ℕ) (x : ℕ) {o : Option ℕ} → o ≡ place (λ n. eqb n x) numbers → Located numbers x o
located_is numbers x e = subst (Located numbers x) (sym e) (located numbers x)

module _ (numbers : List ℕ) (x : ℕ) where
  pub unlisted : None ≡ place (λ n. eqb n x) numbers → is_listed numbers x ≡ false
  unlisted e = let l : position numbers x ≡ length numbers = located_is numbers x e in le-ltb _ _ (omega arith)

  pub listed : (i : ℕ) → Some i ≡ place (λ n. eqb n x) numbers → (is_listed numbers x ≡ true) × (i ≡ position numbers x)
  listed i e =
      let l : (i ≡ position numbers x) × (i < length numbers) = located_is numbers x e in
      (lt-ltb _ _ (omega arith), l.0)

-- so for two of them
module _ (numbers : List ℕ) (to from : ℕ) where
  pub first_unlisted : is_listed numbers to ≡ false → both_listed numbers to from ≡ false
  first_unlisted e = rw e

  pub second_unlisted : is_listed numbers from ≡ false → both_listed numbers to from ≡ false
  second_unlisted e = rw e (go (is_listed numbers to))
    where
      go : (b : Bool) → (b && false && not (eqb to from)) ≡ false
      go true = refl
      go false = refl

  pub one_train : to ≡ from → both_listed numbers to from ≡ false
  one_train e = rw (eq-eqb to from e) (go (is_listed numbers to && is_listed numbers from))
    where
      go : (b : Bool) → (b && not true) ≡ false
      go true = refl
      go false = refl

  pub both_there : is_listed numbers to ≡ true → is_listed numbers from ≡ true → (to ≡ from → ⊥) → both_listed numbers to from ≡ true
  both_there e f n = rw (e, f, ne_eqb to from n)
