-- Rows by their places: of listed numbers that rise, pairs come in the order of their places. A move's place is that of its two trains in
-- the table of boxes.
-- Assumes nothing.
use Rattle.std.specs.Prelude.{◌≡◌, Bool, ◌&&◌, List, ◌∷◌, ◌⊎◌, ltb, length, get_or}
use Rattle.std.proofs.Math.Path.{refl}
use Rattle.std.proofs.Common.{sym, ap, ◌∙◌, ⊎_elim, eq-or-lt_of_le, mul-le-mul_right, suc-mul, eq-eqb}
use Rattle.std.proofs.Math.Bool.{true, false, cond}
use Rattle.std.proofs.Math.Logic.{inl, inr}
use Prim.Native.Nat.{ℕ, suc, ◌+◌, ◌*◌, ◌≤◌, ◌<◌}
use native.Mathlib.Omega.{arith}
use Rattle.std.proofs.Math.Arith.{digits_lt, digits_div, digits_mod}
use Rattle.std.proofs.Math.Dec.{T, eqb, ltb→lt, lt→ltb, eqb→eq}
use Rattle.fold.specs.Test.{of_true, clash, both, both_of, left, right, either_of}
use Rattle.fold.specs.Fold.{lowest, lowest-found, lowest-passes, none_i}
use Rattle.fold.specs.Counting.{le_or_lt}
use Rattle.dayfile.specs.Reading.{field1, field2, field3, position, is_listed, pair_after, place_of}
use Rattle.dayfile.specs.Writing.{move_row}
use Rattle.dayfile.specs.Trains.{three_fields, Rising}

-- ---- positions of listed numbers

module _ (numbers : List ℕ) where
  -- the number at a listed number's position is that number
  pub number_there : (x : ℕ) → position numbers x < length numbers → get_or numbers (position numbers x) 0 ≡ x
  unfolding position
  number_there x h = eqb→eq (get_or numbers (position numbers x) 0) x (lowest-passes (length numbers) (λ i. eqb (get_or numbers i 0) x) h)

  module _ (x z : ℕ) (p : position numbers x < length numbers) (q : position numbers z < length numbers) where
    pub position_same : position numbers x ≡ position numbers z → x ≡ z
    position_same e = sym (number_there x p) ∙ ap (λ k. get_or numbers k 0) e ∙ number_there z q

    -- of two listed numbers the smaller has the lower position, and the other way round
    pub less_number : Rising numbers → position numbers x < position numbers z → x < z
    less_number up h = omega (arith, number_there x p, number_there z q, up (position numbers x) (position numbers z) h q)

    pub less_position : Rising numbers → x < z → position numbers x < position numbers z
    less_position up l =
        ⊎_elim
        (λ (h : position numbers z ≤ position numbers x). absurd
        (⊎_elim (λ e. omega (arith, number_there x p, number_there z q, ap (λ k. get_or numbers k 0) e))
        (λ m. omega (arith, number_there x p, number_there z q, up (position numbers z) (position numbers x) m p)) (eq-or-lt_of_le h)))
        (λ h. h) (le_or_lt (position numbers z) (position numbers x))

  pub position_there : Rising numbers → (i : ℕ) → i < length numbers → position numbers (get_or numbers i 0) ≡ i
  unfolding position
  position_there up i h =
      lowest-found (length numbers) (λ k. eqb (get_or numbers k 0) (get_or numbers i 0)) i h
      (none_i i (λ k. eqb (get_or numbers k 0) (get_or numbers i 0)) (λ k l t. let e = eqb→eq (get_or numbers k 0) (get_or numbers i 0) t in omega (arith, up k i l h)))
      (eq-eqb (get_or numbers i 0) (get_or numbers i 0) refl)

-- of a list with one number more
module _ (x : ℕ) (taken : List ℕ) (z : ℕ) where
  pub listed_more : T (is_listed (x ∷ taken) z) → (x ≡ z) ⊎ T (is_listed taken z)
  unfolding position lowest
  listed_more t = go (eqb x z) refl t
    where
      go : (b : Bool) → eqb x z ≡ b → T (ltb (cond b 0 (suc (position taken z))) (suc (length taken))) → (x ≡ z) ⊎ T (is_listed taken z)
      go true e t = inl (eqb→eq x z (of_true e))
      go false e t = inr (lt→ltb (position taken z) (length taken) (omega (arith, ltb→lt (suc (position taken z)) (suc (length taken)) t)))

  pub more-listed : (x ≡ z) ⊎ T (is_listed taken z) → T (is_listed (x ∷ taken) z)
  unfolding position lowest
  more-listed w = lt→ltb (position (x ∷ taken) z) (suc (length taken)) (go (eqb x z) refl w)
    where
      go : (b : Bool) → eqb x z ≡ b → (x ≡ z) ⊎ T (is_listed taken z) → cond b 0 (suc (position taken z)) < suc (length taken)
      go true e w = omega arith
      go false e (inl d) = absurd (clash (eq-eqb x z d) e)
      go false e (inr t) = omega (arith, ltb→lt (position taken z) (length taken) t)

-- ---- pairs (i, j) and (a, b) below a width, in the order of the first two fields of two rows

less_place : (width i j a b : ℕ) → i < a → j < width → i * width + j < a * width + b
less_place width i j a b h g = let m = mul-le-mul_right {m = suc i} {n = a} width h in omega (arith, suc-mul i width)

module _ (width : ℕ) (r s : List ℕ) (i j a b : ℕ) where
  pub later_place : j < width → (field1 r < field1 s → i < a) → (field1 r ≡ field1 s → i ≡ a) → (field2 r < field2 s → j < b)
      → T (pair_after r s) → i * width + j < a * width + b
  later_place small less same second t =
      ⊎_elim
      (λ l. less_place width i j a b (less (ltb→lt (field1 r) (field1 s) l)) small)
      (λ l.
      let (e, f) = both_of (eqb (field1 r) (field1 s)) (ltb (field2 r) (field2 s)) l in
      rw (same (eqb→eq (field1 r) (field1 s) e)) (omega (arith, second (ltb→lt (field2 r) (field2 s) f))))
      (either_of (ltb (field1 r) (field1 s)) (eqb (field1 r) (field1 s) && ltb (field2 r) (field2 s)) t)

  pub later_pair : b < width → (i < a → field1 r < field1 s) → (i ≡ a → field1 r ≡ field1 s) → (j < b → field2 r < field2 s)
      → i * width + j < a * width + b → T (pair_after r s)
  later_pair small less same second h =
      ⊎_elim
      (λ (l : a ≤ i).
      ⊎_elim
      (λ (e : a ≡ i).
      right (ltb (field1 r) (field1 s)) (eqb (field1 r) (field1 s) && ltb (field2 r) (field2 s))
      (both (eqb (field1 r) (field1 s)) (ltb (field2 r) (field2 s)) (of_true (eq-eqb (field1 r) (field1 s) (same (sym e))))
      (lt→ltb (field2 r) (field2 s) (second (omega (arith, ap (λ k. k * width) e))))))
      (λ (m : a < i). absurd (omega (arith, less_place width a b i j m small)))
      (eq-or-lt_of_le l))
      (λ (l : i < a). left (ltb (field1 r) (field1 s)) (eqb (field1 r) (field1 s) && ltb (field2 r) (field2 s)) (lt→ltb (field1 r) (field1 s) (less l)))
      (le_or_lt a i)

-- ---- places of moves

-- a move between two listed trains
pub record Listed (numbers : List ℕ) (r : List ℕ) : Type 0 where
  pub to : position numbers (field1 r) < length numbers
  pub «from» : position numbers (field2 r) < length numbers

module _ (numbers : List ℕ) (width : ℕ) (few : length numbers ≤ width) where
  pub place_inside : (r : List ℕ) → Listed numbers r → place_of numbers width r < width * width
  place_inside r p = digits_lt {q = position numbers (field1 r)} {m = width} {r = position numbers (field2 r)} {c = width} (omega (arith, p.to)) (omega (arith, p.«from»))

  -- the row at a move's place is the move
  pub place_row : (r : List ℕ) → length r ≡ 3 → Listed numbers r → move_row numbers width (place_of numbers width r) (field3 r) ≡ r
  place_row r e p =
      rw (
        digits_div (position numbers (field1 r)) {m = width} {r = position numbers (field2 r)} (omega (arith, p.«from»)),
        digits_mod (position numbers (field1 r)) {m = width} {r = position numbers (field2 r)} (omega (arith, p.«from»)),
        number_there numbers (field1 r) p.to,
        number_there numbers (field2 r) p.«from»,
      ) (three_fields r e)

  module _ (up : Rising numbers) (r s : List ℕ) (p : Listed numbers r) (q : Listed numbers s) where
    -- a pair that comes after another has a later place, and the other way round
    pub after_place : T (pair_after r s) → place_of numbers width r < place_of numbers width s
    after_place =
        later_place width r s (position numbers (field1 r)) (position numbers (field2 r)) (position numbers (field1 s)) (position numbers (field2 s))
        (omega (arith, p.«from»)) (less_position numbers (field1 r) (field1 s) p.to q.to up) (ap (position numbers))
        (less_position numbers (field2 r) (field2 s) p.«from» q.«from» up)

    pub place_after : place_of numbers width r < place_of numbers width s → T (pair_after r s)
    place_after =
        later_pair width r s (position numbers (field1 r)) (position numbers (field2 r)) (position numbers (field1 s)) (position numbers (field2 s))
        (omega (arith, q.«from»)) (less_number numbers (field1 r) (field1 s) p.to q.to up) (position_same numbers (field1 r) (field1 s) p.to q.to)
        (less_number numbers (field2 r) (field2 s) p.«from» q.«from» up)
