-- Tests, values of `Bool`, as statements: `T b` is the statement that the test b passes. What joins the two ways of saying so,
-- and what a conjunction, a disjunction or a negation says. Every crate above takes its tests apart by these laws.
-- Assumes nothing.
use Rattle.std.specs.Prelude.{◌≡◌, refl, Bool, true, false, not, ◌&&◌, ◌||◌, ◌⊎◌, List, [], ◌∷◌, ℕ, T, eqb}
use Rattle.std.proofs.Common.{sym, subst, inl, inr, eqb→eq, eq-eqb}

-- ---- a test and its statement

pub is_true : (b : Bool) → T b → b ≡ true
is_true true t = refl
is_true false t = absurd t

pub of_true : {b : Bool} → b ≡ true → T b
of_true e = subst T (sym e) tt

pub is_false : (b : Bool) → (T b → ⊥) → b ≡ false
is_false true f = absurd (f tt)
is_false false f = refl

pub of_false : {b : Bool} → b ≡ false → T b → ⊥
of_false e t = subst T e t

pub clash : {b : Bool} → b ≡ true → b ≡ false → ⊥
clash e q = of_false q (of_true e)

pub test : (b : Bool) → T b ⊎ (T b → ⊥)
test true = inl tt
test false = inr (λ t. t)

-- tests that pass together are equal
pub same_test_lem : (a b : Bool) → (T a → T b) → (T b → T a) → a ≡ b
same_test_lem true true f g = refl
same_test_lem true false f g = absurd (f tt)
same_test_lem false true f g = absurd (g tt)
same_test_lem false false f g = refl

-- ---- and, or, not, implies

pub both : (a b : Bool) → T a → T b → T (a && b)
both true b s t = t
both false b s t = absurd s

pub both_of : (a b : Bool) → T (a && b) → T a × T b
both_of true b t = (tt, t)
both_of false b t = absurd t

pub left : (a b : Bool) → T a → T (a || b)
left true b t = tt
left false b t = absurd t

pub right : (a b : Bool) → T b → T (a || b)
right true b t = tt
right false b t = t

pub either_of : (a b : Bool) → T (a || b) → T a ⊎ T b
either_of true b t = inl tt
either_of false b t = inr t

pub not_of : (a : Bool) → T (not a) → T a → ⊥
not_of true t s = t
not_of false t s = s

pub not_not : (a : Bool) → (T (not a) → ⊥) → T a
not_not true f = tt
not_not false f = f tt

-- neither passes
pub neither : (a b : Bool) → (a || b) ≡ false → (a ≡ false) × (b ≡ false)
neither true b e = absurd (of_true (sym e))
neither false b e = (refl, e)

-- ---- equal numbers and equal lists of numbers

pub eqb_sym : (a b : ℕ) → eqb a b ≡ eqb b a
eqb_sym a b = same_test_lem (eqb a b) (eqb b a) (λ t. of_true (eq-eqb b a (sym (eqb→eq a b t)))) (λ t. of_true (eq-eqb a b (sym (eqb→eq b a t))))

unfoldable pub same_list : List ℕ → List ℕ → Bool
same_list [] [] = true
same_list [] (y ∷ ys) = false
same_list (x ∷ xs) [] = false
same_list (x ∷ xs) (y ∷ ys) = eqb x y && same_list xs ys

pub same_list_lem : (xs ys : List ℕ) → T (same_list xs ys) → xs ≡ ys
unfolding same_list
same_list_lem [] [] t = refl
same_list_lem [] (y ∷ ys) t = absurd t
same_list_lem (x ∷ xs) [] t = absurd t
same_list_lem (x ∷ xs) (y ∷ ys) t =
    let p = both_of (eqb x y) (same_list xs ys) t in
    let e = eqb→eq x y p.0 in
    let h = same_list_lem xs ys p.1 in
    λ i. e i ∷ h i
