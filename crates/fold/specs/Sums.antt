-- The algebra of sums and tests over the indices below a bound: terms replaced, sums added, scaled, exchanged, and taken apart from
-- the front.
-- Assumes nothing.
use Rattle.std.specs.Prelude.{◌≡◌, refl, Bool, cond, ◌&&◌, ◌||◌, ℕ, zero, suc, ◌+◌, ◌*◌, ◌≤◌, ◌<◌, eqb}
use Rattle.std.proofs.Common.{sym, ap, ap₂, ◌∙◌, ⊎_elim, zero-le, le_of_suc-le-suc, eq-or-lt_of_le, add-zero, zero-add, mul-zero, mul-add, suc-mul, arith, eq-eqb, ne_eqb}
use Rattle.fold.specs.Counting.{le_or_lt}
use Rattle.fold.specs.Fold.{bit, sum, some, each, lowest, below_suc}

-- ---- terms that agree below the bound

pub sum_ext : (n : ℕ) (f g : ℕ → ℕ) → ((i : ℕ) → i < n → f i ≡ g i) → sum n f ≡ sum n g
unfolding sum
sum_ext zero f g e = refl
sum_ext (suc n) f g e = ap₂ (λ x y. x + y) (sum_ext n f g (λ i h. e i (omega arith))) (e n (omega arith))

pub some_ext : (n : ℕ) (p q : ℕ → Bool) → ((i : ℕ) → i < n → p i ≡ q i) → some n p ≡ some n q
unfolding some
some_ext zero p q e = refl
some_ext (suc n) p q e = ap₂ ◌||◌ (some_ext n p q (λ i h. e i (omega arith))) (e n (omega arith))

pub each_ext : (n : ℕ) (p q : ℕ → Bool) → ((i : ℕ) → i < n → p i ≡ q i) → each n p ≡ each n q
unfolding each
each_ext zero p q e = refl
each_ext (suc n) p q e = ap₂ ◌&&◌ (each_ext n p q (λ i h. e i (omega arith))) (e n (omega arith))

pub lowest_ext : (n : ℕ) (p q : ℕ → Bool) → ((i : ℕ) → i < n → p i ≡ q i) → lowest n p ≡ lowest n q
unfolding lowest
lowest_ext zero p q e = refl
lowest_ext (suc n) p q e = ap₂ (λ b k. cond b 0 (suc k)) (e 0 (omega arith)) (lowest_ext n (λ i. p (suc i)) (λ i. q (suc i)) (λ i h. e (suc i) (omega arith)))

-- ---- sums of sums

pub sum_zero : (n : ℕ) (f : ℕ → ℕ) → ((i : ℕ) → i < n → f i ≡ 0) → sum n f ≡ 0
unfolding sum
sum_zero zero f e = refl
sum_zero (suc n) f e = ap₂ (λ x y. x + y) (sum_zero n f (λ i h. e i (omega arith))) (e n (omega arith))

pub sum-add : (n : ℕ) (f g : ℕ → ℕ) → sum n (λ i. f i + g i) ≡ sum n f + sum n g
unfolding sum
sum-add zero f g = refl
sum-add (suc n) f g = let h = sum-add n f g in omega arith

pub sum_times : (n w : ℕ) (f : ℕ → ℕ) → sum n (λ i. w * f i) ≡ w * sum n f
unfolding sum
sum_times zero w f = sym (mul-zero w)
sum_times (suc n) w f = ap (λ x. x + w * f n) (sum_times n w f) ∙ sym (mul-add w (sum n f) (f n))

pub sum_swap : (n m : ℕ) (f : ℕ → ℕ → ℕ) → sum n (λ i. sum m (f i)) ≡ sum m (λ t. sum n (λ i. f i t))
unfolding sum
sum_swap zero m f = sym (sum_zero m (λ t. 0) (λ t h. refl))
sum_swap (suc n) m f = ap (λ x. x + sum m (f n)) (sum_swap n m f) ∙ sym (sum-add m (λ t. sum n (λ i. f i t)) (f n))

pub sum_le : (n : ℕ) (f g : ℕ → ℕ) → ((i : ℕ) → i < n → f i ≤ g i) → sum n f ≤ sum n g
unfolding sum
sum_le zero f g h = zero-le
sum_le (suc n) f g h = let a = sum_le n f g (λ i l. h i (omega arith)) in let b = h n (omega arith) in omega arith

pub sum_bound : (n m : ℕ) (f : ℕ → ℕ) → ((i : ℕ) → i < n → f i ≤ m) → sum n f ≤ n * m
unfolding sum
sum_bound zero m f h = zero-le
sum_bound (suc n) m f h = let a = sum_bound n m f (λ i l. h i (omega arith)) in let b = h n (omega arith) in omega (arith, suc-mul n m)

-- a term is at most the sum
pub term_le_sum : (m : ℕ) (f : ℕ → ℕ) (t : ℕ) → t < m → f t ≤ sum m f
unfolding sum
term_le_sum zero f t h = absurd (omega arith)
term_le_sum (suc m) f t h =
    below_suc (λ t. f t ≤ sum m f + f m) m (λ t l. let r = term_le_sum m f t l in omega arith) (omega arith) t h

-- of the numbers 1 to m just one is s
pub sum_only : (m s x : ℕ) → 1 ≤ s → s ≤ m → sum m (λ t. cond (eqb s (suc t)) x 0) ≡ x
unfolding sum
sum_only zero s x a b = absurd (omega arith)
sum_only (suc m) s x a b =
    ⊎_elim
    (λ e.
    ap₂ (λ y z. y + cond z x 0) (sum_zero m (λ t. cond (eqb s (suc t)) x 0) (λ t h. ap (λ z. cond z x 0) (ne_eqb s (suc t) (λ q. omega arith)))) (eq-eqb s (suc m) e)
    ∙ zero-add x)
    (λ l. ap₂ (λ y z. y + cond z x 0) (sum_only m s x a (le_of_suc-le-suc l)) (ne_eqb s (suc m) (λ q. omega arith)) ∙ add-zero x)
    (eq-or-lt_of_le b)

-- terms of 0 and 1 with the sum 1 are 1 at just one place
pub sum_one : (m : ℕ) (f : ℕ → ℕ) → ((t : ℕ) → t < m → f t ≤ 1) → sum m f ≡ 1
    → (s : ℕ) × (1 ≤ s) × (s ≤ m) × ((t : ℕ) → t < m → f t ≡ bit (eqb s (suc t)))
unfolding sum
sum_one zero f b e = absurd (omega arith)
sum_one (suc m) f b e =
    ⊎_elim
    (λ (z : f m ≤ 0).
    let (s, p, q, g) = sum_one m f (λ t h. b t (omega arith)) (omega arith) in
    let here : f m ≡ bit (eqb s (suc m)) = omega (arith, ap bit (ne_eqb s (suc m) (λ e. omega arith))) in
    (s, p, omega arith, below_suc (λ t. f t ≡ bit (eqb s (suc t))) m g here))
    (λ (z : 0 < f m).
    let one = b m (omega arith) in
    let here : f m ≡ bit (eqb (suc m) (suc m)) = omega (arith, ap bit (eq-eqb (suc m) (suc m) refl)) in (
      suc m,
      omega arith,
      omega arith,
      below_suc (λ t. f t ≡ bit (eqb (suc m) (suc t))) m
          (λ t h. omega (arith, term_le_sum m f t h, ap bit (ne_eqb (suc m) (suc t) (λ e. omega arith)))) here,
    ))
    (le_or_lt (f m) 0)

-- ---- from the first index

pub sum_cons : (n : ℕ) (f : ℕ → ℕ) → sum (suc n) f ≡ sum n (λ i. f (suc i)) + f 0
unfolding sum
sum_cons zero f = refl
sum_cons (suc n) f = let h = sum_cons n f in omega arith
