-- Sets less a part: the digits of what is left when a subset goes, of the empty set and of the full one; a set within two is within what
-- they share; the one index that passes is the lowest; and the code's test of a position.
-- Assumes nothing.
use Rattle.std.specs.Prelude.{◌≡◌, refl, Bool, true, false, not, cond, ◌&&◌, ℕ, zero, suc, ◌+◌, ◌-◌, ◌/◌, ◌^◌, ◌≤◌, ◌<◌, T, eqb}
use Rattle.std.proofs.Common.{sym, ap, ap₂, ◌∙◌, subst, subst₂, arith, eqb→eq, pow_pos, eq-eqb}
use Rattle.std.specs.Int.Bits.{bit_and}
use Rattle.std.proofs.lemmas.Nat.{and_comm, and_mask}
use Rattle.fold.specs.Test.{same_test_lem, both, both_of}
use Rattle.fold.specs.Fold.{bit, sum, lowest, none_i, lowest-found}
use Rattle.fold.specs.Sums.{sum_ext, sum-add, sum_one}
use Rattle.fold.specs.Counting.{bit_le}
use Rattle.sets.specs.Mask.{has, mask, has-mask, mask_ext, mask_same, mask-has, mask_and, mask_empty, mask_full}
use Rattle.sets.specs.Subset.{Sub, sub_le, sub_and, sub-mask}

-- all positions below n
abbrev pub full : ℕ → ℕ
full n = 2 ^ n - 1

-- ---- a mask less a part of it

mask_split : (n : ℕ) (p q : ℕ → Bool) → mask n p ≡ (mask n λ i. p i && q i) + (mask n λ i. p i && not (q i))
unfolding mask
mask_split n p q =
    sum_ext n (λ i. cond (p i) (2 ^ i) 0) (λ i. cond (p i && q i) (2 ^ i) 0 + cond (p i && not (q i)) (2 ^ i) 0) (λ i l. part (p i) (q i) (2 ^ i))
    ∙ sum-add n (λ i. cond (p i && q i) (2 ^ i) 0) (λ i. cond (p i && not (q i)) (2 ^ i) 0)
  where
    part : (a b : Bool) (x : ℕ) → cond a x 0 ≡ cond (a && b) x 0 + cond (a && not b) x 0
    part true true x = omega arith
    part true false x = omega arith
    part false b x = omega arith

pub mask-rest : (n : ℕ) (p q : ℕ → Bool) → ((i : ℕ) → i < n → T (q i) → T (p i)) → mask n p - mask n q ≡ mask n λ i. p i && not (q i)
mask-rest n p q h =
    let e : (mask n λ i. p i && q i) ≡ mask n q =
    mask_ext n (λ i. p i && q i) q (λ i l. same_test_lem (p i && q i) (q i) (λ t. (both_of (p i) (q i) t).1) (λ t. both (p i) (q i) (h i l t) t)) in
    omega (arith, mask_split n p q)

-- ---- digits

pub has_none : (i : ℕ) → has 0 i ≡ false
has_none i = ap (λ m. has m i) (sym (mask_empty (suc i) (λ k. false) (λ k l. refl))) ∙ has-mask (suc i) (λ k. false) i (omega arith)

full-mask : (n : ℕ) → mask n (λ k. true) ≡ full n
full-mask n = omega (arith, mask_full n (λ k. true) (λ k m. refl))

pub has-full : (n i : ℕ) → i < n → has (full n) i ≡ true
has-full n i l = ap (λ m. has m i) (sym (full-mask n)) ∙ has-mask n (λ k. true) i l

pub sub-full : (n r : ℕ) → r ≤ full n → Sub r (full n)
sub-full n r l = subst₂ Sub (mask-has n r (omega (arith, pow_pos n))) (full-mask n) (sub-mask n (has r) (λ k. true) (λ i m t. tt))

pub sub-has : (n s r : ℕ) → Sub s r → r < 2 ^ n → (i : ℕ) → i < n → T (has s i) → T (has r i)
sub-has n s r h b i l t =
    let p = mask-has n s (omega (arith, sub_le s r h)) in
    let e : (mask n λ i. has s i && has r i) ≡ mask n (has s) = sym (mask_and n (has s) (has r)) ∙ ap₂ bit_and p (mask-has n r b) ∙ h ∙ sym p in
    (both_of (has s i) (has r i) (subst T (sym (mask_same n (λ i. has s i && has r i) (has s) e i l)) t)).1

-- each position of r is in s or in what s leaves, and not in both
pub rest-bit : (n s r : ℕ) → Sub s r → r < 2 ^ n → (i : ℕ) → i < n → bit (has (r - s) i) + bit (has s i) ≡ bit (has r i)
rest-bit n s r h b i l =
    let e : r - s ≡ mask n λ i. has r i && not (has s i) =
    sym (ap₂ (λ x y. x - y) (mask-has n r b) (mask-has n s (omega (arith, sub_le s r h)))) ∙ mask-rest n (has r) (has s) (sub-has n s r h b) in
    ap (λ x. bit x + bit (has s i)) (ap (λ m. has m i) e ∙ has-mask n (λ i. has r i && not (has s i)) i l)
    ∙ one (has r i) (has s i) (sub-has n s r h b i l)
  where
    one : (a b : Bool) → (T b → T a) → bit (a && not b) + bit b ≡ bit a
    one true true f = refl
    one true false f = refl
    one false true f = absurd (f tt)
    one false false f = refl

-- ---- what two sets share: it is within both, and what is within both is within it

pub meet_left : (a b : ℕ) → Sub (bit_and a b) a
meet_left a b = subst (λ x. Sub x a) (and_comm b a) (sub_and b a)

lt_pow : (n : ℕ) → n < 2 ^ n
lt_pow zero = omega arith
lt_pow (suc n) = omega (arith, lt_pow n)

pub sub_meet : (u a b : ℕ) → Sub u a → Sub u b → Sub u (bit_and a b)
sub_meet u a b h k =
    let n = a + b in
    let l : a + b < 2 ^ n = lt_pow n in
    subst₂ Sub (mask-has n u (omega (arith, sub_le u a h)))
    (sym (mask_and n (has a) (has b)) ∙ ap₂ bit_and (mask-has n a (omega arith)) (mask-has n b (omega arith)))
    (sub-mask n (has u) (λ i. has a i && has b i)
    (λ i m t. both (has a i) (has b i) (sub-has n u a h (omega arith) i m t) (sub-has n u b k (omega arith) i m t)))

-- ---- just one index below m passes: the lowest that does

pub lowest_only : (m : ℕ) (p : ℕ → Bool) → sum m (λ j. bit (p j)) ≡ 1 → (lowest m p < m) × ((j : ℕ) → j < m → eqb (suc (lowest m p)) (suc j) ≡ p j)
lowest_only m p e = let (s, a, b, same) = sum_one m (λ j. bit (p j)) (λ j l. bit_le (p j)) e in at s a b same
  where
    bit_same : (a b : Bool) → bit a ≡ bit b → b ≡ a
    bit_same true true e = refl
    bit_same true false e = absurd (omega arith)
    bit_same false true e = absurd (omega arith)
    bit_same false false e = refl

    at : (s : ℕ) → 1 ≤ s → s ≤ m → ((t : ℕ) → t < m → bit (p t) ≡ bit (eqb s (suc t)))
        → (lowest m p < m) × ((j : ℕ) → j < m → eqb (suc (lowest m p)) (suc j) ≡ p j)
    at zero a b same = absurd (omega arith)
    at (suc k) a b same =
        let is : (j : ℕ) → j < m → eqb (suc k) (suc j) ≡ p j = λ j l. bit_same (p j) (eqb (suc k) (suc j)) (same j l) in
        let found : lowest m p ≡ k =
        lowest-found m p k b (none_i k p (λ j l t. omega (arith, eqb→eq (suc k) (suc j) (subst T (sym (is j (omega arith))) t))))
        (sym (is k b) ∙ eq-eqb (suc k) (suc k) refl) in
        (omega arith, λ j l. ap (λ x. eqb (suc x) (suc j)) found ∙ is j l)

-- ---- the code's test of a position, `(m >> i) & 1 == 1`

pub bit_test : (m i : ℕ) → eqb (bit_and (m / 2 ^ i) 1) 1 ≡ has m i
unfolding has
bit_test m i = ap (λ x. eqb x 1) (and_mask (m / 2 ^ i) 1)
