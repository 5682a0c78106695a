-- Subsets: `Sub u r` says that each digit of u is one of r. What is left of r without u, and the walk `(s - 1) & r`, which comes by
-- every subset of r in falling order: a subset, smaller, and no subset lies between.
-- Assumes nothing.
use Rattle.std.specs.Prelude.{◌≡◌, Bool, ◌&&◌, ℕ, ◌+◌, ◌-◌, ◌/◌, ◌%◌, ◌≤◌, ◌<◌, T, eqb}
use Rattle.std.proofs.Common.{sym, ap, ◌∙◌, subst, ⊎_elim, arith, eq-zero-or-pos}
use Rattle.std.proofs.Math.Arith.{bin_ind}
use Rattle.std.specs.Int.Count.{ones, ones_step}
use Rattle.std.proofs.lemmas.Nat.{ones-le, or_comm, and_le_l, and_le_r}
use Rattle.std.specs.Int.Bits.{bit_and, bit_or, and_step, or_step, and_zero_l, and_self}
use Rattle.fold.specs.Test.{same_test_lem, both, both_of}
use Rattle.sets.specs.Mask.{mask, mask_and, mask_ext}

-- ---- definitions

abbrev pub Sub : ℕ → ℕ → Type 0
Sub u r = bit_and u r ≡ u

abbrev pub subset : ℕ → ℕ → Bool
subset u r = eqb (bit_and u r) u

-- the next smaller subset of r after s
abbrev pub walk : ℕ → ℕ → ℕ
walk s r = bit_and (s - 1) r

-- ---- subsets

pub sub_le : (u r : ℕ) → Sub u r → u ≤ r
sub_le u r h = omega (arith, and_le_r u r)

pub sub_refl : (r : ℕ) → Sub r r
sub_refl r = and_self r

pub sub_zero : (r : ℕ) → Sub 0 r
sub_zero r = and_zero_l r

-- the lowest digit and the others
sub_half : (u r : ℕ) → Sub u r → Sub (u / 2) (r / 2)
sub_half u r h = omega (arith, and_step u r)

sub_low : (u r : ℕ) → Sub u r → u % 2 ≤ r % 2
sub_low u r h = omega (arith, and_step u r)

sub_join : (u r : ℕ) → Sub (u / 2) (r / 2) → u % 2 ≤ r % 2 → Sub u r
sub_join u r h l = omega (arith, and_step u r)

-- what is in a and in r is a subset of r
pub sub_and : (a r : ℕ) → Sub (bit_and a r) r
sub_and a =
    bin_ind (λ (n : ℕ). (r : ℕ) → Sub (bit_and n r) r) (λ r. sub_zero 0)
    (λ n ih r.
    let half : bit_and n r / 2 ≡ bit_and (n / 2) (r / 2) = omega (arith, and_step n r) in
    sub_join (bit_and n r) r (subst (λ (x : ℕ). Sub x (r / 2)) (sym half) (ih (r / 2))) (omega (arith, and_step n r)))
    a

pub sub_trans : (u s r : ℕ) → Sub u s → Sub s r → Sub u r
sub_trans u =
    bin_ind (λ (n : ℕ). (s r : ℕ) → Sub n s → Sub s r → Sub n r) (λ s r h k. sub_zero r)
    (λ n ih s r h k. sub_join n r (ih (s / 2) (r / 2) (sub_half n s h) (sub_half s r k)) (omega (arith, sub_low n s h, sub_low s r k)))
    u

-- what is within one of two sets is within both together
pub sub_or_left : (u a b : ℕ) → Sub u a → Sub u (bit_or a b)
sub_or_left u =
    bin_ind (λ (n : ℕ). (a b : ℕ) → Sub n a → Sub n (bit_or a b)) (λ a b h. sub_zero (bit_or a b))
    (λ n ih a b h.
    let half : bit_or a b / 2 ≡ bit_or (a / 2) (b / 2) = omega (arith, or_step a b) in
    sub_join n (bit_or a b) (subst (λ (x : ℕ). Sub (n / 2) x) (sym half) (ih (a / 2) (b / 2) (sub_half n a h))) (omega (arith, or_step a b, sub_low n a h)))
    u

pub sub_or_right : (u a b : ℕ) → Sub u b → Sub u (bit_or a b)
sub_or_right u a b h = subst (Sub u) (or_comm b a) (sub_or_left u b a h)

-- a test that passes only where another does has a subset of its mask
pub sub-mask : (n : ℕ) (p q : ℕ → Bool) → ((i : ℕ) → i < n → T (p i) → T (q i)) → Sub (mask n p) (mask n q)
sub-mask n p q h =
    mask_and n p q
    ∙ mask_ext n (λ i. p i && q i) p
    (λ i l. same_test_lem (p i && q i) (p i) (λ t. (both_of (p i) (q i) t).0) (λ t. both (p i) (q i) t (h i l t)))

-- ---- what is left when a subset goes: a subset too, with no digit of it, and the two make up the whole

half_rest : (u r : ℕ) → Sub u r → (r - u) / 2 ≡ r / 2 - u / 2
half_rest u r h = omega (arith, sub_low u r h, sub_le (u / 2) (r / 2) (sub_half u r h))

pub sub-rest : (u r : ℕ) → Sub u r → Sub (r - u) r
sub-rest u =
    bin_ind (λ (n : ℕ). (r : ℕ) → Sub n r → Sub (r - n) r)
    (λ r h. subst (λ (x : ℕ). Sub x r) (omega arith) (sub_refl r))
    (λ n ih r h.
    sub_join (r - n) r (subst (λ (x : ℕ). Sub x (r / 2)) (sym (half_rest n r h)) (ih (r / 2) (sub_half n r h)))
    (omega (arith, sub_low n r h, sub_le (n / 2) (r / 2) (sub_half n r h))))
    u

-- where a part and what it leaves are within a set, the whole is
pub sub_parts : (u r o : ℕ) → Sub u r → Sub u o → Sub (r - u) o → Sub r o
sub_parts u =
    bin_ind (λ (n : ℕ). (r o : ℕ) → Sub n r → Sub n o → Sub (r - n) o → Sub r o)
    (λ r o h k m. subst (λ (x : ℕ). Sub x o) (omega arith) m)
    (λ n ih r o h k m.
    sub_join r o
    (ih (r / 2) (o / 2) (sub_half n r h) (sub_half n o k) (subst (λ (x : ℕ). Sub x (o / 2)) (half_rest n r h) (sub_half (r - n) o m)))
    (omega (arith, sub_low n r h, sub_low n o k, sub_low (r - n) o m, sub_le (n / 2) (r / 2) (sub_half n r h))))
    u

-- each position of r is in u or in what u leaves
pub ones_rest : (u r : ℕ) → Sub u r → ones (r - u) + ones u ≡ ones r
ones_rest u =
    bin_ind (λ (n : ℕ). (r : ℕ) → Sub n r → ones (r - n) + ones n ≡ ones r)
    (λ r h.
    let whole : r - 0 ≡ r = omega arith in
    omega (arith, ap ones whole, ones-le 0 0 (omega arith)))
    (λ n ih r h.
    let rest : ones ((r - n) / 2) ≡ ones (r / 2 - n / 2) = ap ones (half_rest n r h) in
    omega (arith, rest, ih (r / 2) (sub_half n r h), ones_step (r - n), ones_step n, ones_step r, sub_low n r h, sub_le (n / 2) (r / 2) (sub_half n r h)))
    u

-- ---- the walk

pub walk-sub : (s r : ℕ) → Sub (walk s r) r
walk-sub s r = sub_and (s - 1) r

pub walk_lt : (s r : ℕ) → 0 < s → walk s r < s
walk_lt s r p = omega (arith, and_le_l (s - 1) r)

-- no subset of r lies between the walk's next one and s
pub walk-next : (s r u : ℕ) → Sub s r → Sub u r → u < s → u ≤ walk s r
walk-next s =
    bin_ind (λ (n : ℕ). (r u : ℕ) → Sub n r → Sub u r → u < n → u ≤ walk n r)
    (λ r u hs hu l. absurd (omega arith))
    (λ n ih r u hs hu l. step n r u (ih (r / 2) (u / 2) (sub_half n r hs) (sub_half u r hu)) hs hu l)
    s
  where
    step : (n r u : ℕ) → (u / 2 < n / 2 → u / 2 ≤ walk (n / 2) (r / 2)) → Sub n r → Sub u r → u < n → u ≤ walk n r
    step n r u ih hs hu l =
        ⊎_elim
        (λ (even : n % 2 ≡ 0).
        let half : (n - 1) / 2 ≡ n / 2 - 1 = omega arith in
        let rest : bit_and ((n - 1) / 2) (r / 2) ≡ walk (n / 2) (r / 2) = ap (λ (x : ℕ). bit_and x (r / 2)) half in
        let low : u / 2 ≤ walk (n / 2) (r / 2) = ih (omega arith) in
        omega (arith, and_step (n - 1) r, sub_low u r hu))
        (λ (odd : 0 < n % 2).
        let half : (n - 1) / 2 ≡ n / 2 = omega arith in
        let rest : bit_and ((n - 1) / 2) (r / 2) ≡ n / 2 = ap (λ (x : ℕ). bit_and x (r / 2)) half ∙ sub_half n r hs in
        omega (arith, and_step (n - 1) r))
        (eq-zero-or-pos (n % 2))
