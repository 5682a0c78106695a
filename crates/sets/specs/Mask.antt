-- Sets of positions as numbers: position i, counted from 0, is in the set m where the binary digit i of m is 1. The mask of a
-- test, its digits, its ones, and what union and intersection are on masks. (01: the set number of a slot is the mask of its trains.)
-- Assumes nothing.
use Rattle.std.specs.Prelude.{◌≡◌, refl, Bool, true, false, ◌&&◌, ◌||◌, cond, eqb}
use Rattle.std.proofs.Math.Path.{sym, ap₂}
use Rattle.std.proofs.Common.{ap, ◌∙◌, subst, ⊎_elim, le_of_suc-le-suc, not-suc-le-zero, eq-or-lt_of_le, add_comm, zero-add, one-mul, zero-mul, mul_assoc, mul_comm, pow-suc, mod-lt, mod-eq_of_lt, add-one, arith, lit<, pow_pos, pow-add, shr_lt}
use Prim.Native.Nat.{ℕ, zero, suc, ◌+◌, ◌-◌, ◌*◌, ◌/◌, ◌%◌, ◌^◌, ◌<◌}
use Rattle.std.proofs.Math.Nat.{mul-add-div_right, mul-add-mod_self_right}
use Rattle.std.proofs.Math.Arith.{lt-one, digits_lt}
use Rattle.std.proofs.Math.Pow.{pow-lt, high, split}
use Rattle.std.specs.Int.Bits.{bit_and, bit_or, or_shifted_r}
use Rattle.std.proofs.lemmas.Nat.{and_block, or_block, ones_cat}
use Rattle.std.specs.Int.Count.{ones}
use Rattle.fold.specs.Fold.{bit, sum, count}

-- ---- definitions

-- position i is in the set m
unfoldable pub has : ℕ → ℕ → Bool
has m i = eqb (m / 2 ^ i % 2) 1

-- the set of the positions below n that pass the test
unfoldable pub mask : ℕ → (ℕ → Bool) → ℕ
unfolding sum
mask n p = sum n λ i. cond (p i) (2 ^ i) 0

-- ---- the highest position, and the set below it

scaled : (b : Bool) (x : ℕ) → cond b x 0 ≡ bit b * x
scaled true x = sym (one-mul x)
scaled false x = sym (zero-mul x)

pub mask_suc : (n : ℕ) (p : ℕ → Bool) → mask (suc n) p ≡ bit (p n) * 2 ^ n + mask n p
unfolding mask
mask_suc n p = add_comm (mask n p) (cond (p n) (2 ^ n) 0) ∙ ap (λ x. x + mask n p) (scaled (p n) (2 ^ n))

bit_lt : (b : Bool) → bit b < 2
bit_lt true = lit< tt
bit_lt false = lit< tt

pub mask_lt : (n : ℕ) (p : ℕ → Bool) → mask n p < 2 ^ n
unfolding mask
mask_lt zero p = lit< tt
mask_lt (suc n) p =
    rw mask_suc
    (subst (λ x. bit (p n) * 2 ^ n + mask n p < x) (mul_comm 2 (2 ^ n) ∙ sym (pow-suc 2 n)) (digits_lt (bit_lt (p n)) (mask_lt n p)))

-- ---- a mask's digits are the test's answers

-- a digit below the top one does not see what stands above
below : (b r i m : ℕ) → (b * 2 ^ (suc m + i) + r) / 2 ^ i % 2 ≡ r / 2 ^ i % 2
below b r i m =
    ap (λ x. (b * x + r) / 2 ^ i % 2) (pow-add 2 (suc m) i ∙ ap (λ x. x * 2 ^ i) (pow-suc 2 m))
    ∙ ap (λ x. (x + r) / 2 ^ i % 2) (sym (mul_assoc b (2 ^ m * 2) (2 ^ i)))
    ∙ ap (λ x. x % 2) (mul-add-div_right (pow_pos i) (b * (2 ^ m * 2)) r)
    ∙ ap (λ x. (x + r / 2 ^ i) % 2) (sym (mul_assoc b (2 ^ m) 2))
    ∙ mul-add-mod_self_right (b * 2 ^ m) 2 (r / 2 ^ i)

gap : (i n : ℕ) → i < n → n ≡ suc (n - suc i) + i
gap i n l = omega arith

has_below : (b n r i : ℕ) → i < n → has (b * 2 ^ n + r) i ≡ has r i
unfolding has
has_below b n r i l =
    ap (λ x. eqb ((b * 2 ^ x + r) / 2 ^ i % 2) 1) (gap i n l) ∙ ap (λ x. eqb x 1) (below b r i (n - suc i))

digit_is : (b : Bool) → eqb (bit b % 2) 1 ≡ b
digit_is true = refl
digit_is false = refl

has_top : (n : ℕ) (b : Bool) (r : ℕ) → r < 2 ^ n → has (bit b * 2 ^ n + r) n ≡ b
unfolding has
has_top n b r h = ap (λ x. eqb (x % 2) 1) (high (bit b) n h) ∙ digit_is b

pub has-mask : (n : ℕ) (p : ℕ → Bool) (i : ℕ) → i < n → has (mask n p) i ≡ p i
has-mask zero p i h = absurd (not-suc-le-zero h)
has-mask (suc n) p i h =
    ap (λ m. has m i) (mask_suc n p)
    ∙ ⊎_elim
    (λ e. subst (λ k. has (bit (p n) * 2 ^ n + mask n p) k ≡ p k) (sym e) (has_top n (p n) (mask n p) (mask_lt n p)))
    (λ l. has_below (bit (p n)) n (mask n p) i l ∙ has-mask n p i l)
    (eq-or-lt_of_le (le_of_suc-le-suc h))

-- tests that agree below n have equal masks, and the other way round
pub mask_ext : (n : ℕ) (p q : ℕ → Bool) → ((i : ℕ) → i < n → p i ≡ q i) → mask n p ≡ mask n q
unfolding mask
mask_ext zero p q e = refl
mask_ext (suc n) p q e =
    ap₂ (λ x b. x + cond b (2 ^ n) 0) (mask_ext n p q (λ i h. e i (omega arith))) (e n (omega arith))

pub mask_same : (n : ℕ) (p q : ℕ → Bool) → mask n p ≡ mask n q → (i : ℕ) → i < n → p i ≡ q i
mask_same n p q e i h = sym (has-mask n p i h) ∙ ap (λ m. has m i) e ∙ has-mask n q i h

-- a set is the mask of its digits
digit_bit : (q : ℕ) → q < 2 ^ 1 → bit (eqb (q % 2) 1) ≡ q
digit_bit zero h = refl
digit_bit (suc zero) h = refl
digit_bit (suc (suc q)) h = absurd (omega arith)

pub mask-has : (n m : ℕ) → m < 2 ^ n → mask n (has m) ≡ m
unfolding mask has
mask-has zero m h = sym (lt-one h)
mask-has (suc n) m h =
    mask_suc n (has m)
    ∙ ap₂ (λ x y. x * 2 ^ n + y) (digit_bit (m / 2 ^ n) (shr_lt 1 n (subst (λ k. m < 2 ^ k) (sym (add_comm 1 n ∙ add-one n)) h)))
    (mask_ext n (has m) (has (m % 2 ^ n)) lower ∙ mask-has n (m % 2 ^ n) (mod-lt m (pow_pos n)))
    ∙ split m n
  where
    lower : (i : ℕ) → i < n → has m i ≡ has (m % 2 ^ n) i
    lower i l = ap (λ x. has x i) (sym (split m n)) ∙ has_below (m / 2 ^ n) n (m % 2 ^ n) i l

-- ---- the ones of a mask are the positions that pass

pub ones_mask : (n : ℕ) (p : ℕ → Bool) → ones (mask n p) ≡ count n p
unfolding mask ones count sum
ones_mask zero p = refl
ones_mask (suc n) p =
    ap ones (mask_suc n p) ∙ ones_cat n (bit (p n)) (mask n p) (mask_lt n p)
    ∙ add_comm (ones (bit (p n))) (ones (mask n p)) ∙ ap₂ (λ x y. x + y) (ones_mask n p) (ones_bit (p n))
  where
    ones_bit : (b : Bool) → ones (bit b) ≡ bit b
    ones_bit true = refl
    ones_bit false = refl

-- ---- intersection and union: one law for any operation that goes digit by digit

module _ (op : ℕ → ℕ → ℕ) (join : Bool → Bool → Bool) where
  mask_op : op 0 0 ≡ 0 → ((a b : Bool) → op (bit a) (bit b) ≡ bit (join a b))
      → ((k a b r s : ℕ) → r < 2 ^ k → s < 2 ^ k → op (a * 2 ^ k + r) (b * 2 ^ k + s) ≡ op a b * 2 ^ k + op r s)
      → (n : ℕ) (p q : ℕ → Bool) → op (mask n p) (mask n q) ≡ mask n λ i. join (p i) (q i)
  unfolding mask
  mask_op none digit block zero p q = none
  mask_op none digit block (suc n) p q =
      ap₂ op (mask_suc n p) (mask_suc n q)
      ∙ block n (bit (p n)) (bit (q n)) (mask n p) (mask n q) (mask_lt n p) (mask_lt n q)
      ∙ ap₂ (λ x y. x * 2 ^ n + y) (digit (p n) (q n)) (mask_op none digit block n p q)
      ∙ sym (mask_suc n λ i. join (p i) (q i))

pub mask_and : (n : ℕ) (p q : ℕ → Bool) → bit_and (mask n p) (mask n q) ≡ mask n λ i. p i && q i
mask_and = mask_op bit_and ◌&&◌ refl digit and_block
  where
    digit : (a b : Bool) → bit_and (bit a) (bit b) ≡ bit (a && b)
    digit true true = refl
    digit true false = refl
    digit false true = refl
    digit false false = refl

pub mask_or : (n : ℕ) (p q : ℕ → Bool) → bit_or (mask n p) (mask n q) ≡ mask n λ i. p i || q i
mask_or = mask_op bit_or ◌||◌ refl digit or_block
  where
    digit : (a b : Bool) → bit_or (bit a) (bit b) ≡ bit (a || b)
    digit true true = refl
    digit true false = refl
    digit false true = refl
    digit false false = refl

-- ---- a loop that sets the bit of each position that passes, in a word of w bits

pub mask_none : (p : ℕ → Bool) → mask 0 p ≡ 0
unfolding mask
mask_none p = refl

one_shl : (w k : ℕ) → k < w → 1 * 2 ^ k % 2 ^ w ≡ 1 * 2 ^ k
one_shl w k h = mod-eq_of_lt (omega (arith, pow-lt h))

pub mask-set : (w n : ℕ) (p : ℕ → Bool) → n < w → p n ≡ true → bit_or (mask n p) (1 * 2 ^ n % 2 ^ w) ≡ mask (n + 1) p
mask-set w n p l e =
    ap (bit_or (mask n p)) (one_shl w n l) ∙ or_shifted_r 1 n (mask n p) (mask_lt n p)
    ∙ sym (ap (λ k. mask k p) (add-one n) ∙ mask_suc n p ∙ ap (λ b. bit b * 2 ^ n + mask n p) e)

pub mask_pass : (n : ℕ) (p : ℕ → Bool) → p n ≡ false → mask n p ≡ mask (n + 1) p
mask_pass n p e =
    sym
    (ap (λ k. mask k p) (add-one n) ∙ mask_suc n p ∙ ap (λ b. bit b * 2 ^ n + mask n p) e
    ∙ ap (λ x. x + mask n p) (zero-mul (2 ^ n)) ∙ zero-add (mask n p))

-- ---- no position, every position, and the mask from its first position

pub mask_empty : (n : ℕ) (p : ℕ → Bool) → ((i : ℕ) → i < n → p i ≡ false) → mask n p ≡ 0
unfolding mask
mask_empty zero p e = refl
mask_empty (suc n) p e =
    ap₂ (λ x b. x + cond b (2 ^ n) 0) (mask_empty n p (λ i h. e i (omega arith))) (e n (omega arith))

pub mask_full : (n : ℕ) (p : ℕ → Bool) → ((i : ℕ) → i < n → p i ≡ true) → suc (mask n p) ≡ 2 ^ n
unfolding mask
mask_full zero p e = refl
mask_full (suc n) p e =
    let h = mask_full n p (λ i h. e i (omega arith)) in
    let s : mask (suc n) p ≡ mask n p + 2 ^ n = ap (λ b. mask n p + cond b (2 ^ n) 0) (e n (omega arith)) in
    omega arith
