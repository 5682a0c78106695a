-- How many bytes a row of values has, and the greatest number of them for values within ranges.
-- Assumes nothing.
use Rattle.std.specs.Prelude.{◌≡◌, refl, List, [], ◌∷◌, ℕ, zero, suc, ◌+◌, ◌/◌, ◌^◌, ◌≤◌, ◌<◌, length}
use Rattle.std.proofs.Common.{⊎_elim, le_refl, arith, length-append}
use Rattle.fold.specs.Counting.{le_or_lt}
use Rattle.day.specs.Sound.{Range}
use Rattle.day.specs.SoundLaws.{Within}
use Rattle.decimal.specs.Decimal.{digits}
use Rattle.decimal.specs.Laws.{length_one, length_more}
use Rattle.lines.specs.Lines.{field_text, row_text}

-- ---- the digits of a value

some_digit : (v : ℕ) → 1 ≤ length (digits v)
some_digit v = ⊎_elim (λ h. omega (arith, length_more v h)) (λ h. omega (arith, length_one v h)) (le_or_lt 10 v)

-- a value has at most as many as a greater one
digits-within : (k v u : ℕ) → u ≤ k → v ≤ u → length (digits v) ≤ length (digits u)
digits-within zero v u h g = omega (arith, length_one v (omega arith), some_digit u)
digits-within (suc k) v u h g =
    ⊎_elim
    (λ b. omega (arith, length_more v b, length_more u (omega arith), digits-within k (v / 10) (u / 10) (omega arith) (omega arith)))
    (λ b. omega (arith, length_one v b, some_digit u))
    (le_or_lt 10 v)

pub digits_rise : (v u : ℕ) → v ≤ u → length (digits v) ≤ length (digits u)
digits_rise v u = digits-within u v u (le_refl u)

ten_pow : (k : ℕ) → 1 ≤ 10 ^ k
ten_pow zero = omega arith
ten_pow (suc k) = omega (arith, ten_pow k)

-- a value from 10 ^ k to below 10 ^ (k + 1) has k + 1
pub digits_size : (k v : ℕ) → 10 ^ k ≤ v → v < 10 ^ suc k → length (digits v) ≡ suc k
digits_size zero v h g = length_one v (omega arith)
digits_size (suc k) v h g =
    omega (arith, length_more v (omega (arith, ten_pow k)), digits_size k (v / 10) (omega arith) (omega arith))

-- ---- the bytes of a row: for each value its digits and the byte after it

pub field-length : (v e : ℕ) → length (field_text v e) ≡ length (digits v) + 1
field-length v e = length-append (digits v) (e ∷ [])

pub row-length : (v w : ℕ) (vs : List ℕ) → length (row_text (v ∷ w ∷ vs)) ≡ length (field_text v 32) + length (row_text (w ∷ vs))
unfolding row_text
row-length v w vs = length-append (field_text v 32) (row_text (w ∷ vs))

unfoldable pub in_row : List ℕ → ℕ
in_row [] = 0
in_row (v ∷ values) = length (digits v) + 1 + in_row values

pub row_bytes : (values : List ℕ) → length (row_text values) ≡ in_row values
unfolding row_text in_row
row_bytes [] = refl
row_bytes (v ∷ []) = omega (arith, field-length v 10)
row_bytes (v ∷ u ∷ values) = omega (arith, row-length v u values, field-length v 32, row_bytes (u ∷ values))

-- ---- the most of them, for values within ranges

unfoldable pub most_in_row : List Range → ℕ
most_in_row [] = 0
most_in_row (r ∷ ranges) = length (digits r.greatest) + 1 + most_in_row ranges

most : (ranges : List Range) (values : List ℕ) → length values ≡ length ranges → Within ranges values → in_row values ≤ most_in_row ranges
unfolding in_row most_in_row
most [] [] e w = omega arith
most [] (v ∷ values) e w = absurd (omega arith)
most (r ∷ ranges) [] e w = omega arith
most (r ∷ ranges) (v ∷ values) e w = omega (arith, digits_rise v r.greatest w.0.1, most ranges values (omega arith) w.1)

pub row_size : (ranges : List Range) (values : List ℕ) → length values ≡ length ranges → Within ranges values → length (row_text values) ≤ most_in_row ranges
row_size ranges values e w = omega (arith, row_bytes values, most ranges values e w)
