-- The two lines of a refusal, as the code tells it, and how long they can be.
-- Assumes nothing.
use Rattle.std.specs.Prelude.{◌≡◌, refl, [], ◌∷◌, ◌++◌, ℕ, ◌≤◌, eqb, length}
use Rattle.std.proofs.Math.Path.{sym, ap}
use Rattle.std.proofs.Common.{◌∙◌, zero-le, arith, length-append, ne_eqb}
use Rattle.std.proofs.Math.Bool.{cond}
use Rattle.day.specs.Answer.{number, carried}
use Rattle.day.specs.Sound.{Range, range}
use Rattle.day.specs.declared.Refusal.{Refusal}
use Rattle.refusals.specs.Numbers.{Tells, carried-values}
use Rattle.refusals.specs.declared.Numbered.{Numbered}
use Rattle.lines.specs.Lines.{row_text}
use Rattle.lines.specs.RowSize.{most_in_row, digits_size, row_size}
use Rattle.refusal_text.specs.RefusalText.{line_names, interval_names, refusal_text}

-- no refusal is longer
abbrev pub refusal_bytes : ℕ
refusal_bytes = 110

module _ (r : Refusal) (t : Numbered) (tells : Tells (number r) (carried r) t) where
  pub nine_lines : t.number ≡ 9 → refusal_text (number r) (carried r) ≡ interval_names ++ row_text (9 ∷ t.first ∷ t.second ∷ t.third ∷ [])
  unfolding refusal_text
  nine_lines e =
      let nine : number r ≡ 9 = sym tells.number ∙ e in
      ap (λ v. cond (eqb (number r) 9) interval_names line_names ++ row_text (number r ∷ v)) (carried-values r)
      ∙ rw (nine, tells.first, tells.second, tells.third)

  pub other_lines : (t.number ≡ 9 → ⊥) → refusal_text (number r) (carried r) ≡ line_names ++ row_text (t.number ∷ t.first ∷ [])
  unfolding refusal_text
  other_lines h =
      ap (λ v. cond (eqb (number r) 9) interval_names line_names ++ row_text (number r ∷ v)) (carried-values r)
      ∙ rw (ne_eqb (number r) 9 (λ e. h (tells.number ∙ e)), tells.number, tells.first)

-- they hold numbers of 64 bits
abbrev word : Range
word = range 0 18446744073709551615

word-digits : most_in_row (word ∷ []) ≤ 21
unfolding most_in_row
word-digits = omega (arith, digits_size 19 18446744073709551615 (omega arith) (omega arith))

abbrev pub Word : ℕ → Type 0
Word v = v ≤ 18446744073709551615

pub nine_fits : (a b c : ℕ) → Word a → Word b → Word c → length (interval_names ++ row_text (9 ∷ a ∷ b ∷ c ∷ [])) ≤ refusal_bytes
unfolding interval_names most_in_row
nine_fits a b c h i j =
    omega (
      arith,
      length-append interval_names (row_text (9 ∷ a ∷ b ∷ c ∷ [])),
      row_size (word ∷ word ∷ word ∷ word ∷ []) (9 ∷ a ∷ b ∷ c ∷ []) refl ((zero-le, omega arith), ((zero-le, h), ((zero-le, i), ((zero-le, j), tt)))),
      word-digits,
    )

pub other_fits : (k a : ℕ) → Word k → Word a → length (line_names ++ row_text (k ∷ a ∷ [])) ≤ refusal_bytes
unfolding line_names most_in_row
other_fits k a h i =
    omega (
      arith,
      length-append line_names (row_text (k ∷ a ∷ [])),
      row_size (word ∷ word ∷ []) (k ∷ a ∷ []) refl ((zero-le, h), ((zero-le, i), tt)),
      word-digits,
    )
