-- Each answer of valuing a row for a text, from what the code has found.
-- Assumes nothing.
use Rattle.std.specs.Prelude.{◌≡◌, refl, true, false, List, ℕ, leb, length, Result, Ok, Err}
use Rattle.std.proofs.Common.{ap, ◌∙◌}
use Rattle.model.specs.Model.{Yard, Outcome}
use Rattle.day.specs.Answer.{Answer, code, on_given, judged}
use Rattle.day.specs.declared.Limits.{Limits}
use Rattle.day.specs.declared.Refusal.{Refusal}
use Rattle.refusals.specs.Numbers.{verdict_number, judged-number}
use Rattle.valuing.specs.Valuing.{valued}
use Rattle.dayfile.specs.Reading.{read_day}
use Rattle.telling.specs.Telling.{number_count, numbers_after, verdict_line}
use Rattle.telling.specs.Laws.{Told, told_after, none_told}
use Rattle.text_value.specs.TextValue.{line, value_text}

module _ (l : Limits) (text numbers : List ℕ) where
  pub no_value : (row : List ℕ) → leb number_count (length numbers) ≡ false → (10 ≡ code (value_text l text row (length numbers))) × (numbers ≡ numbers_after (value_text l text row (length numbers)) numbers)
  unfolding value_text
  no_value row h = (rw h, none_told _ numbers h)

  pub told-value : (row : List ℕ) {a : Answer Outcome} {said : ℕ} {after : List ℕ} → leb number_count (length numbers) ≡ true → on_given (read_day l text) (λ y. valued l y row) ≡ a → Told numbers a said after
      → (said ≡ code (value_text l text row (length numbers))) × (after ≡ numbers_after (value_text l text row (length numbers)) numbers)
  unfolding value_text
  told-value row h e t = (rw (h, e) t.says, rw (h, e) (told_after h t))

-- the line of a verdict is that of the answer that it makes, whatever stands beside it
pub judged-line : (v : Result Unit Refusal) (y : Yard) → verdict_line v ≡ line (judged v y)
judged-line (Ok u) y = refl
judged-line (Err r) y = refl

-- so what a check tells, from what reading answers
module _ (v : Result Unit Refusal) (y : Yard) (a : Answer Yard) where
  pub told_code : judged v y ≡ a → verdict_number v ≡ code a
  told_code e = judged-number v y ∙ ap code e

  pub told_line : judged v y ≡ a → verdict_line v ≡ line a
  told_line e = judged-line v y ∙ ap line e
