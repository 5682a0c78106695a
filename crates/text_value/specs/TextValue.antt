-- What checking a text, and valuing a row for the day of a text, come to.
-- Assumes nothing.
use Rattle.std.specs.Prelude.{List, ℕ, get_or}
use Rattle.model.specs.Model.{Yard, Outcome}
use Rattle.day.specs.Answer.{Answer, gives, refuses}
use Rattle.day.specs.declared.Limits.{Limits}
use Rattle.valuing.specs.Valuing.{valued}
use Rattle.telling.specs.Telling.{for_day}

-- checking a text: the line of a refusal, 0 where the text is a day file

abbrev pub line : Answer Yard → ℕ
line (gives y) = 0
line (refuses k carries) = get_or carries 0 0

-- valuing a row: on the day of the text
unfoldable pub value_text : Limits → List ℕ → List ℕ → ℕ → Answer Outcome
value_text l text row size = for_day l text size λ y. valued l y row
