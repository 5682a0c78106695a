-- What yard-plan prints for a refusal (document 01, "The program"): two lines, the names of its values and its number before them. This file
-- is what a reader must believe of it.
-- Assumes nothing.
use Rattle.std.specs.Prelude.{cond, List, ◌∷◌, ◌++◌, ℕ, eqb}
use Rattle.lines.specs.Lines.{ascii, row_text}

unfoldable pub line_names : List ℕ
line_names = ascii "refusal line\n"

unfoldable pub interval_names : List ℕ
interval_names = ascii "refusal first last trains\n"

unfoldable pub refusal_text : ℕ → List ℕ → List ℕ
refusal_text k carries = cond (eqb k 9) interval_names line_names ++ row_text (k ∷ carries)
