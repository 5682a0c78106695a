-- What the two calls of order 1 of document 02 (its yardsticks) answer, for any record and any areas: planning's refusals 8, 10, 9 and 16,
-- then 14 with the lowest position that is left without a slot, then 14 with 0 where a group is parted, else the four numbers of the
-- procedure's row and the saving.
-- Assumes nothing.
use Rattle.std.specs.Prelude.{List, ℕ}
use Rattle.model.specs.Model.{Yard}
use Rattle.day.specs.Answer.{Answer, on_given}
use Rattle.day.specs.declared.Limits.{Limits}
use Rattle.planning.specs.Planning.{cost_words, choice_words, planned, begins, open_words}
use Rattle.procedures.specs.Procedures.{first_come, myopic}
use Rattle.comparing.specs.Comparing.{Comparison, against}
use Rattle.baselines.specs.declared.Procedure.{Procedure}
use Rattle.baselines.specs.declared.Procedure.TheVariants.{FirstCome, Myopic}

-- the row of slots that a procedure gives
abbrev pub row_by : Procedure → Yard → List ℕ
row_by FirstCome y = first_come y
row_by Myopic y = myopic y

-- ---- the answer

-- planning is lent the two areas; no row is lent, so none is too short
unfoldable pub compared : Limits → Yard → List ℕ → ℕ → ℕ → Answer Comparison
compared l y row costs choices = on_given (planned l y costs choices y.trains) λ best. against y row best.cost

-- ---- lent memory: of the areas only the words that planning needs may change, and none where 8 or 10 is given

abbrev pub open_costs : Limits → Yard → ℕ → ℕ → ℕ
open_costs l y costs choices = open_words (begins l y costs choices y.trains) (cost_words y)

abbrev pub open_choices : Limits → Yard → ℕ → ℕ → ℕ
open_choices l y costs choices = open_words (begins l y costs choices y.trains) (choice_words y)
