-- What yard-plan prints for a text (document 01, "The program"): the plan file of the best row; on refusals 1 to 7, 15 and 16 two lines,
-- names and values, and on 9 two lines with the interval and its trains. This file is what a reader must believe of the program.
-- Assumes nothing.
use Rattle.std.specs.Prelude.{List, [], ℕ, length}
use Rattle.std.proofs.Math.Option.{Option}
use Rattle.model.specs.Model.{Yard}
use Rattle.model.specs.BestOf.{best_of}
use Rattle.day.specs.Answer.{Answer, gives, refuses}
use Rattle.day.specs.declared.Limits.{Limits}
use Rattle.output.specs.Output.{writes, leaves}
use Rattle.output.specs.Laws.{Filled, filled}
use Rattle.dayfile.specs.Reading.{read_day}
use Rattle.refusal_text.specs.RefusalText.{refusal_text}
use Rattle.planning.specs.Planning.{best_row}
use Rattle.planfile.specs.PlanText.{plan_text}

-- ---- what is printed for an answer: by what it gives, or the two lines of the refusal

abbrev pub reply_by : {X : Type 0} → (X → List ℕ) → Answer X → List ℕ
reply_by print (gives x) = print x
reply_by print (refuses k carries) = refusal_text k carries

-- a sound day: the plan file of its best row, or planning's refusal
abbrev pub day_reply : Yard → Option (List ℕ) → List ℕ
day_reply y best = reply_by (plan_text y) (best_row y best)

-- a text: the reply to its day, by the row that is found for it, or reading's refusal
abbrev pub found_reply : (Yard → Option (List ℕ)) → Answer Yard → List ℕ
found_reply find = reply_by λ y. day_reply y (find y)

abbrev pub reply : Answer Yard → List ℕ
reply = found_reply best_of

unfoldable pub answer_text : Limits → List ℕ → List ℕ
answer_text l text = reply (read_day l text)

-- ---- the call: the answer is written into the output, with no check before

abbrev pub answer_writes : Limits → List ℕ → ℕ → Answer ℕ
answer_writes l text size = writes [] (answer_text l text) size

abbrev pub answer_leaves : Limits → List ℕ → List ℕ → List ℕ
answer_leaves l text out = leaves [] (answer_text l text) out

pub answer-filled : (l : Limits) (text out : List ℕ) → Filled (answer_text l text) out (answer_writes l text (length out)) (answer_leaves l text out)
answer-filled l text out = filled [] (answer_text l text) out
