-- The laws that the proofs of the answer cite: what planning answers on a sound long day, in the terms of answering's laws, and the answer to
-- a text from what reading has answered.
-- Assumes nothing.
use Rattle.std.specs.Prelude.{◌≡◌, refl, List, ℕ, ◌≤◌, T, length}
use Rattle.std.proofs.Common.{sym, ◌∙◌, arith}
use Rattle.std.proofs.Math.Path.{ap}
use Rattle.std.proofs.Math.Option.{Option, none, some}
use Rattle.model.specs.Model.{Yard, Outcome, allowed}
use Rattle.model.specs.Overbooked.{Interval, first_overbooked}
use Rattle.day.specs.Answer.{Answer, gives, refuses, on_given, number, carried}
use Rattle.day.specs.Sound.{sound}
use Rattle.day.specs.declared.Refusal.{Refusal}
use Rattle.dayfile.specs.Reading.{read_day}
use Rattle.planning.specs.Planning.{no_row, best_answer, placed}
use Rattle.planning.proofs.Answers.{none_answer}
use Rattle.refusal_text.specs.RefusalText.{refusal_text}
use Rattle.answering.specs.Answering.{day_reply, found_reply}
use Rattle.long_day.specs.LongDay.{long_limits}
use Rattle.long_planning.specs.LongPlanning.{LongOutcome, found_answer, long_planned, long_row_after}
use Rattle.long_planning.proofs.Promised.{found-allowed, long_planned_lem, long_row_lem}
use Rattle.long_answering.specs.LongAnswering.{long_width, long_row, long_answer_text}

-- ---- a sound long day

-- the numbers of the row, without the number of full slots and the lower figure
abbrev pub row_answer : Answer LongOutcome → Answer Outcome
row_answer a = on_given a λ o. gives o.row

row-answer : (y : Yard) (found : Option (List ℕ)) → row_answer (found_answer y long_width found) ≡ best_answer y found
row-answer y (some row) = refl
row-answer y none = go (first_overbooked y) ∙ sym (none_answer y)
  where
    go : (w : Option Interval) → row_answer (no_row y w) ≡ no_row y w
    go none = refl
    go (some w) = refl

module _ (y : Yard) (is_sound : T (sound long_limits y)) where
  pub row_said : (bytes : ℕ) → y.trains ≤ bytes → {said : Answer LongOutcome} → said ≡ long_planned long_limits y long_width bytes
      → row_answer said ≡ best_answer y (long_row y)
  row_said bytes long e = ap row_answer (e ∙ long_planned_lem y long_width is_sound (omega arith) (omega arith) bytes long) ∙ row-answer y (long_row y)

  pub row_left : (row : List ℕ) → y.trains ≤ length row → {after : List ℕ} → after ≡ long_row_after long_limits y long_width row → after ≡ placed (long_row y) row
  row_left row long e = e ∙ long_row_lem y long_width is_sound (omega arith) (omega arith) row long

  pub row-allowed : (row : List ℕ) → long_row y ≡ some row → T (allowed y row)
  row-allowed = found-allowed y long_width is_sound (omega arith)

-- ---- the answer to a text, from what reading has answered

module _ (text : List ℕ) where
  pub refused_answer : (r : Refusal) → refuses (number r) (carried r) ≡ read_day long_limits text → refusal_text (number r) (carried r) ≡ long_answer_text text
  unfolding long_answer_text
  refused_answer r e = ap (found_reply long_row) e

  pub accepted_answer : (y : Yard) → gives y ≡ read_day long_limits text → day_reply y (long_row y) ≡ long_answer_text text
  unfolding long_answer_text
  accepted_answer y e = ap (found_reply long_row) e
