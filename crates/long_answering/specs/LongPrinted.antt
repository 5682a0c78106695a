-- The theorem at the door of long days: what yard-long prints, in the model's own words. For every text it is one of three:
--     the plan file of the row that the beam search finds at width 30 on the long day that the text reads to, with the model's four numbers. The
--     row is allowed. No allowed row costs less than the day's lower figure, and where after no slot more merged partial plans than the width
--     remained, the row is the best of all allowed rows;
--     refusal 9 with the first overbooked interval of that day, which has no allowed row, and the number of trains bound inside;
--     a refusal, 1 to 7, with its line, where the text reads to no long day. It is never 15: a long day has no groups.
-- 16 is never printed either: a long day without an allowed row has an overbooked interval.
-- `long_answer_text` is what `answer_long_text` gives for the text (crates/long_answering/src/lib.rt) and what the program yard-long prints.
-- Assumes nothing.
use Rattle.std.specs.Prelude.{◌≡◌, List, [], ◌∷◌, ℕ, ◌≤◌, T}
use Rattle.std.proofs.Math.Path.{refl}
use Rattle.std.proofs.Common.{sym, ap, ◌∙◌, subst, arith}
use Rattle.std.proofs.Math.Option.{Option, none, some}
use Rattle.model.specs.Model.{Yard, outcome, cost, allowed, Best, SomeRow, NoRow, FirstOverbooked, bound_inside}
use Rattle.model.specs.Overbooked.{SaysFirst}
use Rattle.model.proofs.Overbooked.{first_says}
use Rattle.day.specs.Answer.{Answer, gives, refuses}
use Rattle.day.specs.AnswerLaws.{Only, gives_same}
use Rattle.day.specs.Sound.{sound}
use Rattle.dayfile.specs.Reading.{read_day}
use Rattle.dayfile.specs.RoundTrip.{read_sound}
use Rattle.dayfile.specs.Refused.{PlainRefusal, AtLine, read_ungrouped}
use Rattle.planning.specs.Planning.{no_row}
use Rattle.planfile.specs.PlanText.{plan_lines, plan_text}
use Rattle.refusal_text.specs.RefusalText.{refusal_text}
use Rattle.answering.specs.Answering.{reply_by, day_reply, found_reply}
use Rattle.beam.specs.Beam.{full_slots}
use Rattle.beam.specs.LowerFigure.{lower_figure}
use Rattle.long_day.specs.LongDay.{long_limits}
use Rattle.long_planning.proofs.Promised.{found-allowed, found_nowhere, found-lower, found-best, found_none}
use Rattle.long_answering.specs.LongAnswering.{long_width, long_row, long_answer_text}

-- what holds of the row that is printed
pub record Row (y : Yard) (row : List ℕ) : Type 0 where
  pub found : long_row y ≡ some row
  pub is_allowed : T (allowed y row)
  pub none_below : (other : List ℕ) → T (allowed y other) → lower_figure y ≤ cost y other
  pub best_if_none_full : full_slots y long_width ≡ 0 → Best y row

pub data LongPrinted (text bytes : List ℕ) : Type 0 where
  plan : (y : Yard) (row : List ℕ) → read_day long_limits text ≡ gives y → Row y row → bytes ≡ plan_lines y.trains y.numbers (outcome y row) row → LongPrinted text bytes
  overbooked : (y : Yard) (a b : ℕ) → read_day long_limits text ≡ gives y → NoRow y → FirstOverbooked y a b
      → bytes ≡ refusal_text 9 (a ∷ b ∷ bound_inside y a b ∷ []) → LongPrinted text bytes
  unread : (k line : ℕ) → 1 ≤ k → k ≤ 7 → 1 ≤ line → read_day long_limits text ≡ refuses k (line ∷ []) → ((y : Yard) → read_day long_limits text ≡ gives y → ⊥)
      → bytes ≡ refusal_text k (line ∷ []) → LongPrinted text bytes

module _ (text : List ℕ) where
  printed_day : (y : Yard) → read_day long_limits text ≡ gives y → (b : Option (List ℕ)) → long_row y ≡ b → LongPrinted text (day_reply y b)
  printed_day y r (some row) e = plan y row r (record {
    found = e;
    is_allowed = found-allowed y long_width is_sound (omega arith) row e;
    none_below = found-lower y long_width is_sound (omega arith);
    best_if_none_full = found-best y long_width is_sound (omega arith) row e;
  }) refl
    where
      is_sound : T (sound long_limits y)
      is_sound = read_sound long_limits text y r
  printed_day y r none e =
      let is_sound = read_sound long_limits text y r in
      let (w, f) = found_none y long_width is_sound (omega arith) e in
      overbooked y w.first w.last r (found_nowhere y long_width is_sound (omega arith) e) (subst (SaysFirst y) f (first_says y))
      (ap (λ i. reply_by (plan_text y) (no_row y i)) f)

  printed_by : (a : Answer Yard) → read_day long_limits text ≡ a → LongPrinted text (found_reply long_row a)
  printed_by (gives y) e = printed_day y e (long_row y) refl
  printed_by (refuses k carries) e =
      let (which, (line, (counted, is))) = subst (Only {X = Yard} (AtLine PlainRefusal)) e (read_ungrouped long_limits refl text) in
      unread k line which.0 which.1 counted (e ∙ ap (refuses k) is)
      (λ y g. let f : refuses k carries ≡ gives y = sym e ∙ g in let z : ◌≡◌ {A = ℕ} 0 1 = cc in omega arith)
      (ap (refusal_text k) is)

  pub long_printed : LongPrinted text (long_answer_text text)
  unfolding long_answer_text
  long_printed = printed_by (read_day long_limits text) refl

  -- a plan is printed exactly where an allowed row exists
  pub long_printed_plan : (y : Yard) → read_day long_limits text ≡ gives y → SomeRow y
      → (row : List ℕ) × Row y row × (long_answer_text text ≡ plan_lines y.trains y.numbers (outcome y row) row)
  long_printed_plan y e some-row = go long_printed
    where
      -- of the three only a plan is printed, and the day is the one that is read
      go : LongPrinted text (long_answer_text text) → (row : List ℕ) × Row y row × (long_answer_text text ≡ plan_lines y.trains y.numbers (outcome y row) row)
      go (plan z row r b is) =
          let same : z ≡ y = gives_same (sym r ∙ e) in
          (row, subst (λ d. Row d row) same b, is ∙ ap (λ d. plan_lines d.trains d.numbers (outcome d row) row) same)
      go (overbooked z a b r nowhere f is) = absurd (subst NoRow (gives_same (sym r ∙ e)) nowhere some-row.0 some-row.1)
      go (unread k line a b counted r nothing is) = absurd (nothing y e)
