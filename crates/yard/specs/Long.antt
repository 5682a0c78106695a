-- What the functions of long days can return, as include/yard.h says:
--   long-check-returns   yard_long_check: 0 to 7;
--   long-value-returns   yard_long_value, with room for four numbers: 0 to 7 or 11 to 13, never 8 and never 17;
--   long-plan-returns    yard_long_plan, with room for six numbers: 0 to 7, 21, 10 or 9, never 8 and never 16;
--   long-plan-suffices   the same at a width of 1 to 64 and lent a row of 36 bytes: 0 to 7 or 9;
--   long-answer-returns  yard_long_answer, lent 367 bytes: 0, and the count of bytes is the answer's.
-- And without room for the numbers:
--   long-no-numbers      10, whatever the text.
-- What they return means, on the long day y that a text reads to: `check_line`, `value_exactly` and `value_boxes` of Returns.antt at the limits
-- of long days; and with room for six numbers, at a width of 1 to 64 and lent a row of 36 bytes,
--   long-plan-exactly    yard_long_plan gives a plan exactly where an allowed row exists: `plans_found` and `plans_none` of text_long say which,
--                        and what stands in the row;
--   long-plan-boxes      then direct and split moves are all boxes of the day.
-- Assumes nothing.
use Rattle.std.specs.Prelude.{◌≡◌, refl, List, ◌⊎◌, ◌↔◌, length}
use Rattle.std.proofs.Common.{sym, ◌∙◌, subst, arith}
use Rattle.std.proofs.Math.Path.{ap}
use Prim.Native.Nat.{ℕ, ◌≤◌, ◌<◌, zero-le}
use borrow.Author.Tests.{le-leb}
use Rattle.model.specs.Model.{Yard, SomeRow}
use Rattle.model.specs.Moves.{AllMoved}
use Rattle.model.proofs.Moves.{all_moved}
use Rattle.day.specs.Answer.{gives, code}
use Rattle.day.specs.AnswerLaws.{Only, only_wider, gives_same}
use Rattle.day.specs.SoundLaws.{sound_is}
use Rattle.output.specs.Output.{writes}
use Rattle.dayfile.specs.Reading.{read_day}
use Rattle.dayfile.specs.RoundTrip.{read_sound}
use Rattle.dayfile.specs.Refused.{PlainRefusal, AtLine, read_ungrouped}
use Rattle.valuing.specs.Valuing.{valued}
use Rattle.telling.specs.Telling.{number_count}
use Rattle.text_value.specs.TextValue.{value_text}
use Rattle.long_day.specs.LongDay.{long_limits}
use Rattle.long_value.specs.LongValued.{long_valued_only}
use Rattle.long_planfile.specs.Size.{long_plan_bytes}
use Rattle.long_planning.specs.LongPlanning.{LongOutcome, long_planned}
use Rattle.long_planning.proofs.Promised.{long_found_only, long_only}
use Rattle.long_answering.specs.LongAnswering.{long_answer_text, long_answer_writes}
use Rattle.text_long.specs.TextLong.{long_number_count, long_plan_for}
use Rattle.text_long.specs.Means.{plans_found, plans_given, text_room}
use Rattle.yard.specs.Interface.{count}
use Rattle.yard.specs.Returns.{text_returns, for_sound, none}

-- what reading a text returns: 0, or its refusal
abbrev OfLongReading : ℕ → Type 0
OfLongReading k = k ≤ 7

module _ (text : List ℕ) where
  of_text : Only (λ k carries. OfLongReading k) (read_day long_limits text)
  of_text = only_wider (AtLine PlainRefusal) (λ k carries. OfLongReading k) (read_day long_limits text) (λ k carries q. q.0.1) (read_ungrouped long_limits refl text)

  pub long_check_returns : code (read_day long_limits text) ≤ 7
  long_check_returns = text_returns long_limits text OfLongReading zero-le of_text

  pub long_value_returns : (size : ℕ) → 4 ≤ size → (row : List ℕ) → let k = code (value_text long_limits text row size) in (k ≤ 7) ⊎ ((11 ≤ k) × (k ≤ 13))
  unfolding value_text
  long_value_returns size room row =
      for_sound long_limits text OfLongReading zero-le of_text (λ k. (11 ≤ k) × (k ≤ 13)) number_count size (λ y. valued long_limits y row) room
      λ y s. long_valued_only y row s

  module _ (size : ℕ) (room : 6 ≤ size) (width bytes : ℕ) where
    pub long_plan_returns : let k = code (long_plan_for text width bytes size) in (k ≤ 7) ⊎ ((k ≡ 21) ⊎ ((k ≡ 10) ⊎ (k ≡ 9)))
    unfolding long_plan_for
    long_plan_returns =
        for_sound long_limits text OfLongReading zero-le of_text (λ k. (k ≡ 21) ⊎ ((k ≡ 10) ⊎ (k ≡ 9))) long_number_count size (λ y. long_planned long_limits y width bytes) room
        λ y s. long_only y width bytes s

    pub long_plan_suffices : 1 ≤ width → width ≤ 64 → 36 ≤ bytes → let k = code (long_plan_for text width bytes size) in (k ≤ 7) ⊎ (k ≡ 9)
    unfolding long_plan_for
    long_plan_suffices some_width few long =
        for_sound long_limits text OfLongReading zero-le of_text (λ k. k ≡ 9) long_number_count size (λ y. long_planned long_limits y width bytes) room
        λ y s. long_found_only y width bytes s some_width few (omega (arith, (sound_is long_limits y s).trains.1))

  pub long_no_numbers : (size width bytes : ℕ) (row : List ℕ) → (size < 4 → code (value_text long_limits text row size) ≡ 10) × (size < 6 → code (long_plan_for text width bytes size) ≡ 10)
  unfolding value_text
  long_no_numbers size width bytes row = (λ short. none text size short long_limits _, λ short. ap code (text_room text width bytes size short))

  -- ---- the answer: 367 bytes suffice, by the contract of `answer_long_text`

  pub long_answer_returns : (size : ℕ) → length (long_answer_text text) ≤ long_plan_bytes → long_plan_bytes ≤ size
      → (code (long_answer_writes text size) ≡ 0) × (count (long_answer_writes text size) ≡ length (long_answer_text text))
  unfolding writes
  long_answer_returns size fits long = let e = le-leb (length (long_answer_text text)) size (omega arith) in (rw e, rw e)

  -- ---- what a plan means

  module _ (y : Yard) (reads : read_day long_limits text ≡ gives y) (size : ℕ) (room : 6 ≤ size) (width : ℕ) (some_width_lem : 1 ≤ width) (few_width_lem : width ≤ 64)
      (row : List ℕ) (long : 36 ≤ length row) where
    few : y.trains ≤ length row
    few = omega (arith, (sound_is long_limits y (read_sound long_limits text y reads)).trains.1)

    pub long_plan_exactly : ((o : LongOutcome) × (long_plan_for text width (length row) size ≡ gives o)) ↔ SomeRow y
    long_plan_exactly = (
      λ g. let (r, p) = plans_given text y reads size room width row some_width_lem few_width_lem few g.0 g.1 in (r, p.is_allowed),
      λ s. let (r, p) = plans_found text y reads size room width row some_width_lem few_width_lem few s in (_, p.says),
    )

    pub long_plan_boxes : (o : LongOutcome) → long_plan_for text width (length row) size ≡ gives o → AllMoved y o.row
    long_plan_boxes o e =
        let (r, p) = plans_given text y reads size room width row some_width_lem few_width_lem few o e in
        subst (λ (x : LongOutcome). AllMoved y x.row) (gives_same (sym p.says ∙ e)) (all_moved y r)
