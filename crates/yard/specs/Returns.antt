-- What the functions of include/yard.h can return, as the header says. With room for four numbers:
--   check-returns     yard_check: 0 to 7 or 15;
--   value-returns     yard_value: 0 to 7, 15, 11 to 13 or 17, never 8;
--   compare-returns   the comparing functions: 0 to 7, 15, 9, 16 or 14, never 8 and never 10;
--   plan-returns      yard_plan, lent a row of 12 bytes: 0 to 7, 15, 9 or 16, never 8 and never 10.
-- And without room for four numbers:
--   no-numbers        all but yard_check: 10, whatever the text.
-- What they return means, on the day y that a text reads to, and with room for four numbers (the laws of checking and valuing for any
-- limits, so for the functions of long days too, Long.antt):
--   check-line        yard_check tells the line of the refusal, and 0 where there is none;
--   value-exactly     yard_value gives numbers exactly where the row is allowed, and they are the model's;
--   compare-is        the comparing functions answer what comparing the day does (`saves` of baselines says what that means);
--   value-boxes, plan-boxes, compare-boxes   where numbers are given, direct and split moves are all boxes of the day;
--   plan-exactly      yard_plan, lent a row of 12 bytes, gives a plan exactly where an allowed row exists: `plans_best` and `plans_none` of
--                     text_plan say which, and what stands in the row.
-- Assumes nothing.
use Rattle.std.specs.Prelude.{◌≡◌, refl, List, [], ◌∷◌, ◌⊎◌, ◌↔◌, ℕ, ◌*◌, ◌^◌, ◌≤◌, ◌<◌, T, length}
use Rattle.std.proofs.Common.{sym, ap, ◌∙◌, subst, inl, inr, zero-le, mul-le-mul, arith, pow_mono, le-leb}
use Rattle.std.proofs.lemmas.Bool.{lt-leb}
use Rattle.model.specs.Model.{Yard, Outcome, outcome, allowed, SomeRow}
use Rattle.model.specs.Moves.{AllMoved}
use Rattle.day.specs.Answer.{Answer, gives, refuses, code, on_given}
use Rattle.day.specs.AnswerLaws.{Only, only_given, only_wider}
use Rattle.day.specs.Sound.{day_limits, sound}
use Rattle.day.specs.SoundLaws.{Sound, sound_is}
use Rattle.day.specs.declared.Limits.{Limits}
use Rattle.dayfile.specs.Reading.{read_day}
use Rattle.dayfile.specs.RoundTrip.{read_sound}
use Rattle.dayfile.specs.Refused.{FileRefusal, Lined, read_lined}
use Rattle.valuing.specs.Valuing.{valued}
use Rattle.valuing.proofs.Laws.{valued_only, valued-allowed, allowed-valued, valued_boxes}
use Rattle.planning.specs.Planning.{cost_area, choice_area, planned}
use Rattle.planning.proofs.Answers.{areas_suffice_lem, planned_only, from_best, planned_boxes}
use Rattle.comparing.specs.Comparing.{Comparison}
use Rattle.baselines.specs.Baselines.{compared}
use Rattle.baselines.specs.Savings.{compared_only, compared_boxes}
use Rattle.telling.specs.Telling.{number_count, day_with, day_for, for_day}
use Rattle.telling.specs.Laws.{no_room, with_room_lem}
use Rattle.text_plan.specs.TextPlan.{plan_for}
use Rattle.text_plan.specs.Means.{plans_best}
use Rattle.text_value.specs.TextValue.{line, value_text}
use Rattle.text_savings.specs.TextSavings.{compare_text}

-- what reading a text returns: 0, or its refusal
abbrev OfReading : ℕ → Type 0
OfReading k = (k ≤ 7) ⊎ (k ≡ 15)

of_reading : (k : ℕ) → FileRefusal k → OfReading k
of_reading k (inl h) = inl h.1
of_reading k (inr e) = inr e

-- ---- texts of days of any limits, whose reading returns such numbers, 0 among them

module _ (l : Limits) (text : List ℕ) (reading : ℕ → Type 0) (given : reading 0) where
  -- the number returned: 0 where something is given
  returned : {X : Type 0} (a : Answer X) → Only (λ k carries. reading k) a → reading (code a)
  returned (gives x) h = given
  returned (refuses k carries) h = h

  module _ (refused : Only (λ k carries. reading k) (read_day l text)) where
    pub text_returns : reading (code (read_day l text))
    text_returns = returned (read_day l text) refused

    -- a refusal of reading, or a number of the call's own. The days that are read are sound, so a call on them never answers 8
    pub for_sound : {X : Type 0} (own : ℕ → Type 0) (count size : ℕ) (f : Yard → Answer X) → count ≤ size → ((y : Yard) → T (sound l y) → Only (λ k carries. own k) (f y))
        → let k = code (on_given (day_with count l text size) f) in reading k ⊎ own k
    for_sound {X} own count size f h g =
        go (on_given (day_with count l text size) f)
        (subst (λ (a : Answer Yard). Only Or (on_given a f)) (sym (with_room_lem count l text size (le-leb count size h) refl))
        (only_given Or (read_day l text) f (only_wider (λ k carries. reading k) Or (read_day l text) (λ k carries q. inl q) refused)
        λ y e. only_wider (λ k carries. own k) Or (f y) (λ k carries q. inr q) (g y (read_sound l text y e))))
      where
        Or : ℕ → List ℕ → Type 0
        Or k carries = reading k ⊎ own k

        go : (a : Answer X) → Only Or a → reading (code a) ⊎ own (code a)
        go (gives x) h = inl given
        go (refuses k carries) h = h

-- ---- the numbers returned

module _ (text : List ℕ) where
  of_text : Only (λ k carries. OfReading k) (read_day day_limits text)
  of_text = only_wider Lined (λ k carries. OfReading k) (read_day day_limits text) (λ k carries q. of_reading k q.0) (read_lined day_limits text)

  pub check_returns : let k = code (read_day day_limits text) in (k ≤ 7) ⊎ (k ≡ 15)
  check_returns = text_returns day_limits text OfReading (inl zero-le) of_text

  module _ (size : ℕ) (room : 4 ≤ size) where
    pub value_returns : (row : List ℕ) → let k = code (value_text day_limits text row size) in ((k ≤ 7) ⊎ (k ≡ 15)) ⊎ (((11 ≤ k) × (k ≤ 13)) ⊎ (k ≡ 17))
    unfolding value_text
    value_returns row =
        for_sound day_limits text OfReading (inl zero-le) of_text (λ k. ((11 ≤ k) × (k ≤ 13)) ⊎ (k ≡ 17)) number_count size (λ y. valued day_limits y row) room
        λ y s. valued_only day_limits y row s

    pub compare_returns : (procedure : Yard → List ℕ) → let k = code (compare_text procedure day_limits text size) in ((k ≤ 7) ⊎ (k ≡ 15)) ⊎ (((k ≡ 9) ⊎ (k ≡ 16)) ⊎ (k ≡ 14))
    unfolding compare_text
    compare_returns procedure =
        for_sound day_limits text OfReading (inl zero-le) of_text (λ k. ((k ≡ 9) ⊎ (k ≡ 16)) ⊎ (k ≡ 14)) number_count size (λ y. compared day_limits y (procedure y) cost_area choice_area) room
        λ y s. compared_only day_limits y cost_area choice_area (procedure y) (areas_suffice_lem y y.trains s (omega arith))

    pub plan_returns : (bytes : ℕ) → 12 ≤ bytes → let k = code (plan_for day_limits text cost_area choice_area bytes size) in ((k ≤ 7) ⊎ (k ≡ 15)) ⊎ ((k ≡ 9) ⊎ (k ≡ 16))
    unfolding plan_for
    plan_returns bytes long =
        for_sound day_limits text OfReading (inl zero-le) of_text (λ k. (k ≡ 9) ⊎ (k ≡ 16)) number_count size (λ y. planned day_limits y cost_area choice_area bytes) room
        λ y s. planned_only day_limits y cost_area choice_area bytes (areas_suffice_lem y bytes s (omega (arith, (sound_is day_limits y s).trains.1)))

  -- ---- what is returned means

  pub check_line : (l : Limits) (k at : ℕ) → read_day l text ≡ refuses k (at ∷ []) → (code (read_day l text) ≡ k) × (line (read_day l text) ≡ at)
  check_line l k at e = (ap code e, ap line e)

  pub check_none : (l : Limits) (y : Yard) → read_day l text ≡ gives y → (code (read_day l text) ≡ 0) × (line (read_day l text) ≡ 0)
  check_none l y e = (ap code e, ap line e)

  module _ (l : Limits) (y : Yard) (reads : read_day l text ≡ gives y) (size : ℕ) (room : 4 ≤ size) where
    day_read : day_for l text size ≡ gives y
    day_read = with_room_lem number_count l text size (le-leb 4 size room) reads

    pub value-allowed : (row : List ℕ) → T (allowed y row) → value_text l text row size ≡ gives (outcome y row)
    unfolding value_text
    value-allowed row a = rw day_read (valued-allowed l y row (read_sound l text y reads) a)

    pub value_exactly : (row : List ℕ) (o : Outcome) → value_text l text row size ≡ gives o → T (allowed y row) × (outcome y row ≡ o)
    unfolding value_text
    value_exactly row o e = let (s, a, q) = allowed-valued l y row o (rw day_read at e) in (a, q)

    -- order 6: direct and split moves are all boxes of the day
    pub value_boxes : (row : List ℕ) (o : Outcome) → value_text l text row size ≡ gives o → AllMoved y o
    unfolding value_text
    value_boxes row o e = valued_boxes l y row o (rw day_read at e)

  module _ (y : Yard) (reads : read_day day_limits text ≡ gives y) (size : ℕ) (room : 4 ≤ size) where
    day : day_for day_limits text size ≡ gives y
    day = day_read day_limits y reads size room

    pub compare_is : (procedure : Yard → List ℕ) → compare_text procedure day_limits text size ≡ compared day_limits y (procedure y) 4096 32768
    unfolding compare_text
    compare_is procedure = rw day

    -- ---- order 6: direct and split moves are all boxes of the day

    pub plan_boxes : (costs choices bytes : ℕ) (o : Outcome) → plan_for day_limits text costs choices bytes size ≡ gives o → AllMoved y o
    unfolding plan_for
    plan_boxes costs choices bytes o e = planned_boxes day_limits y costs choices bytes o (rw day at e)

    pub compare_boxes : (procedure : Yard → List ℕ) (c : Comparison) → compare_text procedure day_limits text size ≡ gives c → AllMoved y c.outcome
    compare_boxes procedure c e = compared_boxes day_limits y cost_area choice_area (procedure y) c (sym (compare_is procedure) ∙ e)

    pub plan_exactly : (row : List ℕ) → 12 ≤ length row → ((o : Outcome) × (plan_for day_limits text cost_area choice_area (length row) size ≡ gives o)) ↔ SomeRow y
    unfolding plan_for
    plan_exactly row long = (λ g. back g.0 (rw day at g.1), λ r. let (best, p) = plans_best day_limits text y reads cost_area choice_area size row room costs choices few r in (outcome y best, p.says))
      where
        is : Sound day_limits y
        is = sound_is day_limits y (read_sound day_limits text y reads)

        costs : 2 ^ y.trains ≤ cost_area
        costs = pow_mono is.trains.1

        choices : y.slots * 2 ^ y.trains ≤ choice_area
        choices = mul-le-mul is.slots.1 costs

        few : y.trains ≤ length row
        few = omega (arith, is.trains.1)

        back : (o : Outcome) → planned day_limits y cost_area choice_area (length row) ≡ gives o → SomeRow y
        back o e = let b = from_best day_limits y cost_area choice_area (length row) o e in (b.row, b.best.is_allowed)

  module _ (size : ℕ) (short : size < 4) where
    pub none : {X : Type 0} (l : Limits) (f : Yard → Answer X) → code (for_day l text size f) ≡ 10
    none l f = rw (no_room number_count l text size (lt-leb 4 size short))

    pub no_numbers : (row : List ℕ) (procedure : Yard → List ℕ) (costs choices bytes : ℕ)
        → (code (value_text day_limits text row size) ≡ 10) × ((code (compare_text procedure day_limits text size) ≡ 10) × (code (plan_for day_limits text costs choices bytes size) ≡ 10))
    unfolding value_text compare_text plan_for
    no_numbers row procedure costs choices bytes = (none day_limits _, (none day_limits _, none day_limits _))
