-- Order 9's sentences on planning long days, from the call's contract and the model alone. On a sound long day, at a width of 1 to 64 and lent
-- a row of at least n bytes:
--   long-plan-or-nine  a plan or 9 is returned, never another refusal;
--   long-exactly       a plan is returned exactly when an allowed row exists;
--   long-nine-exactly  9 is returned exactly when no row is allowed;
--   long-nine          it carries the overbooked interval that 01 names and the number of trains bound inside;
--   long-plan          the plan is an allowed row, its four numbers are the model's, and the bytes beyond it are those lent;
--   long-lower         no allowed row costs less than the lower figure, the plan among them;
--   long-best          where the number of full slots is 0 the cost is least, and the plan is the best of all allowed rows in order 5's order.
-- On any day, at any width and in any row:
--   long-unsound, long-width, long-short   when 8, 21 and 10 are returned, in this order;
--   long-only          a sound day gets 21, 10 or 9 and no other refusal;
--   long_kept          a refusal leaves every byte of the row;
--   long-beyond        bytes beyond the first n never change.
-- The laws `found-…` say the same of the search itself, and `long_planned_lem`, `long_row_lem` what the call answers and leaves where its checks hold.
-- Assumes nothing.
use Rattle.std.specs.Prelude.{◌≡◌, refl, Bool, true, false, List, [], ◌∷◌, ◌++◌, ◌↔◌, ◌⊎◌, ℕ, ◌≤◌, ◌<◌, leb, length, take, drop}
use Rattle.std.proofs.Common.{sym, ◌∙◌, inl, inr, arith, le→leb}
use Rattle.std.proofs.Math.Path.{ap, subst}
use Rattle.std.proofs.Math.Bool.{cond}
use Rattle.std.proofs.Math.Logic.{⊎_elim}
use Rattle.std.proofs.Math.Option.{Option, none, some}
use Rattle.std.proofs.Math.Dec.{T, leb→le}
use Rattle.fold.specs.Test.{is_true, is_false, of_true, both, both_of}
use Rattle.fold.specs.Counting.{le_or_lt}
use Rattle.fold.specs.Listed.{take_front, drop_front}
use Rattle.model.specs.Model.{Yard, outcome, cost, bound_inside, allowed, Best, SomeRow, NoRow, FirstOverbooked}
use Rattle.model.proofs.Rows.{allowed_is}
use Rattle.model.specs.Overbooked.{Interval, first_overbooked, SaysFirst}
use Rattle.model.proofs.Overbooked.{first_says}
use Rattle.day.specs.Answer.{Answer, gives, refuses, holding}
use Rattle.day.specs.AnswerLaws.{Only, only_wider, AllHold, gives_same, checked_holds, all_holding, holding_all}
use Rattle.day.specs.Sound.{sound}
use Rattle.day.specs.SoundLaws.{Sound, sound_is}
use Rattle.feasibility.proofs.RowOrNone.{none_fitting}
use Rattle.planning.specs.Planning.{no_row, placed}
use Rattle.beam.specs.Beam.{full_slots, beam_row}
use Rattle.beam.specs.LowerFigure.{lower_figure}
use Rattle.beam.proofs.LowerFigure.{figure_lower}
use Rattle.beam.specs.Result.{Says}
use Rattle.beam.proofs.Result.{beam_says, best-fitting}
use Rattle.beam.specs.NothingCut.{SaysBest}
use Rattle.beam.proofs.NothingCut.{beam_best}
use Rattle.long_day.specs.LongDay.{long_limits}
use Rattle.long_day.specs.LongLaws.{long_allowed}
use Rattle.long_planning.specs.LongPlanning.{LongOutcome, is_width, long_checks, found_answer, long_planned, long_row_after}

-- ---- the sentences

module _ (y : Yard) (width : ℕ) (row : List ℕ)
    (is_sound : T (sound long_limits y)) (some_width_lem : 1 ≤ width) (few_width_lem : width ≤ 64) (rowNamed : y.trains ≤ length row)
    (said : Answer LongOutcome) (after : List ℕ)
    (contract : said ≡ long_planned long_limits y width (length row)) (contractRow : after ≡ long_row_after long_limits y width row) where
  pub record Plan (o : LongOutcome) : Type 0 where
    -- the row is the search's, and the three other answers are what they are said to be
    pub found : beam_row y width ≡ some (take y.trains after)
    pub numbers : o.row ≡ outcome y (take y.trains after)
    pub full : o.full ≡ full_slots y width
    pub lower : o.lower ≡ lower_figure y
    -- the promises
    pub is_allowed : T (allowed y (take y.trains after))
    pub beyond : drop y.trains after ≡ drop y.trains row
    pub best_if_none_full : o.full ≡ 0 → Best y (take y.trains after)
    pub none_below : (other : List ℕ) → T (allowed y other) → o.lower ≤ cost y other

  pub record Nine : Type 0 where
    pub nowhere : NoRow y
    pub first : ℕ
    pub last : ℕ
    pub named : FirstOverbooked y first last
    pub is : said ≡ refuses 9 (first ∷ last ∷ bound_inside y first last ∷ [])
