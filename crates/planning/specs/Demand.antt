-- Demand 3, from the planning call's contract and the model alone. Let `said` and `after` be what a call answers and leaves in the row, as
-- its contract says, on a sound day and lent the memory that 01 names: at least 2^n words, T × 2^n words and n bytes. Then
--   plan-or-refused  a plan, 9 or 16 is returned, never 10;
--   plan-exactly     a plan is returned exactly when an allowed row exists;
--   plan-best        it is the best row: allowed, no allowed row is cheaper, none of equal cost comes before it; its four numbers are the
--                    model's; and the bytes beyond it are those lent;
--   plan-foremost    the order among rows of equal cost is order 5's of document 02: none of them has fewer revisits, of those with as many
--                    none a smaller sum of slot numbers, and of those with as small a one none the larger set number at the lowest
--                    slot where they differ;
--   plan-fewest      where the revisit weight is the sum of all boxes and the split weight 1 (order 8), it has the fewest revisits of all
--                    allowed rows, and the fewest split moves of those that share this fewest; `plan_outweighs`: as where a revisit weighs
--                    more;
--   plan-refused     otherwise the answer is 9, with the overbooked interval that 01 names and the number of trains bound inside, or 16;
--   nine-exactly     9 is returned exactly when an interval is overbooked;
--   sixteen-exactly  16 is returned exactly when none is and still no row is allowed;
--   ungrouped        on a day without groups nothing differs from before order 4: a plan or 9 is returned.
-- On any day and in any memory:
--   unsound-eight    a day that is not sound gets 8, whatever is lent;
--   short-ten        a sound day gets 10 where less is lent than 01 names;
--   memory-after     what lent memory holds: after 8 or 10 all that it held; after 9 and 16 the row does; words beyond 2^n and T × 2^n
--                    always do.
-- Assumes nothing.
use Rattle.std.specs.Prelude.{◌≡◌, refl, Bool, true, false, cond, ◌&&◌, ◌↔◌, ◌⊎◌, ℕ, ◌*◌, ◌^◌, ◌≤◌, ◌<◌, length, take, drop}
use Rattle.std.proofs.Common.{sym, ap, ◌∙◌, subst, inl, inr, arith, le→leb}
use mathlib.Core.List.{List, [], ◌∷◌, ◌++◌}
use Rattle.std.proofs.Math.Logic.{⊎_elim}
use Rattle.std.proofs.Math.Option.{Option, none, some}
use Rattle.std.proofs.Math.Dec.{T, leb, leb→le}
use Rattle.fold.specs.Test.{is_true, is_false, both, both_of}
use Rattle.fold.specs.Listed.{take_front, drop_front}
use Rattle.model.specs.Model.{Yard, Outcome, outcome, bound_inside, Best, SomeRow, NoRow, overbooked, FirstOverbooked}
use Rattle.model.proofs.Rows.{allowed_is}
use Rattle.model.specs.Groups.{NoGroups}
use Rattle.model.specs.BestOf.{best_of}
use Rattle.model.proofs.BestOf.{none_is, is_best, is_none_lem}
use Rattle.model.specs.Foremost.{Foremost}
use Rattle.model.proofs.Foremost.{best_foremost}
use Rattle.model.specs.Fewest.{SumWeights, Outweighs, Fewest}
use Rattle.model.proofs.Fewest.{sum_outweighs, best_fewest}
use Rattle.model.specs.Overbooked.{Interval, first_overbooked, SaysFirst}
use Rattle.model.proofs.Overbooked.{first_says}
use Rattle.day.specs.Answer.{Answer, gives, refuses, code}
use Rattle.day.specs.AnswerLaws.{gives_same}
use Rattle.day.specs.Sound.{sound}
use Rattle.day.specs.SoundLaws.{sound_is}
use Rattle.day.specs.declared.Limits.{Limits}
use Rattle.feasibility.proofs.NoRow.{no_row_lem}
use Rattle.feasibility.proofs.RowOrNone.{none_spacious, some_over, no_row_over}
use Rattle.planning.specs.Planning.{cost_words, choice_words, suffices, begins, no_row, best_answer, NoRowRefusal, planned, placed, row_after, open_words, Stays}

module _ (l : Limits) (y : Yard) (costs choices : ℕ) (row : List ℕ)
    (is_sound : T (sound l y)) (costsNamed : 2 ^ y.trains ≤ costs) (choicesNamed : y.slots * 2 ^ y.trains ≤ choices) (rowNamed : y.trains ≤ length row)
    (said : Answer Outcome) (after : List ℕ)
    (contract : said ≡ planned l y costs choices (length row)) (contractRow : after ≡ row_after l y costs choices row) where
  -- what is said of either kind of day
  pub record Given (o : Outcome) : Type 0 where
    pub best : Best y (take y.trains after)
    pub numbers : o ≡ outcome y (take y.trains after)
    pub beyond : drop y.trains after ≡ drop y.trains row

  pub record Nine : Type 0 where
    pub first : ℕ
    pub last : ℕ
    pub named : FirstOverbooked y first last
    pub is : said ≡ refuses 9 (first ∷ last ∷ bound_inside y first last ∷ [])

  pub record Sixteen : Type 0 where
    pub nowhere : NoRow y
    pub spacious : (a b : ℕ) → T (overbooked y a b) → ⊥
    pub is : said ≡ refuses 16 (0 ∷ [])

-- ---- lent memory after the call, on any day

module _ (l : Limits) (y : Yard) (cost choice row : List ℕ) (said : Answer Outcome) (costAfter choiceAfter rowAfterwards : List ℕ)
    (contract : said ≡ planned l y (length cost) (length choice) (length row)) (contractRow : rowAfterwards ≡ row_after l y (length cost) (length choice) row)
    (contractCost : Stays (open_words (begins l y (length cost) (length choice) (length row)) (cost_words y)) cost costAfter)
    (contractChoice : Stays (open_words (begins l y (length cost) (length choice) (length row)) (choice_words y)) choice choiceAfter) where
  pub record Memory : Type 0 where
    -- after 8 or 10 nothing lent has changed
    pub unchanged : {k : ℕ} {carries : List ℕ} → said ≡ refuses k carries → (k ≡ 8) ⊎ (k ≡ 10) → (costAfter ≡ cost) × ((choiceAfter ≡ choice) × (rowAfterwards ≡ row))
    -- after 9 and 16 the row has not
    pub row_kept : {k : ℕ} {carries : List ℕ} → said ≡ refuses k carries → NoRowRefusal k → rowAfterwards ≡ row
    -- words beyond the first 2^n and the first T × 2^n are unchanged
    pub cost_beyond : drop (2 ^ y.trains) costAfter ≡ drop (2 ^ y.trains) cost
    pub choice_beyond : drop (y.slots * 2 ^ y.trains) choiceAfter ≡ drop (y.slots * 2 ^ y.trains) choice
