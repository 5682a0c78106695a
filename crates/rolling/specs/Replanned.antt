-- One planner: what the planning call says on a sound day, with areas of 4,096 and 32,768 words and a row of zeros. It gives the best plan, and
-- the row is that of the new state; or it refuses as the call of a moving day does. So the code of a change hands planning the cut day.
-- Assumes nothing.
use Rattle.std.specs.Prelude.{◌≡◌, refl, Bool, true, false, List, ◌++◌, ℕ, ◌+◌, ◌-◌, ◌*◌, ◌^◌, ◌≤◌, ◌<◌, T, leb, drop, replicate}
use Rattle.std.proofs.Math.Path.{sym, ap}
use Rattle.std.proofs.Common.{◌∙◌, mul-le-mul, le_trans, leb→le, length-drop, pow_mono, drop-drop}
use Rattle.std.proofs.Math.Logic.{⊎_elim}
use Rattle.std.proofs.Math.Option.{Option, none, some}
use native.Mathlib.Omega.{arith}
use Rattle.std.proofs.Math.ListN.{length, get_or, length-append, get_or-append}
use Rattle.std.proofs.lemmas.List.{length-replicate}
use Rattle.std.proofs.Math.Seq.{ext_get_or, get_or-append-add, get_or-drop}
use Rattle.fold.specs.Test.{both_of}
use Rattle.fold.specs.Counting.{le_or_lt}
use Rattle.fold.specs.Column.{column, column-length, column-at, column_past, zeros-at}
use Rattle.model.specs.Model.{Yard, Outcome, outcome, slot_of}
use Rattle.model.proofs.Rows.{allowed_is}
use Rattle.model.specs.BestOf.{best_of}
use Rattle.model.proofs.BestOf.{is_best}
use Rattle.day.specs.Answer.{Answer, gives, refuses, on_given}
use Rattle.day.specs.Sound.{day_limits, sound}
use Rattle.day.specs.SoundLaws.{sound_is}
use Rattle.planning.specs.Planning.{cost_words, choice_words, cost_area, choice_area, areas_suffice, best_row, best_answer, planned, begins, placed, row_after, open_words, Stays}
use Rattle.planning.proofs.Answers.{none_gives, planned-begun, row-begun}
use Rattle.planning.proofs.Demand.{memory_suffices}
use Rattle.rolling.specs.Rolling.{best_plan}

-- a row put into zeros is the column of its slots
module _ (w : ℕ) (plan : List ℕ) (few : length plan ≤ w) where
  rest : List ℕ
  rest = drop (length plan) (replicate w 0)

  rest-length : length (plan ++ rest) ≡ w
  unfolding rest
  rest-length =
      length-append plan rest ∙ ap (λ k. length plan + k) (length-drop (length plan) (replicate w 0) ∙ ap (λ k. k - length plan) (length-replicate {A = ℕ} w 0)) ∙ omega arith

  behind : (i : ℕ) → length plan ≤ i → get_or (plan ++ rest) i 0 ≡ 0
  unfolding rest
  behind i h =
      let e : i ≡ length plan + (i - length plan) = omega arith in
      ap (λ k. get_or (plan ++ rest) k 0) e ∙ get_or-append-add plan rest (i - length plan) 0 ∙ get_or-drop (length plan) (replicate w 0) (i - length plan) 0
      ∙ zeros-at w (length plan + (i - length plan))

  pub placed-column : plan ++ drop (length plan) (replicate w 0) ≡ column w (length plan) (slot_of plan)
  unfolding rest
  placed-column =
      ext_get_or 0 (plan ++ rest) (column w (length plan) (slot_of plan)) (rest-length ∙ sym (column-length w (length plan) (slot_of plan)))
      (λ i h.
      ⊎_elim (λ (g : length plan ≤ i). behind i g ∙ sym (column_past w (length plan) (slot_of plan) i g))
      (λ (g : i < length plan). get_or-append plan rest 0 i g ∙ sym (column-at w (length plan) (slot_of plan) i (let e = rest-length in omega arith) g))
      (le_or_lt (length plan) i))

-- of an area more may be left open
stays_more : (few most : ℕ) (before after : List ℕ) → few ≤ most → Stays few before after → Stays most before after
stays_more few most before after h e =
    let split : few + (most - few) ≡ most = omega arith in
    let later : (l : List ℕ) → drop most l ≡ drop (most - few) (drop few l) = λ l. sym (drop-drop (most - few) few l ∙ ap (λ k. drop k l) split) in
    later after ∙ ap (drop (most - few)) e ∙ sym (later before)

open_most : (b : Bool) (few most : ℕ) → few ≤ most → open_words b few ≤ most
open_most true few most h = h
open_most false few most h = omega arith

module _ (y : Yard) (t : T (sound day_limits y)) (costs choices : ℕ) (enough : T (areas_suffice costs choices)) where
  sets : 2 ^ y.trains ≤ cost_area
  sets = pow_mono (sound_is day_limits y t).trains.1

  words : y.slots * 2 ^ y.trains ≤ choice_area
  words = mul-le-mul (sound_is day_limits y t).slots.1 sets

  begun : T (begins day_limits y costs choices 12)
  begun =
      let (a, b) = both_of (leb cost_area costs) (leb choice_area choices) enough in
      memory_suffices day_limits y costs choices 12 t (le_trans sets (leb→le cost_area costs a)) (le_trans words (leb→le choice_area choices b)) (sound_is day_limits y t).trains.1

  says_best : planned day_limits y costs choices 12 ≡ best_answer y (best_of y)
  says_best = planned-begun day_limits y costs choices 12 begun

  row_is_lem : row_after day_limits y costs choices (replicate 12 0) ≡ placed (best_of y) (replicate 12 0)
  row_is_lem = row-begun day_limits y costs choices (replicate 12 0) begun

  -- a plan: the best one, and the row of zeros became the state's row
  pub record Replanned : Type 0 where
    pub plan : List ℕ
    pub best : best_plan y ≡ gives plan
    pub row : row_after day_limits y costs choices (replicate 12 0) ≡ column 12 y.trains (slot_of plan)

  pub plan_replanned : (o : Outcome) → planned day_limits y costs choices 12 ≡ gives o → Replanned
  plan_replanned o e = go (best_of y) refl (sym says_best ∙ e)
    where
      go : (b : Option (List ℕ)) → best_of y ≡ b → best_answer y b ≡ gives o → Replanned
      go none q g = absurd (none_gives y o g)
      go (some plan) q g =
          let long = (allowed_is y plan (is_best y plan q).is_allowed).long in
          let few = (sound_is day_limits y t).trains.1 in
          record {
            plan = plan;
            best = ap (best_row y) q;
            row = row_is_lem ∙ ap (λ b. placed b (replicate 12 0)) q ∙ placed-column 12 plan (omega arith) ∙ ap (λ k. column 12 k (slot_of plan)) long;
          }

  -- a refusal is the call's own
  pub plan_refused : (k : ℕ) (carries : List ℕ) → planned day_limits y costs choices 12 ≡ refuses k carries → best_plan y ≡ refuses k carries
  plan_refused k carries e = go (best_row y (best_of y)) (sym says_best ∙ e)
    where
      go : (a : Answer (List ℕ)) → on_given a (λ row. gives (outcome y row)) ≡ refuses k carries → a ≡ refuses k carries
      go (gives r) g = absurd (let z : ◌≡◌ {A = ℕ} 0 1 = cc in omega arith)
      go (refuses m brings) g = cc

  -- ---- the areas: words beyond 4,096 and 32,768 stay

  module _ (b : Bool) (before after : List ℕ) where
    pub costs_stay : Stays (open_words b (cost_words y)) before after → Stays cost_area before after
    costs_stay = stays_more (open_words b (cost_words y)) cost_area before after (open_most b (cost_words y) cost_area sets)

    pub choices_stay : Stays (open_words b (choice_words y)) before after → Stays choice_area before after
    choices_stay = stays_more (open_words b (choice_words y)) choice_area before after (open_most b (choice_words y) choice_area words)
