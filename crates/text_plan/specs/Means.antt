-- What planning the day of a text means, in the model's words, from the contract's definitions alone. With room for four numbers, areas and
-- a row as long as 01 says, and a text that reads to the day y:
--   plans-best     where an allowed row exists the answer is the best one's numbers, its slots stand in the row, and their count is told;
--   plans-none     where none exists it is 9 with the first overbooked interval, or 16 where none is overbooked, and the row stays.
-- For every text and all lent memory:
--   text-memory    after 1 to 7, 15 and 10 nothing lent has changed; after 9 and 16 the row has not; words beyond 2^n and T × 2^n never do; no
--                  slots are told with any refusal.
-- Assumes nothing.
use Rattle.std.specs.Prelude.{◌≡◌, ◌⊎◌, ℕ, ◌*◌, ◌^◌, ◌≤◌, T, length}
use Rattle.std.proofs.Math.Path.{refl, ap}
use Rattle.std.proofs.Common.{◌∙◌, subst, le-leb}
use mathlib.Core.List.{List, [], ◌∷◌, ◌++◌}
use Rattle.std.proofs.Math.Logic.{inl, inr}
use Rattle.std.proofs.Math.Option.{Option, none, some}
use Rattle.std.proofs.Math.ListN.{drop}
use Rattle.model.specs.Model.{Yard, outcome, bound_inside, Best, SomeRow, NoRow, overbooked, FirstOverbooked}
use Rattle.model.proofs.Rows.{allowed_is}
use Rattle.model.specs.BestOf.{best_of}
use Rattle.model.proofs.BestOf.{is_best, is_none_lem, none_is}
use Rattle.model.specs.Overbooked.{Interval, first_overbooked, SaysFirst}
use Rattle.model.proofs.Overbooked.{first_says}
use Rattle.day.specs.Answer.{Answer, gives, refuses}
use Rattle.day.specs.declared.Limits.{Limits}
use Rattle.dayfile.specs.Reading.{read_day}
use Rattle.dayfile.specs.RoundTrip.{read_sound}
use Rattle.feasibility.proofs.RowOrNone.{none_spacious}
use Rattle.planning.specs.Planning.{cost_words, choice_words, no_row, best_answer, NoRowRefusal, planned, begins, placed, row_after, Stays}
use Rattle.planning.proofs.Answers.{none_answer, planned-begun, row-begun, refuses_only}
use Rattle.planning.proofs.Demand.{memory_suffices, memory_after}
use Rattle.telling.specs.Telling.{number_count, day_for, slots_in}
use Rattle.telling.specs.Laws.{with_room_lem, day_read}
use Rattle.text_plan.specs.TextPlan.{plan_for, row_for, open_for, slots_for}

module _ (l : Limits) (text : List ℕ) (y : Yard) (reads : read_day l text ≡ gives y) (costs choices size : ℕ) (row : List ℕ)
    (room : 4 ≤ size) (costsNamed : 2 ^ y.trains ≤ costs) (choicesNamed : y.slots * 2 ^ y.trains ≤ choices) (rowNamed : y.trains ≤ length row) where
  day : day_for l text size ≡ gives y
  day = with_room_lem number_count l text size (le-leb 4 size room) reads

  begun : T (begins l y costs choices (length row))
  begun = memory_suffices l y costs choices (length row) (read_sound l text y reads) costsNamed choicesNamed rowNamed

  answered : planned l y costs choices (length row) ≡ best_answer y (best_of y)
  answered = planned-begun l y costs choices (length row) begun

  pub record Planned (r : List ℕ) : Type 0 where
    pub best : Best y r
    pub says : plan_for l text costs choices (length row) size ≡ gives (outcome y r)
    pub row_is : row_for l text costs choices size row ≡ r ++ drop y.trains row
    pub count : slots_for l text costs choices (length row) size ≡ y.trains

  pub plans_best : SomeRow y → (r : List ℕ) × Planned r
  unfolding plan_for row_for slots_for
  plans_best some-row = go (best_of y) refl
    where
      go : (b : Option (List ℕ)) → best_of y ≡ b → (r : List ℕ) × Planned r
      go none e = absurd (is_none_lem y e some-row.0 some-row.1)
      go (some r) e =
          let is = is_best y r e in (
            r,
            record {
              best = is;
              says = rw day (answered ∙ ap (best_answer y) e);
              row_is = rw day (row-begun l y costs choices row begun ∙ ap (λ o. placed o row) e ∙ ap (λ k. r ++ drop k row) (allowed_is y r is.is_allowed).long);
              count = rw day (ap (slots_in y) (answered ∙ ap (best_answer y) e));
            },
          )

  pub record Overbooked : Type 0 where
    pub first : ℕ
    pub last : ℕ
    pub named : FirstOverbooked y first last
    pub says : plan_for l text costs choices (length row) size ≡ refuses 9 (first ∷ last ∷ bound_inside y first last ∷ [])
    pub row_is : row_for l text costs choices size row ≡ row
    pub count : slots_for l text costs choices (length row) size ≡ 0

  pub record Unkept : Type 0 where
    pub spacious : (a b : ℕ) → T (overbooked y a b) → ⊥
    pub says : plan_for l text costs choices (length row) size ≡ refuses 16 (0 ∷ [])
    pub row_is : row_for l text costs choices size row ≡ row
    pub count : slots_for l text costs choices (length row) size ≡ 0

  pub plans_none : NoRow y → Overbooked ⊎ Unkept
  unfolding plan_for row_for slots_for
  plans_none nowhere = go (first_overbooked y) refl
    where
      e : best_of y ≡ none
      e = none_is y nowhere

      said : (o : Option Interval) → first_overbooked y ≡ o → planned l y costs choices (length row) ≡ no_row y o
      said o f = answered ∙ ap (best_answer y) e ∙ none_answer y ∙ ap (no_row y) f

      stays : row_after l y costs choices row ≡ row
      stays = row-begun l y costs choices row begun ∙ ap (λ o. placed o row) e

      go : (o : Option Interval) → first_overbooked y ≡ o → Overbooked ⊎ Unkept
      go none f = inr (record { spacious = none_spacious y f; says = rw day (said none f); row_is = rw day stays; count = rw day (ap (slots_in y) (said none f)) })
      go (some w) f = inl (record {
        first = w.first;
        last = w.last;
        named = subst (SaysFirst y) f (first_says y);
        says = rw day (said (some w) f);
        row_is = rw day stays;
        count = rw day (ap (slots_in y) (said (some w) f));
      })

-- ---- lent memory, for every text

module _ (l : Limits) (text cost choice row : List ℕ) (size : ℕ) (costAfter choiceAfter : List ℕ)
    (contractCost : Stays (open_for cost_words l text (length cost) (length choice) (length row) size) cost costAfter)
    (contractChoice : Stays (open_for choice_words l text (length cost) (length choice) (length row) size) choice choiceAfter) where
  pub record TextMemory : Type 0 where
    -- after any refusal but 9 and 16 nothing lent has changed
    pub unchanged : (k : ℕ) (carries : List ℕ) → plan_for l text (length cost) (length choice) (length row) size ≡ refuses k carries → (NoRowRefusal k → ⊥)
        → (costAfter ≡ cost) × ((choiceAfter ≡ choice) × (row_for l text (length cost) (length choice) size row ≡ row))
    -- after 9 and 16 the row has not
    pub row_kept : (k : ℕ) (carries : List ℕ) → plan_for l text (length cost) (length choice) (length row) size ≡ refuses k carries → NoRowRefusal k
        → row_for l text (length cost) (length choice) size row ≡ row
    -- words beyond the first 2^n and the first T × 2^n are unchanged
    pub beyond : (y : Yard) → read_day l text ≡ gives y
        → (drop (2 ^ y.trains) costAfter ≡ drop (2 ^ y.trains) cost) × (drop (y.slots * 2 ^ y.trains) choiceAfter ≡ drop (y.slots * 2 ^ y.trains) choice)
    -- no slots are told with a refusal
    pub none : (k : ℕ) (carries : List ℕ) → plan_for l text (length cost) (length choice) (length row) size ≡ refuses k carries
        → slots_for l text (length cost) (length choice) (length row) size ≡ 0

  pub text_memory : TextMemory
  unfolding plan_for row_for open_for slots_for
  text_memory = go (day_for l text size) refl
    where
      two : {k : ℕ} → (k ≡ 8) ⊎ ((k ≡ 10) ⊎ NoRowRefusal k) → (NoRowRefusal k → ⊥) → (k ≡ 8) ⊎ (k ≡ 10)
      two (inl a) n = inl a
      two (inr (inl b)) n = inr b
      two (inr (inr c)) n = absurd (n c)

      go : (a : Answer Yard) → day_for l text size ≡ a → TextMemory
      go (refuses k carries) e = record {
        unchanged = λ m values q n. (rw e at contractCost, (rw e at contractChoice, rw e));
        row_kept = λ m values q n. rw e;
        beyond = λ y r. (ap (drop (2 ^ y.trains)) (rw e at contractCost), ap (drop (y.slots * 2 ^ y.trains)) (rw e at contractChoice));
        none = λ m values q. rw e;
      }
      go (gives y) e =
          let answer = planned l y (length cost) (length choice) (length row) in
          let m = memory_after l y cost choice row answer costAfter choiceAfter (row_after l y (length cost) (length choice) row) refl refl (rw e at contractCost) (rw e at contractChoice) in
          record {
            unchanged = λ k values q n.
                let r : answer ≡ refuses k values = rw e at q in
                let u = m.unchanged r (two (refuses_only l y (length cost) (length choice) (length row) r) n) in
                (u.0, (u.1.0, rw e u.1.1));
            row_kept = λ k values q n. let r : answer ≡ refuses k values = rw e at q in rw e (m.row_kept r n);
            beyond = λ z r. let is = day_read number_count l text size y z e r in rw is (m.cost_beyond, m.choice_beyond);
            none = λ k values q. let r : answer ≡ refuses k values = rw e at q in rw e (ap (slots_in y) r);
          }
