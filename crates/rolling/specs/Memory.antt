-- Lent memory, in the words of document 01 and of order 7: let a call of a moving day have answered `said`, and its areas hold `costAfter` and
-- `choiceAfter`, as its contract says. Then
--   change-memory, begin-memory   after any refusal but 9 and 16 no word has changed; words beyond the first 4,096 and the first 32,768 never do.
-- Assumes nothing.
use Rattle.std.specs.Prelude.{◌≡◌, refl, Bool, true, false, List, ℕ, length, drop}
use Rattle.std.proofs.Common.{sym, ◌∙◌, subst}
use Rattle.fold.specs.Test.{of_true}
use Rattle.model.specs.Model.{Yard}
use Rattle.day.specs.Answer.{Answer, gives, refuses, on_given, Check, checked, holding}
use Rattle.day.specs.AnswerLaws.{holding_all, checked_holds, Only, only_given}
use Rattle.day.specs.declared.Limits.{Limits}
use Rattle.planning.specs.Planning.{cost_area, choice_area, open_words, Stays}
use Rattle.planning.proofs.Laws.{stays_beyond}
use Rattle.rolling.specs.Rolling.{Account, State, account_of, state_of, Change, edited, cut, best_plan, change, state_checks, state_after, begun_account, begun_checks, begun, state_begins, begun_begins}
use Rattle.rolling.specs.Refusals.{OfPlanning, plan_only}

-- where all checks hold, a refusal is planning's; so after another one they do not
not_begun : (checks : List Check) (a : Account) (r : Answer (List ℕ)) (k : ℕ) (carries : List ℕ) → Only OfPlanning r
    → checked checks (on_given r λ plan. gives (state_of a plan)) ≡ refuses k carries → (OfPlanning k carries → ⊥) → holding checks ≡ false
not_begun checks a r k carries h e other = go (holding checks) refl
  where
    go : (b : Bool) → holding checks ≡ b → holding checks ≡ false
    go false q = q
    go true q =
        let made = on_given r (λ plan. gives (state_of a plan)) in
        absurd (other (subst (Only OfPlanning) (sym (checked_holds checks made (holding_all checks (of_true q))) ∙ e) (only_given OfPlanning r (λ plan. gives (state_of a plan)) h (λ plan p. tt))))

-- ---- the two areas, where planning begins or not

pub record Areas (said : Answer State) (cost choice costAfter choiceAfter : List ℕ) : Type 0 where
  -- after any refusal but planning's own nothing lent has changed
  pub unchanged : (k : ℕ) (carries : List ℕ) → said ≡ refuses k carries → (OfPlanning k carries → ⊥) → (costAfter ≡ cost) × (choiceAfter ≡ choice)
  pub cost_beyond : drop 4096 costAfter ≡ drop 4096 cost
  pub choice_beyond : drop 32768 choiceAfter ≡ drop 32768 choice

module _ (said : Answer State) (begins : Bool) (cost choice costAfter choiceAfter : List ℕ)
    (contractCost : Stays (open_words begins cost_area) cost costAfter) (contractChoice : Stays (open_words begins choice_area) choice choiceAfter)
    (only : (k : ℕ) (carries : List ℕ) → said ≡ refuses k carries → (OfPlanning k carries → ⊥) → begins ≡ false) where
  pub areas_after : Areas said cost choice costAfter choiceAfter
  areas_after = record {
    unchanged = λ k carries e other. let f = only k carries e other in (rw f at contractCost, rw f at contractChoice);
    cost_beyond = stays_beyond begins 4096 cost costAfter contractCost;
    choice_beyond = stays_beyond begins 32768 choice choiceAfter contractChoice;
  }

module _ (l : Limits) (cost choice costAfter choiceAfter : List ℕ) where
  pub change_memory : (s : State) (c : Change)
      → Stays (open_words (state_begins l s (change c (length cost) (length choice))) cost_area) cost costAfter
      → Stays (open_words (state_begins l s (change c (length cost) (length choice))) choice_area) choice choiceAfter
      → Areas (state_after l s (change c (length cost) (length choice))) cost choice costAfter choiceAfter
  unfolding state_after
  change_memory s c x y =
      areas_after (state_after l s (change c (length cost) (length choice))) (state_begins l s (change c (length cost) (length choice))) cost choice costAfter choiceAfter x y
      (λ k carries e other.
      not_begun (state_checks l s (change c (length cost) (length choice))) (edited (account_of s) c) (best_plan (cut (edited (account_of s) c))) k carries (plan_only (cut (edited (account_of s) c))) e other)

  pub begin_memory : (y : Yard)
      → Stays (open_words (begun_begins l y (length cost) (length choice)) cost_area) cost costAfter
      → Stays (open_words (begun_begins l y (length cost) (length choice)) choice_area) choice choiceAfter
      → Areas (begun l y (length cost) (length choice)) cost choice costAfter choiceAfter
  unfolding begun
  begin_memory y x z =
      areas_after (begun l y (length cost) (length choice)) (begun_begins l y (length cost) (length choice)) cost choice costAfter choiceAfter x z
      (λ k carries e other. not_begun (begun_checks l y (length cost) (length choice)) (begun_account y) (best_plan y) k carries (plan_only y) e other)
