-- Begin, in the words of order 7 and of document 01:
--   begun-best      a day that is begun is the day that was given, with no slot closed and the day's own best plan;
--   begun-exactly   a sound day is begun, in 4,096 and 32,768 words, exactly where it has an allowed row;
--   begun-refused   else it gets the 9 or 16 of the day itself;
--   begun-eight, begun-ten   8 for every unsound day, then 10 for shorter areas.
-- Assumes nothing.
use Rattle.std.specs.Prelude.{◌≡◌, refl, List, [], ◌∷◌, ◌⊎◌, ◌↔◌, ℕ, ◌≤◌, ◌<◌, T}
use Rattle.std.proofs.Math.Path.{ap, subst}
use Rattle.std.proofs.Common.{◌∙◌}
use Rattle.std.proofs.Math.Option.{Option, none, some}
use Rattle.fold.specs.Test.{is_true, is_false}
use Rattle.model.specs.Model.{Yard, allowed, Best, NoRow}
use Rattle.model.specs.BestOf.{best_of}
use Rattle.model.proofs.BestOf.{is_none_lem}
use Rattle.day.specs.Answer.{Answer, gives, refuses, on_given}
use Rattle.day.specs.AnswerLaws.{checked_gives, checked_holds}
use Rattle.day.specs.Sound.{sound}
use Rattle.day.specs.declared.Limits.{Limits}
use Rattle.planning.specs.Planning.{best_row}
use Rattle.planning.proofs.Answers.{areas_short, areas_enough}
use Rattle.rolling.specs.Rolling.{State, plan_of, state_of, best_plan, begun_account, begun_checks, begun}
use Rattle.rolling.specs.Cut.{kept-best}
use Rattle.rolling.specs.Follows.{begun-standing, begun-cut, begin_follows}
use Rattle.rolling.specs.Answers.{Nine, Sixteen, none_refused}

module _ (l : Limits) (y : Yard) (costs choices : ℕ) where
  -- ---- a day that is begun

  pub record BegunBest (s : State) : Type 0 where
    pub same_day_lem : s.day ≡ y
    pub all_open : s.closed ≡ 0
    pub best : Best y (plan_of s)

  pub begun-best : (s : State) → begun l y costs choices ≡ gives s → BegunBest s
  unfolding begun
  begun-best s e =
      let t = (checked_gives (begun_checks l y costs choices) (on_given (best_plan y) (λ plan. gives (state_of (begun_account y) plan))) s e).0.0 in
      let f = begin_follows l y costs choices s e in
      record {
        same_day_lem = ap (λ a. a.day) f.account;
        all_open = ap (λ a. a.closed) f.account;
        best = subst (λ z. Best z (plan_of s)) (begun-cut l y t) (kept-best (begun-standing l y t) (plan_of s) f.best);
      }

  pub begun-eight : (T (sound l y) → ⊥) → begun l y costs choices ≡ refuses 8 (0 ∷ [])
  unfolding begun
  begun-eight h = rw (is_false (sound l y) h)

  module _ (t : T (sound l y)) where
    pub begun_ten : (costs < 4096) ⊎ (choices < 32768) → begun l y costs choices ≡ refuses 10 (0 ∷ [])
    unfolding begun
    begun_ten h = rw (is_true (sound l y) t, areas_short costs choices h)

    module _ (enough : 4096 ≤ costs) (more : 32768 ≤ choices) where
      abbrev made : Answer State
      made = on_given (best_plan y) (λ plan. gives (state_of (begun_account y) plan))

      says : begun l y costs choices ≡ made
      unfolding begun
      says = checked_holds (begun_checks l y costs choices) made (t, (areas_enough costs choices enough more, tt))

      pub begun_exactly : ((s : State) × (begun l y costs choices ≡ gives s)) ↔ ((row : List ℕ) × T (allowed y row))
      begun_exactly = (λ w. (plan_of w.0, (begun-best w.0 w.1).best.is_allowed), λ w. go w (best_of y) refl)
        where
          go : ((row : List ℕ) × T (allowed y row)) → (o : Option (List ℕ)) → best_of y ≡ o → (s : State) × (begun l y costs choices ≡ gives s)
          go w none e = absurd (is_none_lem y e w.0 w.1)
          go w (some plan) e = (state_of (begun_account y) plan, says ∙ ap (λ o. on_given (best_row y o) (λ plan. gives (state_of (begun_account y) plan))) e)

      pub begun_refused : NoRow y → Nine y (begun l y costs choices) ⊎ Sixteen y (begun l y costs choices)
      begun_refused nowhere = none_refused y (begun l y costs choices) (λ plan. gives (state_of (begun_account y) plan)) says nowhere
