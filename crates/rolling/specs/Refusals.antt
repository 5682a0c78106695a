-- Which refusals each call of a moving day can give, on any state and in any memory:
--   begin-only   8, 10, 9, 16 (begin-sound-only: on a sound day not 8);
--   close-only   8, 20;
--   cancel-only  8, 10, 3, 18: neither 9 nor 16, since the plan without the train is still allowed;
--   add-only     8, 10, 3, 19, 5, 9, 16;
--   boxes-only   8, 10, 3, 18, 6: neither 9 nor 16, since the plan is still allowed.
-- Each carries 0, but 9.
-- Assumes nothing.
use Rattle.std.specs.Prelude.{◌≡◌, refl, true, false, List, [], ◌∷◌, ◌⊎◌, ℕ, T}
use Rattle.std.proofs.Common.{sym, inl, inr}
use Rattle.std.proofs.Math.Path.{subst}
use Rattle.std.proofs.Math.Option.{Option, none, some}
use Rattle.model.specs.Model.{Yard, bound_inside}
use Rattle.model.specs.BestOf.{best_of}
use Rattle.model.specs.Overbooked.{Interval, first_overbooked}
use Rattle.day.specs.Answer.{Answer, gives, refuses, on_given, Check, must, checked}
use Rattle.day.specs.AnswerLaws.{AllHold, checked_gives, Only, OnlyChecks, only_checked, only_after}
use Rattle.day.specs.Sound.{sound}
use Rattle.day.specs.declared.Limits.{Limits}
use Rattle.planning.specs.Planning.{areas_suffice, no_row, best_row}
use Rattle.rolling.specs.Rolling.{Account, State, account_of, state_of, Change, cancel, add, set_boxes, edited, cut, best_plan, close, change, state_made, state_checks, state_after, begun_account, begun_checks, begun}
use Rattle.rolling.specs.Changes.{NoNewTrain}
use Rattle.rolling.specs.Answers.{always_taken}

-- one of these numbers, with 0; or 9 with its interval, where it is among them
abbrev pub Among : List ℕ → ℕ → List ℕ → Type 0
Among [] k carries = ⊥
Among (n ∷ ns) k carries = ((k ≡ n) × (carries ≡ 0 ∷ [])) ⊎ Among ns k carries

-- planning's own two
abbrev pub OfPlanning : ℕ → List ℕ → Type 0
OfPlanning k carries = ((k ≡ 9) × ((a b n : ℕ) × (carries ≡ a ∷ b ∷ n ∷ []))) ⊎ ((k ≡ 16) × (carries ≡ 0 ∷ []))

abbrev pub AmongOrPlanning : List ℕ → ℕ → List ℕ → Type 0
AmongOrPlanning ns k carries = Among ns k carries ⊎ OfPlanning k carries

pub plan_only : (y : Yard) → Only OfPlanning (best_plan y)
plan_only y = go (best_of y)
  where
    row : (w : Option Interval) → Only {X = List ℕ} OfPlanning (no_row y w)
    row none = inr (refl, refl)
    row (some w) = inl (refl, (w.first, w.last, bound_inside y w.first w.last, refl))

    go : (o : Option (List ℕ)) → Only OfPlanning (best_row y o)
    go none = row (first_overbooked y)
    go (some r) = tt

-- where a check fails, only the checks' refusals
checks_decide : {X : Type 0} (p : ℕ → List ℕ → Type 0) (checks : List Check) (a : Answer X) → OnlyChecks p checks → (AllHold checks → Only p a) → Only p (checked checks a)
checks_decide p [] a h g = g tt
checks_decide p (must true k carries ∷ checks) a h g = checks_decide p checks a h.1 (λ t. g (tt, t))
checks_decide p (must false k carries ∷ checks) a h g = h.0

module _ (l : Limits) where
  -- what a plan is made into has planning's refusals alone
  made_only : (ns : List ℕ) (a : Account) (r : Answer (List ℕ)) → Only OfPlanning r → Only (AmongOrPlanning ns) (on_given r λ plan. gives (state_of a plan))
  made_only ns a (gives plan) h = tt
  made_only ns a (refuses k carries) h = inr h

  pub begin_only : (y : Yard) (costs choices : ℕ) → Only (AmongOrPlanning (8 ∷ 10 ∷ [])) (begun l y costs choices)
  unfolding begun
  begin_only y costs choices =
      checks_decide (AmongOrPlanning (8 ∷ 10 ∷ [])) (begun_checks l y costs choices) (on_given (best_plan y) λ plan. gives (state_of (begun_account y) plan))
      (inl (inl (refl, refl)), (inl (inr (inl (refl, refl))), tt)) (λ h. made_only (8 ∷ 10 ∷ []) (begun_account y) (best_plan y) (plan_only y))

  -- a sound day never gets 8
  pub begin_sound_only : (y : Yard) (costs choices : ℕ) → T (sound l y) → Only (AmongOrPlanning (10 ∷ [])) (begun l y costs choices)
  unfolding begun
  begin_sound_only y costs choices s =
      only_after (AmongOrPlanning (10 ∷ [])) (sound l y) 8 (0 ∷ []) (must (areas_suffice costs choices) 10 (0 ∷ []) ∷ []) (on_given (best_plan y) λ plan. gives (state_of (begun_account y) plan)) s
      (inl (inl (refl, refl)), tt) (made_only (10 ∷ []) (begun_account y) (best_plan y) (plan_only y))

  pub close_only : (s : State) → Only (Among (8 ∷ 20 ∷ [])) (state_after l s close)
  unfolding state_after
  close_only s = only_checked (Among (8 ∷ 20 ∷ [])) (state_checks l s close) (state_made s close) (inl (refl, refl), (inr (inl (refl, refl)), tt)) tt

  -- where nothing new comes in, a change that passes its checks is taken
  taken : (ns : List ℕ) (s : State) (c : Change) (costs choices : ℕ) → NoNewTrain c → AllHold (state_checks l s (change c costs choices)) → Only (Among ns) (state_made s (change c costs choices))
  unfolding state_after
  taken ns s c costs choices u (t, (e, h)) =
      let (next, q) = always_taken l s c costs choices t e h u in
      subst (Only (Among ns)) (sym (checked_gives (state_checks l s (change c costs choices)) (state_made s (change c costs choices)) next q).1) tt

  pub cancel_only : (s : State) (x costs choices : ℕ) → Only (Among (8 ∷ 10 ∷ 3 ∷ 18 ∷ [])) (state_after l s (change (cancel x) costs choices))
  unfolding state_after
  cancel_only s x costs choices =
      checks_decide (Among (8 ∷ 10 ∷ 3 ∷ 18 ∷ [])) (state_checks l s (change (cancel x) costs choices)) (state_made s (change (cancel x) costs choices))
      (inl (refl, refl), (inr (inl (refl, refl)), (inr (inr (inl (refl, refl))), (inr (inr (inr (inl (refl, refl)))), tt)))) (taken (8 ∷ 10 ∷ 3 ∷ 18 ∷ []) s (cancel x) costs choices tt)

  pub boxes_only : (s : State) (to from boxes costs choices : ℕ) → Only (Among (8 ∷ 10 ∷ 3 ∷ 18 ∷ 6 ∷ [])) (state_after l s (change (set_boxes to from boxes) costs choices))
  unfolding state_after
  boxes_only s to from boxes costs choices =
      checks_decide (Among (8 ∷ 10 ∷ 3 ∷ 18 ∷ 6 ∷ [])) (state_checks l s (change (set_boxes to from boxes) costs choices)) (state_made s (change (set_boxes to from boxes) costs choices))
      (inl (refl, refl), (inr (inl (refl, refl)), (inr (inr (inl (refl, refl))), (inr (inr (inr (inl (refl, refl)))), (inr (inr (inr (inr (inl (refl, refl))))), tt)))))
      (taken (8 ∷ 10 ∷ 3 ∷ 18 ∷ 6 ∷ []) s (set_boxes to from boxes) costs choices tt)

  pub add_only : (s : State) (x first last costs choices : ℕ) → Only (AmongOrPlanning (8 ∷ 10 ∷ 3 ∷ 19 ∷ 5 ∷ [])) (state_after l s (change (add x first last) costs choices))
  unfolding state_after
  add_only s x first last costs choices =
      checks_decide (AmongOrPlanning (8 ∷ 10 ∷ 3 ∷ 19 ∷ 5 ∷ [])) (state_checks l s (change (add x first last) costs choices)) (state_made s (change (add x first last) costs choices))
      (inl (inl (refl, refl)), (inl (inr (inl (refl, refl))), (inl (inr (inr (inl (refl, refl)))), (inl (inr (inr (inr (inl (refl, refl))))), (inl (inr (inr (inr (inr (inl (refl, refl)))))), tt)))))
      (λ h. made_only (8 ∷ 10 ∷ 3 ∷ 19 ∷ 5 ∷ []) (edited (account_of s) (add x first last)) (best_plan (cut (edited (account_of s) (add x first last)))) (plan_only (cut (edited (account_of s) (add x first last)))))
