-- The ways out of a change come to what the call answers.
-- Assumes nothing.
use Rattle.std.specs.Prelude.{◌≡◌, Bool, true, false, List, [], ◌∷◌, ℕ}
use Rattle.std.proofs.Math.Path.{sym, subst}
use Rattle.std.proofs.Common.{ap, ◌∙◌}
use Rattle.fold.specs.Test.{of_true, is_true}
use Rattle.day.specs.Answer.{Answer, gives, refuses, holding}
use Rattle.day.specs.AnswerLaws.{gives_same, checked_gives, checked_holds, checked_refuses, all_holding, refused_holding}
use Rattle.day.specs.Sound.{day_limits}
use Rattle.planning.specs.Planning.{areas_suffice}
use Rattle.rolling.specs.Rolling.{Account, State, account_of, Change, edited, change, change_checks, state_sound, state_made, state_after, state_begins}
use Rattle.rolling.specs.Cut.{Standing}
use Rattle.rolling.specs.Changes.{change_standing}
use Rattle.rolling.specs.States.{sound_state, state_standing}
use Rattle.account_edits.specs.Accounts.{made}
use Rattle.replanning.specs.Replans.{plan_of_account}

-- what a call answers and whether it begins to plan
abbrev pub Comes : State → Change → ℕ → ℕ → Answer State → Bool → Type 0
Comes s c costs choices a begins = (a ≡ state_after day_limits s (change c costs choices)) × (begins ≡ state_begins day_limits s (change c costs choices))

module _ (s : State) (c : Change) (costs choices : ℕ) where
  pub change_unsound : state_sound day_limits s ≡ false → Comes s c costs choices (refuses 8 (0 ∷ [])) false
  unfolding state_after
  change_unsound e = (rw e, rw e)

  module _ (t : state_sound day_limits s ≡ true) where
    pub change_short : areas_suffice costs choices ≡ false → Comes s c costs choices (refuses 10 (0 ∷ [])) false
    unfolding state_after
    change_short e = (rw (t, e), rw (t, e))

    module _ (enough : areas_suffice costs choices ≡ true) where
      pub change_refused : {k : ℕ} {carries : List ℕ} → made day_limits (account_of s) c ≡ refuses k carries → Comes s c costs choices (refuses k carries) false
      unfolding state_after made
      change_refused {k} {carries} e =
          let checks = change_checks day_limits (account_of s) c in
          (rw (t, enough) (sym (checked_refuses checks (edited (account_of s) c) (state_made s (change c costs choices)) e)), rw (t, enough) (sym (refused_holding checks (edited (account_of s) c) e)))

      -- the changed account stands, and planning it is the call
      pub change_standing-made : {a : Account} → made day_limits (account_of s) c ≡ gives a → Standing day_limits a
      unfolding made
      change_standing-made {a} e =
          let (h, q) = checked_gives (change_checks day_limits (account_of s) c) (gives (edited (account_of s) c)) a e in
          subst (Standing day_limits) (gives_same q) (change_standing (state_standing (sound_state day_limits s (of_true t))) c h)

      pub change_made : {a : Account} → made day_limits (account_of s) c ≡ gives a → Comes s c costs choices (plan_of_account a) true
      unfolding state_after made
      change_made {a} e =
          let checks = change_checks day_limits (account_of s) c in
          let (h, q) = checked_gives checks (gives (edited (account_of s) c)) a e in (
            rw (t, enough) (ap plan_of_account (sym (gives_same q)) ∙ sym (checked_holds checks (state_made s (change c costs choices)) h)),
            rw (t, enough) (sym (is_true (holding checks) (all_holding checks h))),
          )
