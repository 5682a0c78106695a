-- Each return is one of the laws `change_..` of specs/Laws.antt, from the checks passed before it.
use Rattle.std.proofs.Common.{refl, sym, subst, ◌∙◌, T, length}
use Rattle.fold.specs.Test.{of_true}
use Rattle.day.specs.Sound.{day_limits, sound}
use Rattle.rolling.specs.States.{sound_state}
use Rattle.rolling_state.specs.States.{state_in}
use Rattle.rolling_state.specs.Laws.{passed_on}
use Rattle.account_edits.specs.Accounts.{change_in}
use Rattle.rolling_calls.specs.Laws.{change_unsound, change_short, change_refused, change_standing-made, change_made}
use Rattle.rolling_calls.proofs.changed_state.Goals as goal

pub returns-then-not-is_state_sound : goal.returns-then-not-is_state_sound
returns-then-not-is_state_sound c =
    let e = change_unsound (state_in c.args.state) (change_in c.args.change) _ _ (sym c.if-not-is_state_sound.ensures) in
    record { said = e.0; costs = rw (← e.1) refl; choices = rw (← e.1) refl }

pub returns-then-not-are_areas_enough : goal.returns-then-not-are_areas_enough
returns-then-not-are_areas_enough c =
    let e = change_short (state_in c.args.state) (change_in c.args.change) _ _ (sym c.if-not-is_state_sound.ensures) (sym c.if-not-are_areas_enough.ensures) in
    record { said = e.0; costs = rw (← e.1) refl; choices = rw (← e.1) refl }

pub edited_account-requires : goal.edited_account-requires
edited_account-requires c = subst (λ a. T (sound day_limits a.day)) (sym c.account_of.ensures) (sound_state day_limits (state_in c.args.state) (of_true (sym c.if-not-is_state_sound.ensures))).is_sound

pub returns-in_err-account : goal.returns-in_err-account
returns-in_err-account c =
    let e = change_refused (state_in c.args.state) (change_in c.args.change) _ _ (sym c.if-not-is_state_sound.ensures) (sym c.if-not-are_areas_enough.ensures) (rw c.account_of.ensures at (sym c.in_err-account.ensures)) in
    record { said = passed_on _ _ c.from_residual.ensures.1 ∙ e.0; costs = rw (← e.1) refl; choices = rw (← e.1) refl }

pub replan-requires : goal.replan-requires
replan-requires c = (
  change_standing-made (state_in c.args.state) (change_in c.args.change) (length c.args.cost.now) (length c.args.choice.now) (sym c.if-not-is_state_sound.ensures) (sym c.if-not-are_areas_enough.ensures) (rw c.account_of.ensures at (sym c.in_ok-account.ensures)),
  of_true (sym c.if-not-are_areas_enough.ensures),
)

pub returns : goal.returns
returns c =
    let made = c.replan.ensures in
    let e = change_made (state_in c.args.state) (change_in c.args.change) _ _ (sym c.if-not-is_state_sound.ensures) (sym c.if-not-are_areas_enough.ensures) (rw c.account_of.ensures at (sym c.in_ok-account.ensures)) in
    record { said = made.said ∙ e.0; costs = rw (← e.1) made.costs; choices = rw (← e.1) made.choices }
