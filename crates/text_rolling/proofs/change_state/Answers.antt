-- A state that a change gives is sound.
use Rattle.std.specs.Prelude.{length}
use Rattle.std.proofs.Math.Path.{sym}
use Rattle.day.specs.Sound.{day_limits}
use Rattle.rolling.specs.Rolling.{change as changing}
use Rattle.rolling.specs.Answers.{taken_sound}
use Rattle.rolling_state.specs.States.{state_in}
use Rattle.account_edits.specs.Accounts.{change_in}
use Rattle.text_rolling.proofs.change_state.Goals as goal

pub put_state-requires : goal.put_state-requires
put_state-requires c =
    let a = c.args in
    let call = changing (change_in a.change) (length a.cost.now) (length a.choice.now) in
    (taken_sound day_limits (state_in a.state) call (state_in c.change-changed.result.state) (sym (rw c.in_default.is at c.change-changed.ensures.says.said)), c.requires)
