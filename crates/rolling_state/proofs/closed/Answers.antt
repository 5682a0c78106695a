-- Each return is one of the laws `close_..` of specs/Laws.antt, from the checks passed before it.
use Rattle.std.proofs.Common.{sym}
use Rattle.rolling_state.specs.States.{state_in}
use Rattle.rolling_state.specs.Laws.{close_unsound, close_none, close_taken}
use Rattle.rolling_state.proofs.closed.Goals as goal

pub returns-then-not-is_state_sound : goal.returns-then-not-is_state_sound
returns-then-not-is_state_sound c = close_unsound _ _ (sym c.if-not-is_state_sound.ensures)

pub returns-then-state : goal.returns-then-state
returns-then-state c = close_none _ (state_in c.args.state) (sym c.if-not-is_state_sound.ensures) c.if-state.true

pub returns : goal.returns
returns c = close_taken _ (state_in c.args.state) (sym c.if-not-is_state_sound.ensures) c.if-state.false
