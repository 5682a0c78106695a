-- The day's own test, then the laws of specs/Laws.antt.
use Rattle.std.proofs.Common.{sym, rules}
use Rattle.fold.specs.Test.{of_true}
use Rattle.day.specs.SoundLaws.{sound_is}
use Rattle.rolling_state.specs.States.{state_in}
use Rattle.rolling_state.specs.Laws.{unsound_day, rest_decides}
use Rattle.rolling_state.proofs.is_state_sound.Goals as goal

pub returns-then-not-is_sound : goal.returns-then-not-is_sound
returns-then-not-is_sound c = unsound_day _ (state_in c.args.state) (sym c.if-not-is_sound.ensures)

pub shared_ref_as_front-value_assignment : goal.shared_ref_as_front-value_assignment
shared_ref_as_front-value_assignment c = (sound_is _ _ (of_true (sym c.if-not-is_sound.ensures))).trains.1

pub returns : goal.returns
returns c = rw (c.is_ok.ensures.value, c.is_zero_past.ensures) (rest_decides _ (state_in c.args.state) _ c.value_assignment.ensures (sym c.if-not-is_sound.ensures) (search rules))
