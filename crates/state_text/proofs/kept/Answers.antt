-- Reading's refusal, a row of another length, and the state, by the laws of specs/Laws.antt.
use Rattle.std.proofs.Common.{sym, ◌∙◌, arith}
use Rattle.day.specs.Sound.{day_limits, yard}
use Rattle.day.specs.SoundLaws.{sound_is}
use Rattle.dayfile.specs.RoundTrip.{read_sound}
use Rattle.rolling_state.specs.Laws.{passed_on}
use Rattle.state_text.specs.Laws.{kept_refused, kept-eight, kept_taken}
use Rattle.state_text.proofs.kept.Goals as goal

pub returns-in_err-day : goal.returns-in_err-day
returns-in_err-day c = passed_on _ _ c.from_residual.ensures.1 ∙ sym (kept_refused day_limits c.args.text.now c.args.closed c.args.row.now (sym c.in_err-day.ensures))

pub returns-then-row-day : goal.returns-then-row-day
returns-then-row-day c = sym (kept-eight day_limits c.args.text.now c.args.closed c.args.row.now (sym c.in_ok-day.ensures) c.if-row-day.true)

pub padded-requires : goal.padded-requires
padded-requires c = omega (arith, c.if-row-day.false, (sound_is day_limits (yard c.in_ok-day.day) (read_sound day_limits _ (yard c.in_ok-day.day) (sym c.in_ok-day.ensures))).trains.1)

pub returns : goal.returns
returns c = kept_taken day_limits c.args.text.now c.args.closed c.args.row.now (sym c.in_ok-day.ensures) c.if-row-day.false c.padded.ensures
