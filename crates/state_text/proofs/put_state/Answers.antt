-- `state_text::put_state` meets its contract. The day is sound, so its text fits.
use Rattle.std.specs.Prelude.{◌∷◌, ◌≤◌, length, drop}
use Rattle.std.proofs.Math.Path.{ap}
use Rattle.std.proofs.Common.{◌∙◌}
use native.Mathlib.Omega.{arith}
use Rattle.day.specs.Sound.{day_limits, yard}
use Rattle.dayfile.specs.Size.{day_size, day_most}
use Rattle.dayfile.specs.Writing.{day_text}
use Rattle.output.specs.Laws.{put_count, put_list}
use Rattle.rolling.specs.States.{sound_state}
use Rattle.rolling_state.specs.States.{state_in}
use Rattle.telling.specs.Telling.{number_count}
use Rattle.state_text.proofs.put_state.Goals as goal

pub put_day-bytes-requires : goal.put_day-bytes-requires
put_day-bytes-requires c =
    let s = c.args in
    let ok = (sound_state day_limits (state_in s.state) c.requires.0).is_sound in
    (ok, omega (arith, day_size day_limits (yard s.state.day) ok, day_most, c.requires.1.0))

pub returns : goal.returns
returns c =
    let s = c.args in
    let state = s.state in
    let ok = (sound_state day_limits (state_in s.state) c.requires.0).is_sound in
    let fits : length (day_text day_limits (yard state.day)) ≤ length s.day.now = omega (arith, day_size day_limits (yard s.state.day) ok, day_most, c.requires.1.0) in
    record {
      day_is_lem = put_list c.put_day-bytes.ensures fits;
      next_is = c.put_plan.ensures;
      numbers_are_lem = c.put_figures.ensures ∙ ap (λ k. state.closed ∷ state.day.trains ∷ k ∷ 0 ∷ drop number_count s.numbers.now) (put_count c.put_day-bytes.ensures);
    }
