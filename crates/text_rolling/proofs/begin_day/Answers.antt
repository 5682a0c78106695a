-- A day that is begun is sound, and its text is the one that was read.
use Rattle.std.specs.Prelude.{◌≡◌, ◌∷◌, length, drop}
use Rattle.std.proofs.Math.Path.{sym, ap}
use Rattle.std.proofs.Common.{◌∙◌}
use Rattle.day.specs.Answer.{gives}
use Rattle.day.specs.Sound.{day_limits, yard}
use Rattle.dayfile.specs.Writing.{day_text}
use Rattle.telling.specs.Telling.{number_count}
use Rattle.rolling.specs.Rolling.{begun}
use Rattle.rolling.specs.Answers.{begun-sound}
use Rattle.rolling_state.specs.States.{state_in}
use Rattle.state_text.specs.StateText.{plan_after}
use Rattle.text_rolling.specs.Laws.{told_given, begun_day}
use Rattle.text_rolling.proofs.begin_day.Goals as goal

pub put_plan-requires : goal.put_plan-requires
put_plan-requires c =
    let a = c.args in
    let state = state_in c.begin-begun.result.state in
    let begins = sym (rw c.in_default.is at c.begin-begun.ensures.result_value) in
    (begun-sound day_limits (yard a.day) (length a.cost.now) (length a.choice.now) state begins, c.requires.1.0)

pub returns : goal.returns
returns c =
    let a = c.args in
    let r = c.begin-begun in
    let state = state_in r.result.state in
    let begins : gives state ≡ begun day_limits (yard a.day) (length a.cost.now) (length a.choice.now) = rw c.in_default.is at r.ensures.result_value in
    let day = begun_day (yard a.day) (length a.cost.now) (length a.choice.now) state (sym begins) in
    let bytes = c.requires.0 ∙ ap (λ d. length (day_text day_limits d)) (sym day) in
    record {
      told = told_given begins (c.put_figures.ensures ∙ ap (λ k. state.closed ∷ state.day.trains ∷ k ∷ 0 ∷ drop number_count a.numbers.now) bytes);
      next_is = c.put_plan.ensures ∙ ap (λ x. plan_after x a.next.now) begins;
      costs = r.ensures.stays;
      choices = r.ensures.stays_2;
    }
