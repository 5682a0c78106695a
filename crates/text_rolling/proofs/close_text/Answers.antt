-- The room, the state that is kept, and the slot that is closed, by the laws `closes_..` of specs/Ways.antt.
use Rattle.std.specs.Prelude.{◌≡◌, ◌∷◌, length, drop}
use Rattle.std.proofs.Math.Path.{sym, ap}
use Rattle.std.proofs.Common.{◌∙◌}
use Rattle.day.specs.Answer.{gives}
use Rattle.dayfile.specs.Writing.{day_text}
use Rattle.day.specs.Sound.{day_limits}
use Rattle.telling.specs.Telling.{number_count}
use Rattle.rolling.specs.Rolling.{state_after, close as closing}
use Rattle.rolling_state.specs.States.{state_in}
use Rattle.text_rolling.specs.Laws.{told_refused, told_given, closed_day, kept_text}
use Rattle.text_rolling.specs.Ways.{closes_untold, closes_unkept, closes_state}
use Rattle.text_rolling.proofs.close_text.Goals as goal

pub returns-then-not-is_room : goal.returns-then-not-is_room
returns-then-not-is_room c =
    let a = c.args in
    let p = closes_untold a.text.now a.closed a.row.now a.numbers.now (sym c.if-not-is_room.ensures) in
    record { value = p.says; numbers_after = p.numbers_are_lem }

pub returns-in-Err : goal.returns-in-Err
returns-in-Err c =
    let a = c.args in
    let unkept = sym (rw c.in-Err.is at c.state_of-kept.ensures.result_value) in
    let p = closes_unkept a.text.now a.closed a.row.now a.numbers.now (sym c.if-not-is_room.ensures) c.in-Err.why unkept c.tell.ensures in
    record { value = p.says; numbers_after = p.numbers_are_lem }

pub returns-in-Err-verdict : goal.returns-in-Err-verdict
returns-in-Err-verdict c =
    let a = c.args in
    let state = state_in c.state_of-kept.result.state in
    let kept = sym (rw c.in_default.is at c.state_of-kept.ensures.result_value) in
    let t = told_refused c.in-Err-verdict.why (rw c.in-Err-verdict.is at c.close-next.ensures.result_value) c.tell-in-Err-verdict.ensures in
    let p = closes_state a.text.now a.closed a.row.now a.numbers.now (sym c.if-not-is_room.ensures) state kept t in
    record { value = p.says; numbers_after = p.numbers_are_lem }

pub returns : goal.returns
returns c =
    let a = c.args in
    let state = state_in c.state_of-kept.result.state in
    let next = state_in c.close-next.result.state in
    let kept = sym (rw c.in_default.is at c.state_of-kept.ensures.result_value) in
    let closed : gives next ≡ state_after day_limits state closing = rw c.in_default-verdict.is at c.close-next.ensures.result_value in
    let bytes = ap length (kept_text a.text.now a.closed a.row.now state kept) ∙ ap (λ d. length (day_text day_limits d)) (sym (closed_day state next (sym closed))) in
    let t = told_given closed (c.put_figures.ensures ∙ ap (λ k. next.closed ∷ next.day.trains ∷ k ∷ 0 ∷ drop number_count a.numbers.now) bytes) in
    let p = closes_state a.text.now a.closed a.row.now a.numbers.now (sym c.if-not-is_room.ensures) state kept t in
    record { value = p.says; numbers_after = p.numbers_are_lem }
