-- `long_planning::plan_long` meets its contract. Each answer by the laws `left-…` of specs/Laws.antt.
use mathlib.Core.Path.{◌≡◌, sym, ◌∙◌}
use mathlib.Core.Bool.{true}
use lib.ListN.{length}
use borrow.Author.Tests.{lt-leb, le-leb}
use Rattle.day.specs.Sound.{sound}
use Rattle.long_day.specs.LongDay.{long_limits, long_yard}
use Rattle.long_planning.specs.LongPlanning.{is_width}
use Rattle.long_planning.proofs.Laws.{left_unsound, left_width, left_short, left_decided}
use Rattle.long_planning.proofs.plan_long.Goals as goal

pub returns-then-not-is_long_sound : goal.returns-then-not-is_long_sound
returns-then-not-is_long_sound c =
    let a = c.args in
    let h = left_unsound long_limits (long_yard a.day) a.width a.row.now (sym c.is_long_sound.ensures ∙ c.if-not-is_long_sound.true) in
    record { result_value = h.says; row_after = h.row_is }

pub returns-then-not-is_width : goal.returns-then-not-is_width
returns-then-not-is_width c =
    let a = c.args in
    let good : sound long_limits (long_yard a.day) ≡ true = sym c.is_long_sound.ensures ∙ c.if-not-is_long_sound.false in
    let h = left_width long_limits (long_yard a.day) a.width a.row.now good (sym c.is_width.ensures ∙ c.if-not-is_width.true) in
    record { result_value = h.says; row_after = h.row_is }

pub returns-then-row-day : goal.returns-then-row-day
returns-then-row-day c =
    let a = c.args in
    let good : sound long_limits (long_yard a.day) ≡ true = sym c.is_long_sound.ensures ∙ c.if-not-is_long_sound.false in
    let wide : is_width a.width ≡ true = sym c.is_width.ensures ∙ c.if-not-is_width.false in
    let h = left_short long_limits (long_yard a.day) a.width a.row.now good wide (lt-leb a.day.trains (length a.row.now) c.if-row-day.true) in
    record { result_value = h.says; row_after = h.row_is }

pub returns : goal.returns
returns c =
    let a = c.args in
    let good : sound long_limits (long_yard a.day) ≡ true = sym c.is_long_sound.ensures ∙ c.if-not-is_long_sound.false in
    let wide : is_width a.width ≡ true = sym c.is_width.ensures ∙ c.if-not-is_width.false in
    let h = left_decided long_limits (long_yard a.day) a.width a.row.now good wide (le-leb a.day.trains (length a.row.now) c.if-row-day.false) c.plan_sound.ensures in
    record { result_value = h.says; row_after = h.row_is }
