-- The row goes on to its check.
use Rattle.std.proofs.Common.{sym, ◌∙◌, arith}
use Rattle.fold.specs.Test.{of_true}
use Rattle.day.specs.Sound.{head_ranges}
use Rattle.day.specs.SoundLaws.{within_is}
use Rattle.dayfile.specs.Reading.{head_checks}
use Rattle.day_rows.specs.Steps.{check_passed, check_fails, all_passed, five_checks}
use Rattle.day_rows.proofs.read_head_row.Goals as goal

pub returns-then-not-head_within : goal.returns-then-not-head_within
returns-then-not-head_within c =
    let read = five_checks _ _ (head_checks c.args.l) _ (rw c.in-Row.is at c.in_ok-trains.ensures) in
    check_fails read (sym c.head_within.ensures ∙ c.if-not-head_within.true)

pub overflow_cast-head-2 : goal.overflow_cast-head-2
unfolding head_ranges
overflow_cast-head-2 c =
    let (trains, (tracks, (slots, rest))) = within_is (head_ranges c.args.l) _ (of_true (sym c.head_within.ensures ∙ c.if-not-head_within.false)) in
    omega (arith, slots)

pub returns : goal.returns
returns c =
    let read = five_checks _ _ (head_checks c.args.l) _ (rw c.in-Row.is at c.in_ok-trains.ensures) in
    all_passed (check_passed read (sym c.head_within.ensures ∙ c.if-not-head_within.false))
