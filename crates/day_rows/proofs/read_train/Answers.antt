-- The row goes on to its checks, and the first that fails decides.
use Rattle.std.proofs.Common.{sym, ◌∙◌, lt-ltb, le-ltb, le-leb}
use Rattle.std.proofs.lemmas.Bool.{lt-leb}
use Rattle.dayfile.specs.Reading.{train_checks}
use Rattle.day_rows.specs.Steps.{check_passed, check_fails, all_passed, three_checks}
use Rattle.day_rows.proofs.read_train.Goals as goal

pub returns-then-not-train_within : goal.returns-then-not-train_within
returns-then-not-train_within c =
    let a = c.args in
    let read = three_checks _ _ (train_checks a.l a.slots a.before a.place.line) _ (rw c.in-Row.is at c.in_ok-number.ensures) in
    check_fails read (sym c.train_within.ensures ∙ c.if-not-train_within.true)

pub returns-then-number-before : goal.returns-then-number-before
returns-then-number-before c =
    let a = c.args in
    let read = three_checks _ _ (train_checks a.l a.slots a.before a.place.line) _ (rw c.in-Row.is at c.in_ok-number.ensures) in
    let kept = check_passed read (sym c.train_within.ensures ∙ c.if-not-train_within.false) in
    check_fails kept (le-ltb _ _ c.if-number-before.true)

pub returns-then-last-first : goal.returns-then-last-first
returns-then-last-first c =
    let a = c.args in
    let read = three_checks _ _ (train_checks a.l a.slots a.before a.place.line) _ (rw c.in-Row.is at c.in_ok-number.ensures) in
    let kept = check_passed read (sym c.train_within.ensures ∙ c.if-not-train_within.false) in
    check_fails (check_passed kept (lt-ltb _ _ c.if-number-before.false)) (lt-leb _ _ c.if-last-first.true)

pub returns : goal.returns
returns c =
    let a = c.args in
    let read = three_checks _ _ (train_checks a.l a.slots a.before a.place.line) _ (rw c.in-Row.is at c.in_ok-number.ensures) in
    let kept = check_passed read (sym c.train_within.ensures ∙ c.if-not-train_within.false) in
    all_passed (check_passed (check_passed kept (lt-ltb _ _ c.if-number-before.false)) (le-leb _ _ c.if-last-first.false))
