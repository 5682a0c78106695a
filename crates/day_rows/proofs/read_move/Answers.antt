-- A row that the line reader found goes on to its checks, and the first that fails decides.
use Rattle.std.proofs.Common.{[], ◌∷◌, ◌≡◌, false, ℕ, List, drop, sym, ◌∙◌}
use Rattle.day.specs.declared.Limits.{Limits}
use Rattle.lines.specs.Lines.{row}
use Rattle.lines.specs.Reader.{found, RowAt}
use Rattle.lines.specs.declared.Due.{Due}
use Rattle.dayfile.specs.Reading.{group_names, read_row, move_checks, moves_end}
use Rattle.day_rows.specs.Steps.{EndsOrRow, ToChecks, check_passed, check_fails, all_passed, three_checks, row_at, move_due, move_found}
use Rattle.day_rows.specs.Joined.{handed_up}
use Rattle.day_rows.proofs.Lines.{ends_there, form_refused, pair_later}
use Rattle.day_rows.proofs.read_move.Goals as goal

-- what the line reader finds is what is due at a move
is_due : (l : Limits) (line : ℕ) (s : List ℕ) {due : Due} → due ≡ move_due l → EndsOrRow (moves_end l s) line (row 2 s) (found due group_names line s)
is_due l line s e = rw e (move_found line l s)

-- a row there goes on to the checks of a move
move_read : (l : Limits) (numbers before : List ℕ) (line : ℕ) (t s : List ℕ) {due : Due} {a b c d e next : ℕ}
    → due ≡ move_due l → RowAt t (found due group_names line s) a b c d e next
    → ToChecks t (move_checks l numbers before line (a ∷ b ∷ c ∷ [])) (read_row 2 line (move_checks l numbers before line) s) (a ∷ b ∷ c ∷ []) next
    × (moves_end l s ≡ false)
move_read l numbers before line t s due h =
    let f = row_at t (moves_end l s) line (row 2 s) _ (is_due l line s due) h in
    (three_checks t line (move_checks l numbers before line) s f.0, f.1)

pub returns-in_err-to : goal.returns-in_err-to
unfolding group_names
returns-in_err-to c =
    let a = c.args in
    let checks = move_checks a.l a.numbers.now (a.before.0 ∷ a.before.1 ∷ 0 ∷ []) a.place.line in
    rw (handed_up _ _ c.from_residual.ensures.1) (form_refused 2 _ checks _ _ _ _ (is_due a.l a.place.line (drop a.place.at a.text.now) c.move_due.ensures) c.in_err-to.ensures)

pub returns-in_default : goal.returns-in_default
unfolding group_names
returns-in_default c =
    let a = c.args in
    ends_there a.text.now 2 _ _ _ _ _ c.in_default.not-Row (is_due a.l a.place.line (drop a.place.at a.text.now) c.move_due.ensures) c.in_ok-to.ensures

pub returns-then-not-move_within : goal.returns-then-not-move_within
unfolding group_names
returns-then-not-move_within c =
    let a = c.args in
    let (read, more) = move_read a.l a.numbers.now (a.before.0 ∷ a.before.1 ∷ 0 ∷ []) a.place.line a.text.now (drop a.place.at a.text.now) c.move_due.ensures (rw c.in-Row.is at c.in_ok-to.ensures) in
    (check_fails read (sym c.move_within.ensures ∙ c.if-not-move_within.true), more)

pub returns-in_default-positions_of : goal.returns-in_default-positions_of
unfolding group_names
returns-in_default-positions_of c =
    let a = c.args in
    let (read, more) = move_read a.l a.numbers.now (a.before.0 ∷ a.before.1 ∷ 0 ∷ []) a.place.line a.text.now (drop a.place.at a.text.now) c.move_due.ensures (rw c.in-Row.is at c.in_ok-to.ensures) in
    let kept = check_passed read (sym c.move_within.ensures ∙ c.if-not-move_within.false) in
    (check_fails kept c.in_default-positions_of.ensures, more)

pub returns-then-not-lt : goal.returns-then-not-lt
unfolding group_names
returns-then-not-lt c =
    let a = c.args in
    let (read, more) = move_read a.l a.numbers.now (a.before.0 ∷ a.before.1 ∷ 0 ∷ []) a.place.line a.text.now (drop a.place.at a.text.now) c.move_due.ensures (rw c.in-Row.is at c.in_ok-to.ensures) in
    let kept = check_passed read (sym c.move_within.ensures ∙ c.if-not-move_within.false) in
    let known = check_passed kept c.in-Some.ensures.0 in
    (check_fails known (sym (pair_later a.before.0 a.before.1 _ _) ∙ sym c.lt.ensures ∙ c.if-not-lt.true), more)

pub returns : goal.returns
unfolding group_names
returns c =
    let a = c.args in
    let (read, more) = move_read a.l a.numbers.now (a.before.0 ∷ a.before.1 ∷ 0 ∷ []) a.place.line a.text.now (drop a.place.at a.text.now) c.move_due.ensures (rw c.in-Row.is at c.in_ok-to.ensures) in
    let kept = check_passed read (sym c.move_within.ensures ∙ c.if-not-move_within.false) in
    let known = check_passed kept c.in-Some.ensures.0 in
    record {
      row = all_passed (check_passed known (sym (pair_later a.before.0 a.before.1 _ _) ∙ sym c.lt.ensures ∙ c.if-not-lt.false));
      to = c.in-Some.ensures.1.0;
      from = c.in-Some.ensures.1.1;
    }
