-- A row that the line reader found goes on to its checks, and the first that fails decides.
use Rattle.std.proofs.Common.{[], ◌∷◌, ◌≡◌, true, false, not, Bool, ◌&&◌, ℕ, List, eqb, get_or, drop, sym, ap, ◌∙◌}
use Rattle.day.specs.declared.Limits.{Limits}
use Rattle.lines.specs.Lines.{row}
use Rattle.lines.specs.Reader.{found, RowAt}
use Rattle.lines.specs.declared.Due.TheVariants.{PairOrEnd}
use Rattle.dayfile.specs.Reading.{position, is_listed, read_row, group_checks, is_end}
use Rattle.day_rows.specs.Members.{Marks, free_both}
use Rattle.day_rows.specs.Steps.{ToChecks, check_passed, check_fails, all_passed, two_checks, row_at, group_found}
use Rattle.day_rows.proofs.Lines.{pair_later}
use Rattle.day_rows.specs.Located.{listed, unlisted}
use Rattle.day_rows.proofs.read_group.Goals as goal

-- a row there goes on to the checks of a group's row
member_read : (l : Limits) (numbers taken before : List ℕ) (line : ℕ) (t s : List ℕ) {a b c d e next : ℕ} → RowAt t (found PairOrEnd [] line s) a b c d e next
    → ToChecks t (group_checks l numbers taken before line (a ∷ b ∷ [])) (read_row 1 line (group_checks l numbers taken before line) s) (a ∷ b ∷ []) next
    × (is_end s ≡ false)
member_read l numbers taken before line t s h =
    let f = row_at t (is_end s) line (row 1 s) _ (group_found line [] s) h in
    (two_checks t line (group_checks l numbers taken before line) s f.0, f.1)

-- of a listed train the column says whether it is in a group
is_free : {numbers groups taken : List ℕ} → Marks numbers groups taken → (x i : ℕ) → is_listed numbers x ≡ true → i ≡ position numbers x → (later : Bool)
    → (is_listed numbers x && not (is_listed taken x) && later) ≡ (eqb (get_or groups i 0) 0 && later)
is_free {numbers} {groups} {taken} marks x i there is later =
    let both : (is_listed numbers x && eqb (get_or groups (position numbers x) 0) 0) ≡ (is_listed numbers x && not (is_listed taken x)) = free_both marks x in
    ap (λ b. b && later) (sym both ∙ rw (there, is))

pub returns-then-not-group_within : goal.returns-then-not-group_within
returns-then-not-group_within c taken marks =
    let a = c.args in
    let (read, more) = member_read a.l a.numbers.now taken (a.before.0 ∷ a.before.1 ∷ []) a.place.line a.text.now (drop a.place.at a.text.now) (rw c.in-Row.is at c.in_ok-group.ensures) in
    (check_fails read (sym c.group_within.ensures ∙ c.if-not-group_within.true), more)

pub returns-in_default-position_of : goal.returns-in_default-position_of
returns-in_default-position_of c taken marks =
    let a = c.args in
    let (read, more) = member_read a.l a.numbers.now taken (a.before.0 ∷ a.before.1 ∷ []) a.place.line a.text.now (drop a.place.at a.text.now) (rw c.in-Row.is at c.in_ok-group.ensures) in
    let kept = check_passed read (sym c.group_within.ensures ∙ c.if-not-group_within.false) in
    (check_fails kept (rw (unlisted a.numbers.now c.in-Row.train c.in_default-position_of.ensures)), more)

pub returns-then-not-is_free-is_later : goal.returns-then-not-is_free-is_later
returns-then-not-is_free-is_later c taken marks =
    let a = c.args in
    let (read, more) = member_read a.l a.numbers.now taken (a.before.0 ∷ a.before.1 ∷ []) a.place.line a.text.now (drop a.place.at a.text.now) (rw c.in-Row.is at c.in_ok-group.ensures) in
    let kept = check_passed read (sym c.group_within.ensures ∙ c.if-not-group_within.false) in
    let there = listed a.numbers.now c.in-Row.train c.in-Some.i c.in-Some.ensures in
    let same = is_free marks c.in-Row.train c.in-Some.i there.0 there.1 c.lt-is_later.result in
    let later = c.lt-is_later.ensures ∙ pair_later a.before.0 a.before.1 _ _ in
    (check_fails kept (rw (← later) (same ∙ c.if-not-is_free-is_later.true)), more)

pub returns : goal.returns
returns c taken marks =
    let a = c.args in
    let (read, more) = member_read a.l a.numbers.now taken (a.before.0 ∷ a.before.1 ∷ []) a.place.line a.text.now (drop a.place.at a.text.now) (rw c.in-Row.is at c.in_ok-group.ensures) in
    let kept = check_passed read (sym c.group_within.ensures ∙ c.if-not-group_within.false) in
    let there = listed a.numbers.now c.in-Row.train c.in-Some.i c.in-Some.ensures in
    let same = is_free marks c.in-Row.train c.in-Some.i there.0 there.1 c.lt-is_later.result in
    let later = c.lt-is_later.ensures ∙ pair_later a.before.0 a.before.1 _ _ in
    record { row = all_passed (check_passed kept (rw (← later) (same ∙ c.if-not-is_free-is_later.false))); train = there.1 }
