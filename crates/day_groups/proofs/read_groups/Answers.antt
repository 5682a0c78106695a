-- None where the text has ended, else its names line, and at least one row.
use Rattle.std.proofs.Common.{drop, arith}
use Rattle.dayfile.specs.Reading.{group_names}
use Rattle.day_rows.specs.Joined.{handed_up}
use Rattle.day_groups.specs.Groups.{at_end, before_end, names_further, no_section, section_stops, no_row_lem, some-row}
use Rattle.day_groups.proofs.read_groups.Goals as goal

pub returns-then-text-place : goal.returns-then-text-place
returns-then-text-place c =
    let a = c.args in
    no_section a.l a.numbers.now a.place.line (drop a.place.at a.text.now) _ (at_end a.text.now a.place.at c.if-text-place.true)

pub returns-in_err-next : goal.returns-in_err-next
unfolding group_names
returns-in_err-next c =
    let a = c.args in
    let more = before_end a.text.now a.place.at c.if-text-place.false in
    rw (handed_up _ _ c.from_residual.ensures.1)
    (section_stops a.l a.numbers.now a.place.line (drop a.place.at a.text.now) c.in_err-next.field-0.0 more c.in_err-next.ensures)

pub returns-then-text-start : goal.returns-then-text-start
unfolding group_names
returns-then-text-start c =
    let a = c.args in
    let more = before_end a.text.now a.place.at c.if-text-place.false in
    no_row_lem a.l a.numbers.now a.place.line (drop a.place.at a.text.now) _ more c.in_ok-next.ensures.0 (at_end a.text.now _ c.if-text-start.true)

pub read_group_rows-requires : goal.read_group_rows-requires
unfolding group_names
read_group_rows-requires c =
    let a = c.args in
    let (read, inside) = c.in_ok-next.ensures in
    let further = names_further a.text.now a.place.at group_names a.place.line _ c.requires.0 inside read in
    (inside, (omega (arith, further, c.requires.1.0), c.requires.1.1))

pub returns : goal.returns
unfolding group_names
returns c =
    let a = c.args in
    let more = before_end a.text.now a.place.at c.if-text-place.false in
    let section = some-row a.l a.numbers.now a.place.line (drop a.place.at a.text.now) _ more c.in_ok-next.ensures.0 (before_end a.text.now _ c.if-text-start.false) in
    rw section c.read_group_rows.ensures
