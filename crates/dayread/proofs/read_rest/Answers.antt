-- The moves were read, or their refusal is the answer; then the groups decide, by the laws of specs/Whole.antt.
use Rattle.std.proofs.Common.{drop, length}
use Rattle.day_rows.specs.Joined.{handed_up}
use Rattle.day_moves.specs.Moves.{moves_into}
use Rattle.dayread.specs.Whole.{moves_stop, rest_to}
use Rattle.dayread.proofs.read_rest.Goals as goal

pub returns-in_err-groups_at : goal.returns-in_err-groups_at
returns-in_err-groups_at c =
    let a = c.args in
    rw (handed_up _ _ c.from_residual.ensures.1)
    (moves_stop a.l a.numbers.now (length a.numbers.now) (drop a.at a.text.now) c.in_err-groups_at.field-0.0 c.in_err-groups_at.ensures)

pub returns : goal.returns
returns c =
    let a = c.args in
    let moves = moves_into _ c.in_ok-groups_at.ensures c.requires.1.1.1 in
    rest_to a.l a.numbers.now (length a.numbers.now) (drop a.at a.text.now) moves _ c.read_groups.result c.read_groups.ensures c.requires.1.1.0
