use Rattle.std.proofs.Common.{[], ◌∷◌, arith}
use Rattle.day_rows.specs.Joined.{handed_up}
use Rattle.day_moves.specs.Moves.{move_row_lem, moves_start, moves_refused, moves_done, moves_next}
use Rattle.day_moves.proofs.read_move_rows.Goals as goal

pub loop-row-init : goal.loop-row-init
loop-row-init c = moves_start _ _ _ _ _ _ _ c.requires.0

pub returns-in_err-row : goal.returns-in_err-row
returns-in_err-row c =
    rw (handed_up _ _ c.from_residual.ensures.1)
    (moves_refused _ _ _ _ _ _ c.loop-row.invariant c.in_err-row.field-0.0 c.in_err-row.ensures.0 c.in_err-row.ensures.1)

pub overflow_cast-row : goal.overflow_cast-row
overflow_cast-row c =
    let v = c.loop-row in
    let said = rw c.in-Some.is at c.in_ok-row.ensures in
    omega (arith, (move_row_lem _ _ (v.before.0 ∷ v.before.1 ∷ 0 ∷ []) _ _ _ v.invariant.inside said.row).boxes)

pub put_cell-requires : goal.put_cell-requires
put_cell-requires c =
    let v = c.loop-row in
    let said = rw c.in-Some.is at c.in_ok-row.ensures in
    let facts = move_row_lem _ _ (v.before.0 ∷ v.before.1 ∷ 0 ∷ []) _ _ _ v.invariant.inside said.row in
    record { row = omega (arith, said.to, facts.to); column = omega (arith, said.from, facts.from); whole = omega arith }

pub loop-row-smaller : goal.loop-row-smaller
loop-row-smaller c =
    let v = c.loop-row in
    let said = rw c.in-Some.is at c.in_ok-row.ensures in
    let facts = move_row_lem _ _ (v.before.0 ∷ v.before.1 ∷ 0 ∷ []) _ _ _ v.invariant.inside said.row in
    omega (arith, facts.further, said.row.inside)

pub loop-row-preserved : goal.loop-row-preserved
loop-row-preserved c =
    let said = rw c.in-Some.is at c.in_ok-row.ensures in
    rw (c.put_cell.ensures, said.to, said.from) (moves_next _ _ _ _ _ _ c.loop-row.invariant said.row)

pub returns : goal.returns
returns c = moves_done _ _ _ _ _ _ c.loop-row.invariant (rw c.in_default.is at c.in_ok-row.ensures)
