use Rattle.std.proofs.Common.{suc, ◌-◌, arith}
use Rattle.lines.proofs.Fields.{EndsField, row_start, row_fails, row_next, row_end}
use Rattle.lines.proofs.read_row.Goals as goal
use Rattle.lines.proofs.read_row.Goals.{then-i, else-i}

pub loop-i-init : goal.loop-i-init
loop-i-init g c = row_start _ _ _ c.requires.0

pub returns-in_err-field : goal.returns-in_err-field
returns-in_err-field g c =
    let end : EndsField (g.row.N - suc c.loop-i.i) c.if-i.end =
    elim c.if-i.branch [
      | then-i w ↦ record { last = λ e. omega (arith, w.end-is); others = λ h. absurd (omega arith) }
      | else-i w ↦ record { last = λ e. absurd (omega arith); others = λ h. w.end-is }
    ] in
    rw c.from_residual.ensures (row_fails _ _ c.loop-i.invariant _ c.loop-i-test.true end c.in_err-field.ensures)

pub loop-i-preserved : goal.loop-i-preserved
loop-i-preserved g c =
    let end : EndsField (g.row.N - suc c.loop-i.i) c.if-i.end =
    elim c.if-i.branch [
      | then-i w ↦ record { last = λ e. omega (arith, w.end-is); others = λ h. absurd (omega arith) }
      | else-i w ↦ record { last = λ e. absurd (omega arith); others = λ h. w.end-is }
    ] in
    let field = c.in_ok-field.ensures in
    row_next _ _ c.loop-i.invariant _ c.loop-i-test.true end _ _ field.read field.inside c.requires.1

pub returns : goal.returns
returns g c = row_end _ _ c.loop-i.invariant (omega arith) c.requires.0
