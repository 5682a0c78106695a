-- The fields before i are read, up to `next`.
use Rattle.std.proofs.Common.{drop}
use Rattle.lines.proofs.Fields.{RowSoFar}
use Rattle.lines.proofs.read_row.Given as goal

abbrev pub invariant-loop-i : goal.invariant-loop-i
invariant-loop-i g l = RowSoFar g.row.N l.text (drop l.at l.text) l.fields l.i l.next
