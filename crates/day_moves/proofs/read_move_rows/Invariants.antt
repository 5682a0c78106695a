-- The invariant is `MovesSoFar`: the rows so far are stored, the reading goes on at the end of the last.
use Rattle.std.proofs.Common.{◌-◌, length}
use Rattle.day_moves.specs.Moves.{MovesSoFar}
use Rattle.day_moves.proofs.read_move_rows.Given as goal

abbrev pub invariant-loop-row : goal.invariant-loop-row
invariant-loop-row l = MovesSoFar l.l l.numbers l.width l.fn.start.line l.fn.start.at l.text l.initial.boxes l.boxes l.place.at l.place.line l.before.0 l.before.1

abbrev pub decreases-loop-row : goal.decreases-loop-row
decreases-loop-row l = length l.text - l.place.at
