-- The invariant is `TrainsSoFar`: i rows are read and stored, the reading goes on at p.
use Rattle.std.proofs.Common.{drop}
use Rattle.day_trains.specs.Trains.{TrainsSoFar}
use Rattle.day_trains.proofs.read_train_rows.Given as goal

abbrev pub invariant-loop-i : goal.invariant-loop-i
invariant-loop-i l = TrainsSoFar l.l l.slots l.n l.text (drop l.at l.text) l.initial.numbers l.initial.first l.initial.last l.numbers l.first l.last l.i l.p l.before
