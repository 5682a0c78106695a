-- `tables::add_train` meets its contract. The loop's invariant: the sets without the train, and those passed with it.
use Rattle.tables.specs.Doubled.{Doubled}
use Rattle.tables.proofs.add_train.Given as goal

abbrev pub invariant-loop-m : goal.invariant-loop-m
invariant-loop-m g l = Doubled (goal.F-post g l.with_train) l.size l.m l.initial.table l.table
