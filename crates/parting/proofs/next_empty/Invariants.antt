-- `parting::next_empty` meets its contract. The loop's invariant: no empty line was passed, and whether a line begins here is known.
use Rattle.std.proofs.Common.{◌+◌}
use Rattle.parting.specs.Walk.{Passed}
use Rattle.parting.proofs.next_empty.Given as goal

abbrev pub invariant-loop-i : goal.invariant-loop-i
invariant-loop-i l = Passed l.fn.text l.fn.at (l.fn.at + l.i) l.start
