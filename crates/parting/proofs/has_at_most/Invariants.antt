-- `parting::has_at_most` meets its contract. The loop's invariant: the days passed and those from here on are all days.
use Rattle.parting.specs.Walk.{CountedTo}
use Rattle.parting.proofs.has_at_most.Given as goal

abbrev pub invariant-loop-day : goal.invariant-loop-day
invariant-loop-day l = CountedTo l.fn.most l.fn.text l.at l._day
