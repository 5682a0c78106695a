use Rattle.parting.proofs.Walk.{counted_more}
use Rattle.parting.proofs.has_at_most.Goals as goal

pub returns : goal.returns
returns c = counted_more _ _ c.loop-day.invariant c.loop-day-test.false
