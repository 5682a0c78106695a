use native.Mathlib.Omega.{arith}
use mathlib.Core.Path.{◌∙◌}
use Rattle.set_costs.specs.Sets.{summed_at, summed_next, summed_end}
use Rattle.set_costs.proofs.boxes_from.Goals as goal

pub received-requires : goal.received-requires
received-requires c =
    let few = c.requires.0.few in
    (c.requires.0, c.requires.1, summed_at c.loop-left.invariant (omega arith) (omega arith))

pub loop-left-preserved : goal.loop-left-preserved
loop-left-preserved c =
    let few = c.requires.0.few in
    summed_next c.loop-left.invariant _ (omega arith) (omega arith) (c.from-total.ensures ∙ c.received.ensures) (omega (arith, c.from-total.ensures))

pub returns : goal.returns
returns c = summed_end c.loop-left.invariant (omega arith)
