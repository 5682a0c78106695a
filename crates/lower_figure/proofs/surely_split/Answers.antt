-- `lower_figure::surely_split` meets its contract: the largest supplies are part of what is received.
use native.Mathlib.Omega.{arith}
use Prim.Native.Nat.{◌-◌}
use mathlib.Core.Path.{ap₂}
use Rattle.beam_tables.specs.Given.{received}
use Rattle.lower_figure.specs.Figure.{sure_split, largest_le}
use Rattle.lower_figure.proofs.surely_split.Goals as goal

pub overflow_sub-result : goal.overflow_sub-result
overflow_sub-result c =
    let a = c.args in
    omega (arith, c.direct_at_most.ensures, c.incoming_to.ensures.0, largest_le (a.tracks - 1) a.boxes.now.trains (received a.boxes.now a.i))

pub returns : goal.returns
unfolding sure_split
returns c = (ap₂ (λ x y. x - y) c.incoming_to.ensures.0 c.direct_at_most.ensures, omega (arith, c.incoming_to.ensures.1))
