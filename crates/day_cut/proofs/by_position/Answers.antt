use Rattle.std.proofs.Common.{arith}
use Rattle.fold.specs.Column.{column_none, column_fill, column_end}
use Rattle.day_cut.proofs.by_position.Goals as goal

pub loop-i-init : goal.loop-i-init
loop-i-init g c = (omega arith, λ h gives. column_none 12 h)

pub loop-i-preserved : goal.loop-i-preserved
loop-i-preserved g c = (
  omega arith,
  λ h gives.
      column_fill 12 c.loop-i.i h c.slot.result (c.loop-i.invariant.1 h gives) (omega (arith, c.requires.few))
      (gives c.loop-i.i c.slot.result c.loop-i-test.true c.slot.ensures),
)

pub returns : goal.returns
returns g c =
    λ h gives. column_end 12 c.loop-i.i c.args.n h (c.loop-i.invariant.1 h gives) c.loop-i.invariant.0 c.loop-i-test.false
