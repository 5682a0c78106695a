use Rattle.std.proofs.Common.{arith}
use Rattle.std.proofs.lemmas.List.{get_or_default}
use Rattle.fold.specs.Column.{filled_none, filled_fill, filled_end}
use Rattle.day_edits.proofs.Sources.moved.Goals as goal

pub loop-i-init : goal.loop-i-init
loop-i-init g c = (omega arith, filled_none _ 12 _)

pub loop-i-preserved : goal.loop-i-preserved
loop-i-preserved g c = (omega arith, filled_fill _ 12 _ c.loop-i.i _ c.loop-i.invariant.1 (omega (arith, c.requires.few)) (get_or_default c.args.old.now _ _ _ (omega (arith, c.requires.there c.loop-i.i c.loop-i-test.true))))

pub returns : goal.returns
returns g c = filled_end _ 12 _ c.loop-i.i c.args.self.now.trains c.loop-i.invariant.1 c.loop-i.invariant.0 c.loop-i-test.false
