use Rattle.std.proofs.Common.{arith}
use Rattle.tables.specs.Doubled.{doubled_next}
use Rattle.tables.proofs.add_train.Goals as goal

pub loop-m-preserved : goal.loop-m-preserved
loop-m-preserved g c =
    let i = c.loop-m.invariant in
    doubled_next c.index-table-m.result c.with_train.result i c.loop-m-test.true (omega (arith, i.long, c.requires.room)) c.index-table-m.is c.with_train.ensures
