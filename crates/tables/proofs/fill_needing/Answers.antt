use Rattle.std.proofs.Common.{subst, ◌^◌, pow_pos, arith, rules}
use Rattle.staging.specs.Tables.{needing}
use Rattle.tables.specs.Given.{boxes_of}
use Rattle.tables.specs.Filled.{Filled}
use Rattle.tables.specs.Needing.{needing_first, needing-next, sets_fit, sets_shifted}
use Rattle.tables.proofs.fill_needing.Goals as goal

pub loop-k-init : goal.loop-k-init
loop-k-init c = let some = pow_pos c.args.supplies.now.trains in needing_first _ _ _ (omega arith)

pub add_train-requires-clause-room : goal.add_train-requires-clause-room
add_train-requires-clause-room c =
    let few = c.requires.0.few in
    let size = sets_shifted c.loop-k.k (omega arith) in
    let room = sets_fit c.loop-k.k c.args.supplies.now.trains _ size c.loop-k-test.true few in
    omega (arith, c.loop-k.invariant.kept.long)

pub loop-k-preserved : goal.loop-k-preserved
loop-k-preserved c =
    let few = c.requires.0.few in
    let size = sets_shifted c.loop-k.k (omega arith) in
    needing-next _ _ c.loop-k.k _ _ c.loop-k.invariant size c.loop-k-test.true c.receivers_of-more.ensures c.add_train.ensures (λ x v r. search rules)

pub returns : goal.returns
returns c =
    subst (λ k. Filled (needing c.args.supplies.now.trains (boxes_of c.args.supplies.now)) (2 ^ k) c.args.need.now c.loop-k.need) (omega arith)
    c.loop-k.invariant
