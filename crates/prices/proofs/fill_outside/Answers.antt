use Rattle.std.proofs.Common.{subst, ◌+◌, ◌^◌, pow_pos, pow_mono, arith}
use Rattle.staging.specs.Tables.{from_outside}
use Rattle.tables.specs.Given.{boxes_of}
use Rattle.tables.specs.Filled.{Filled, filled_here, filled_since}
use Rattle.tables.specs.Doubled.{two_sets}
use Rattle.prices.specs.Filling.{split_first, bounded_none}
use Rattle.prices.proofs.fill_outside.Goals as goal

pub loop-k-init : goal.loop-k-init
loop-k-init c = record { filled = let some = pow_pos c.args.supplies.now.trains in split_first _ _ _ (omega arith); bounded = bounded_none _ _ }

pub add_train-requires : goal.add_train-requires
add_train-requires c =
    let i = c.loop-k.invariant in
    let k = c.loop-k.k in
    let room = pow_mono {i = k + 1} {j = c.args.supplies.now.trains} (omega arith) in
    (c.requires.0, c.loop-k-test.true, omega (arith, i.filled.kept.long), filled_here i.filled, i.bounded)

pub loop-k-preserved : goal.loop-k-preserved
loop-k-preserved c =
    record { filled = filled_since c.loop-k.invariant.filled (omega (arith, two_sets c.loop-k.k)) c.add_train.ensures.0; bounded = c.add_train.ensures.1 }

pub returns : goal.returns
returns c =
    subst (λ k. Filled (from_outside c.args.supplies.now.trains (boxes_of c.args.supplies.now)) (2 ^ k) c.args.price.now c.loop-k.price) (omega arith)
    c.loop-k.invariant.filled
