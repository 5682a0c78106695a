use Rattle.std.proofs.Common.{◌≡◌, sym, subst, arith}
use Rattle.fold.specs.Fold.{sum, sum_none, sum-next}
use Rattle.tables.specs.Given.{boxes_of}
use Rattle.prices.specs.Splits.{split_alone}
use Rattle.prices.proofs.received_by.Goals as goal
use Rattle.prices.proofs.received_by.Goals.{After-loop-j}

-- when the loop has ended: the row's sum, which is that of the set of k alone and the row's own entry
whole : (c : After-loop-j) → let s = c.args.supplies.now in c.loop-j.total ≡ sum s.trains (boxes_of s c.args.k)
whole c = subst (λ j. c.loop-j.total ≡ sum j (boxes_of c.args.supplies.now c.args.k)) (omega arith) c.loop-j.invariant.sums

pub loop-j-init : goal.loop-j-init
loop-j-init c = record { sums = sym (sum_none _); small = omega arith }

pub loop-j-preserved : goal.loop-j-preserved
loop-j-preserved c =
    let i = c.loop-j.invariant in
    let next = sum-next c.loop-j.j (boxes_of c.args.supplies.now c.args.k) in
    record { sums = omega (arith, i.sums); small = omega (arith, i.small) }

pub overflow_sub-result : goal.overflow_sub-result
overflow_sub-result c =
    let s = c.args.supplies.now in
    omega (arith, split_alone s.trains (boxes_of s) c.args.k c.requires.1, whole (goal.at.overflow_sub-result c).After-loop-j)

pub returns : goal.returns
returns c =
    let s = c.args.supplies.now in
    let all = whole (goal.at.returns c).After-loop-j in
    let few = c.requires.0.few in
    (omega (arith, split_alone s.trains (boxes_of s) c.args.k c.requires.1, all), omega (arith, c.loop-j.invariant.small))
