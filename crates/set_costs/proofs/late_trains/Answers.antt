use native.Mathlib.Omega.{arith}
use Prim.Native.Nat.{◌<◌}
use mathlib.Core.Path.{sym, ap}
use borrow.Author.Tests.{lt-ltb, le-ltb}
use lib.Count.{count_trailing_zeros}
use Rattle.fold.specs.Fold.{bit}
use Rattle.set_costs.specs.Sets.{summed_at, summed_turn, summed_low, summed_end}
use Rattle.set_costs.proofs.late_trains.Goals as goal
use Rattle.set_costs.proofs.late_trains.Goals.{else-rest-suppliers-gt0, then-rest-suppliers-gt0}

pub bounds-suppliers-i : goal.bounds-suppliers-i
bounds-suppliers-i c =
    let inside : count_trailing_zeros 64 c.loop-left.left < c.args.n = summed_at c.loop-left.invariant (omega arith) (omega arith) in
    omega arith

pub loop-left-preserved : goal.loop-left-preserved
loop-left-preserved c =
    let h = c.loop-left.invariant in
    elim c.if-rest-suppliers-gt0.branch [ then-rest-suppliers-gt0 w ↦ summed_turn h 1 w.late-is (omega arith) (omega arith) (ap bit (sym (lt-ltb _ _ w.if-rest-suppliers-gt0.true))) (omega arith) | else-rest-suppliers-gt0 w ↦ summed_turn h 0 (omega (arith, w.late-is)) (omega arith) (omega arith) (ap bit (sym (le-ltb _ _ w.if-rest-suppliers-gt0.false))) (omega arith) ]

pub returns : goal.returns
returns c = (summed_end c.loop-left.invariant (omega arith), summed_low c.loop-left.invariant)
