use Prim.Native.Nat.{ℕ, ◌≤◌, ◌<◌, ◌+◌}
use mathlib.Core.Path.{◌≡◌}
use native.Mathlib.Omega.{arith}
use lib.ListN.{length}
use Rattle.optimum.specs.Workspace.{at}
use Rattle.tables.specs.Filled.{added_next}
use Rattle.prices.proofs.join_pair.Goals as goal
use Rattle.prices.proofs.join_pair.Goals.{In-loop-m}

-- a word that is read is still that of the beginning
word : (c : In-loop-m) (x : ℕ) → let s = c in let l = c.loop-m in
    x < s.args.size + s.args.below → (x < length l.price) × (at l.price x ≡ at s.args.price.now x) × (at l.price x ≤ 36720)
word c x q =
    let s = c in
    let l = c.loop-m in
    let long = l.invariant.kept.long in
    let room = s.requires.room in
    let same = l.invariant.old x q in
    let most = s.requires.small x q in
    (omega arith, same, omega arith)

-- the sets with one train, that with the other, and that with none: the sum and the difference fit
words : (c : In-loop-m) → let s = c in let p = c.loop-m.price in let m = c.loop-m.m in
    (at p m ≡ at s.args.price.now m) × (at p (s.args.below + m) ≡ at s.args.price.now (s.args.below + m))
    × (at p (s.args.size + m) ≡ at s.args.price.now (s.args.size + m))
    × (at p (s.args.below + m) + at p (s.args.size + m) ≤ 73440)
    × (at p m + s.args.pair ≤ at p (s.args.below + m) + at p (s.args.size + m))
words c =
    let s = c in
    let m = c.loop-m.m in
    let apart = s.requires.apart in
    let low = word c m (omega arith) in
    let one = word c (s.args.below + m) (omega arith) in
    let other = word c (s.args.size + m) (omega arith) in
    let less = s.requires.less m c.loop-m-test.true in
    (low.1, one.1, other.1, omega arith, omega arith)

-- there is room for the set with both
room : (c : In-loop-m) → let s = c in let l = c.loop-m in
    (s.args.size + s.args.below + l.m < length l.price) × (s.args.size ≤ 4096) × (s.args.below ≤ s.args.size)
room c =
    let s = c in
    let long = c.loop-m.invariant.kept.long in
    let all = s.requires.room in
    (omega arith, s.requires.few, s.requires.apart)

pub loop-m-preserved : goal.loop-m-preserved
loop-m-preserved c =
    let t = c in
    let w = words (goal.at.loop-m-preserved t).In-loop-m in
    added_next _ t.loop-m.invariant (room (goal.at.loop-m-preserved t).In-loop-m).0 (omega arith)
