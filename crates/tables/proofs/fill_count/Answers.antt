use Rattle.std.proofs.Common.{◌≤◌, ◌<◌, get_or, length, subst, ◌^◌, pow_pos, arith, rules}
use Rattle.std.specs.Int.Count.{ones}
use Rattle.std.proofs.lemmas.Nat.{ones-le}
use Rattle.std.proofs.lemmas.Grind.{get_or_default_zero}
use Rattle.tables.specs.Filled.{Filled}
use Rattle.tables.specs.Counts.{count_first, count_next}
use Rattle.tables.specs.Needing.{sets_fit, sets_shifted}
use Rattle.tables.proofs.fill_count.Goals as goal

pub loop-k-init : goal.loop-k-init
loop-k-init c = let some = pow_pos c.args.n in count_first _ (omega arith)

pub add_train-requires-clause-room : goal.add_train-requires-clause-room
add_train-requires-clause-room c =
    let size = sets_shifted c.loop-k.k (omega arith) in
    let room = sets_fit c.loop-k.k c.args.n _ size c.loop-k-test.true c.requires.0 in
    omega (arith, c.loop-k.invariant.kept.long)

pub add_train-requires-clause-callable : goal.add_train-requires-clause-callable
add_train-requires-clause-callable c m d l =
    let i = c.loop-k.invariant in
    let size = sets_shifted c.loop-k.k (omega arith) in
    let room = sets_fit c.loop-k.k c.args.n _ size c.loop-k-test.true c.requires.0 in
    let short : m < length c.loop-k.count = omega (arith, i.kept.long) in
    let few : get_or c.loop-k.count m d ≤ 12 = omega (arith, get_or_default_zero c.loop-k.count m d short, i.all m (omega arith), ones-le 12 m (omega arith)) in
    λ κs p r s. omega arith

pub loop-k-preserved : goal.loop-k-preserved
loop-k-preserved c =
    let size = sets_shifted c.loop-k.k (omega arith) in
    count_next c.loop-k.k _ c.loop-k.invariant size c.add_train.ensures (λ x v r. search rules)

pub returns : goal.returns
returns c = subst (λ k. Filled ones (2 ^ k) c.args.count.now c.loop-k.count) (omega arith) c.loop-k.invariant
