-- `counting::count_splits` meets its contract: a sum over the trains, each with its own slot.
use Rattle.std.proofs.Common.{◌≡◌, arith, rules}
use Rattle.fold.proofs.Ranges.{front_sum_gives, front_sum_fits}
use Rattle.model.specs.Model.{cell, splits_to, splits}
use Rattle.counting.specs.Counting.{split_outside}
use Rattle.counting.proofs.Bounds.{all_splits}
use Rattle.counting.proofs.count_splits.Goals as goal

pub sum-requires-clause-fits : goal.sum-requires-clause-fits
sum-requires-clause-fits c =
    let a = c.args in
    front_sum_fits _ (splits_to a.n (cell a.width a.boxes.now) a.row.now) a.n c.map.result c.map.ensures.source c.map.ensures.closure (λ x r q k. search (rules, split_outside)) _
    (omega (arith, c.requires.few, all_splits a.width a.boxes.now c.type_inv.boxes a.row.now a.n c.requires.few))

pub returns : goal.returns
unfolding splits
returns c =
    let a = c.args in
    let e : c.sum.result ≡ splits a.n (cell a.width a.boxes.now) a.row.now =
    front_sum_gives _ (splits_to a.n (cell a.width a.boxes.now) a.row.now) a.n c.map.result c.map.ensures.source c.map.ensures.closure (λ x r q k. search (rules, split_outside)) c.sum.result c.sum.ensures.ran in
    (e, omega (arith, c.requires.few, all_splits a.width a.boxes.now c.type_inv.boxes a.row.now a.n c.requires.few))
