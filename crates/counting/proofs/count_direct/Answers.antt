-- `counting::count_direct` meets its contract: a sum over the trains.
use Rattle.std.proofs.Common.{arith, rules}
use Rattle.fold.proofs.Ranges.{front_sum_gives, front_sum_fits}
use Rattle.model.specs.Model.{cell, direct_to, direct}
use Rattle.counting.proofs.Bounds.{all_direct}
use Rattle.counting.proofs.count_direct.Goals as goal

pub sum-requires-clause-fits : goal.sum-requires-clause-fits
sum-requires-clause-fits c =
    let a = c.args in
    front_sum_fits _ (direct_to a.n (cell a.width a.boxes.now) a.row.now) a.n c.map.result c.map.ensures.source c.map.ensures.closure (λ x r q k. search rules) _
    (omega (arith, c.requires.few, all_direct a.width a.boxes.now c.type_inv.boxes a.row.now a.n c.requires.few))

pub returns : goal.returns
unfolding direct
returns c =
    let a = c.args in
    front_sum_gives _ (direct_to a.n (cell a.width a.boxes.now) a.row.now) a.n c.map.result c.map.ensures.source c.map.ensures.closure (λ x r q k. search rules) c.sum.result c.sum.ensures.ran
