-- `counting::direct_to` meets its contract: a sum over the trains.
use Rattle.std.proofs.Common.{◌≡◌, arith, rules}
use Rattle.fold.proofs.Ranges.{front_sum_gives, front_sum_fits}
use Rattle.model.specs.Model.{cell, direct_boxes, direct_to}
use Rattle.counting.proofs.Bounds.{direct_most}
use Rattle.counting.proofs.direct_to.Goals as goal

pub sum-requires-clause-fits : goal.sum-requires-clause-fits
unfolding direct_to
sum-requires-clause-fits c =
    let a = c.args in
    let h = direct_boxes (cell a.width a.boxes.now) a.row.now a.i in
    front_sum_fits _ h a.n c.map.result c.map.ensures.source c.map.ensures.closure (λ x r q k. search rules) _
    (omega (arith, c.requires.0.few, direct_most a.width a.boxes.now c.type_inv.boxes a.row.now a.n a.i))

pub returns : goal.returns
unfolding direct_to
returns c =
    let a = c.args in
    let h = direct_boxes (cell a.width a.boxes.now) a.row.now a.i in
    let e : c.sum.result ≡ direct_to a.n (cell a.width a.boxes.now) a.row.now a.i =
    front_sum_gives _ h a.n c.map.result c.map.ensures.source c.map.ensures.closure (λ x r q k. search rules) c.sum.result c.sum.ensures.ran in
    (e, omega (arith, c.requires.0.few, direct_most a.width a.boxes.now c.type_inv.boxes a.row.now a.n a.i))
