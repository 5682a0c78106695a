-- `counting::boxes_outside` meets its contract: a sum over the trains.
use Rattle.std.proofs.Common.{◌≡◌, arith, rules}
use Rattle.fold.specs.Fold.{sum}
use Rattle.fold.proofs.Ranges.{front_sum_gives, front_sum_fits}
use Rattle.model.specs.Model.{cell, outside_boxes}
use Rattle.counting.proofs.Bounds.{outside_most}
use Rattle.counting.proofs.boxes_outside.Goals as goal

pub sum-requires-clause-fits : goal.sum-requires-clause-fits
sum-requires-clause-fits c =
    let a = c.args in
    let h = outside_boxes (cell a.width a.boxes.now) a.row.now a.t a.i in
    front_sum_fits _ h a.n c.map.result c.map.ensures.source c.map.ensures.closure (λ x r q k. search rules) _
    (omega (arith, c.requires.0.few, outside_most a.width a.boxes.now c.type_inv.boxes a.row.now a.t a.i a.n))

pub returns : goal.returns
returns c =
    let a = c.args in
    let h = outside_boxes (cell a.width a.boxes.now) a.row.now a.t a.i in
    let e : c.sum.result ≡ sum a.n h = front_sum_gives _ h a.n c.map.result c.map.ensures.source c.map.ensures.closure (λ x r q k. search rules) c.sum.result c.sum.ensures.ran in
    (e, omega (arith, c.requires.0.few, outside_most a.width a.boxes.now c.type_inv.boxes a.row.now a.t a.i a.n))
