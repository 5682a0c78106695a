-- `counting::count_revisits` meets its contract: the trains that revisit, counted.
use Rattle.std.proofs.Common.{◌≡◌, arith, rules}
use Rattle.fold.specs.Fold.{count}
use Rattle.fold.proofs.Ranges.{range_count_gives}
use Rattle.model.specs.Model.{cell, revisiting, revisits}
use Rattle.counting.proofs.Bounds.{count_most}
use Rattle.counting.proofs.count_revisits.Goals as goal

pub returns : goal.returns
unfolding revisits
returns c =
    let a = c.args in
    let p = revisiting a.n (cell a.width a.boxes.now) a.row.now in
    let e : c.count.result ≡ count a.n p = range_count_gives _ p a.n c.filter-revisiting.result c.filter-revisiting.ensures.source c.filter-revisiting.ensures.closure (λ x r q k. search rules) c.count.result c.count.ensures.ran in
    (e, omega (arith, c.requires.few, count_most a.n p))
