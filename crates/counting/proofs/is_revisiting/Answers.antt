-- `counting::is_revisiting` meets its contract: a test of the trains.
use Rattle.std.proofs.Common.{rules}
use Rattle.fold.proofs.Ranges.{any_in_range}
use Rattle.model.specs.Model.{cell, late_supplier, revisiting}
use Rattle.counting.proofs.is_revisiting.Goals as goal

pub returns : goal.returns
unfolding revisiting
returns c =
    let a = c.args in
    any_in_range _ _ (late_supplier (cell a.width a.boxes.now) a.row.now a.i) a.n _ _ (search rules) (λ x r q k. search rules) c.any.result c.any.ensures.ran
