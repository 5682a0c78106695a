-- `LentDay::has_waiting_supplier` meets its contract: a test of the trains.
use Rattle.std.proofs.Common.{rules}
use Rattle.fold.proofs.Ranges.{any_in_range}
use Rattle.procedures.specs.Procedures.{waiting_supplier}
use Rattle.procedures.specs.Lent.{boxes_of}
use Rattle.procedures.proofs.LentDay.has_waiting_supplier.Goals as goal

pub returns : goal.returns
returns c =
    let d = c.args.self.now in
    any_in_range _ _ (waiting_supplier (boxes_of d) c.args.row.now c.args.i) d.trains _ _ (search rules) (λ x r q k. search rules) c.any.result c.any.ensures.ran
