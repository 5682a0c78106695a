-- `LentDay::priority_of` meets its contract. The two counts, weighed; a revisit counts once.
use Rattle.procedures.specs.Laws.{priority_waiting, priority_none}
use Rattle.procedures.proofs.LentDay.priority_of.Goals as goal

pub returns-then-has_waiting_supplier : goal.returns-then-has_waiting_supplier
returns-then-has_waiting_supplier c =
    let d = c.args.self.now in
    rw (c.from-then-has_waiting_supplier.ensures, c.from.ensures, c.boxes_outside-outside.ensures.0)
    (priority_waiting d.trains d.revisit d.split _ c.args.row.now c.args.t c.args.i c.has_waiting_supplier.ensures c.if-has_waiting_supplier.true)

pub returns-else-has_waiting_supplier : goal.returns-else-has_waiting_supplier
returns-else-has_waiting_supplier c =
    let d = c.args.self.now in
    rw (c.from.ensures, c.boxes_outside-outside.ensures.0)
    (priority_none d.trains d.revisit d.split _ c.args.row.now c.args.t c.args.i c.has_waiting_supplier.ensures c.if-has_waiting_supplier.false)
