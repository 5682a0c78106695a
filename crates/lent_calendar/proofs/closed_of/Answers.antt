use Rattle.std.proofs.Common.{arith, rules, length, ⊎_elim}
use Rattle.fold.specs.Column.{filled_none, filled_fill}
use Rattle.fold.specs.Counting.{le_or_lt}
use Rattle.lent_calendar.specs.Laws.{closed_end, closed_full}
use Rattle.lent_calendar.proofs.closed_of.Goals as goal

pub loop-i-init : goal.loop-i-init
loop-i-init c = (omega arith, omega arith, filled_none _ _ _)

pub loop-i-preserved : goal.loop-i-preserved
loop-i-preserved c =
    let inv = c.loop-i.invariant in
    (search rules, search rules, filled_fill _ _ _ _ _ inv.2 (search rules) c.date_of.ensures)

pub returns : goal.returns
returns c =
    let inv = c.loop-i.invariant in
    ⊎_elim (λ h. closed_end _ _ inv.2 inv.0 (omega arith)) (λ h. closed_full _ _ inv.2 inv.0 (omega arith)) (le_or_lt (length c.args.closed.now) 32)
