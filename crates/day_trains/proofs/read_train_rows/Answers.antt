use Rattle.std.proofs.Common.{arith}
use Rattle.day_rows.specs.Joined.{handed_up}
use Rattle.day_trains.specs.Trains.{train_window, trains_refused, trains_next, trains_end}
use Rattle.day_trains.proofs.read_train_rows.Goals as goal

pub returns-in_err-row : goal.returns-in_err-row
returns-in_err-row c =
    rw (handed_up _ _ c.from_residual.ensures.1) (trains_refused _ _ _ _ c.loop-i.invariant c.loop-i-test.true c.in_err-row.field-0.0 c.in_err-row.ensures)

pub overflow_cast-first : goal.overflow_cast-first
overflow_cast-first c = omega (arith, (train_window _ _ _ _ _ _ c.in_ok-row.ensures).0)

pub overflow_cast-last : goal.overflow_cast-last
overflow_cast-last c = omega (arith, (train_window _ _ _ _ _ _ c.in_ok-row.ensures).1)

pub loop-i-preserved : goal.loop-i-preserved
loop-i-preserved c = trains_next _ _ _ _ c.loop-i.invariant c.loop-i-test.true c.in_ok-row.ensures (omega arith) (omega arith) (omega arith)

pub returns : goal.returns
returns c = trains_end c.loop-i.invariant (omega arith)
