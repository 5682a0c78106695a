-- What reading refuses is told; what it accepts is sound, and planned.
use Rattle.std.proofs.Common.{rules, sym, arith}
use Rattle.dayfile.specs.RoundTrip.{read_sound}
use Rattle.answering.specs.Laws.{fits_most}
use Rattle.long_day.specs.LongDay.{long_limits}
use Rattle.long_planfile.specs.Size.{long_plan_bytes}
use Rattle.long_answering.specs.Laws.{refused_answer, accepted_answer}
use Rattle.long_answering.proofs.put_long_answer.Goals as goal

pub put_row-requires : goal.put_row-requires
put_row-requires c = (read_sound long_limits _ _ (sym c.in-Ok.ensures), search rules)

pub returns-in-Ok : goal.returns-in-Ok
returns-in-Ok c = rw (← accepted_answer _ _ c.in-Ok.ensures) c.put_row.ensures

pub returns-in-Err : goal.returns-in-Err
returns-in-Err c = rw (← refused_answer _ c.in-Err.refusal c.in-Err.ensures) (fits_most long_plan_bytes (omega arith) c.put_refusal.ensures)
