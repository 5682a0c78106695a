-- What reading refuses is told; what it accepts is sound, and planned.
use Rattle.std.proofs.Common.{rules, sym, arith}
use Rattle.day.specs.Sound.{day_limits}
use Rattle.dayfile.specs.RoundTrip.{read_sound}
use Rattle.planfile.specs.Size.{plan_bytes}
use Rattle.answering.specs.Laws.{fits_most, refused_answer, accepted_answer}
use Rattle.answering.proofs.put_answer.Goals as goal

pub put_best-requires : goal.put_best-requires
put_best-requires c = (read_sound day_limits _ _ (sym c.in-Ok.ensures), search rules)

pub returns-in-Ok : goal.returns-in-Ok
returns-in-Ok c = rw (← accepted_answer day_limits _ _ c.in-Ok.ensures) c.put_best.ensures

pub returns-in-Err : goal.returns-in-Err
returns-in-Err c = rw (← refused_answer day_limits _ c.in-Err.refusal c.in-Err.ensures) (fits_most plan_bytes (omega arith) c.put_refusal.ensures)
