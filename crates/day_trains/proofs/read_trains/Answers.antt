-- A section is its names line, then its rows.
use Rattle.dayfile.specs.Reading.{train_names}
use Rattle.day_rows.specs.Joined.{section_stops, handed_up}
use Rattle.day_trains.proofs.read_trains.Goals as goal

pub returns-in_err-next : goal.returns-in_err-next
unfolding train_names
returns-in_err-next c = rw (handed_up _ _ c.from_residual.ensures.1) (section_stops _ _ c.in_err-next.field-0.0 c.in_err-next.ensures)

pub returns : goal.returns
unfolding train_names
returns c = rw c.in_ok-next.ensures.0 c.read_train_rows.ensures
