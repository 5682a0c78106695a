-- A section is its names line, then its rows.
use Rattle.dayfile.specs.Reading.{move_names}
use Rattle.day_rows.specs.Joined.{section_stops, handed_up}
use Rattle.day_moves.proofs.read_moves.Goals as goal

pub returns-in_err-read_names : goal.returns-in_err-read_names
unfolding move_names
returns-in_err-read_names c = rw (handed_up _ _ c.from_residual.ensures.1) (section_stops _ _ c.in_err-read_names.field-0.0 c.in_err-read_names.ensures)

pub returns : goal.returns
unfolding move_names
returns c = rw c.in_ok-read_names.ensures.0 c.read_move_rows.ensures
