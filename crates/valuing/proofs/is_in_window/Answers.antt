-- `valuing::is_in_window` meets its contract. The train's own slot lies in its window.
use Rattle.model.specs.Model.{in_window}
use Rattle.valuing.proofs.is_in_window.Goals as goal

pub returns : goal.returns
unfolding in_window
returns c = c.is_in_time.ensures
