-- `lower_figure::direct_at_most` meets its contract.
use mathlib.Core.Path.{sym, ap, ◌∙◌}
use Rattle.beam.specs.LowerFigure.{largest}
use Rattle.beam_tables.specs.Given.{received}
use Rattle.lower_figure.specs.Figure.{none_taken}
use Rattle.lower_figure.proofs.direct_at_most.Goals as goal

pub returns-in-0 : goal.returns-in-0
returns-in-0 c =
    let a = c.args in
    sym (none_taken _ _) ∙ sym (ap (λ m. largest m a.boxes.now.trains (received a.boxes.now a.i)) c.in-0.is)
