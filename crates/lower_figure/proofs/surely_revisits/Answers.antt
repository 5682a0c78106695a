-- `lower_figure::surely_revisits` meets its contract: `any` over the trains.
use Rattle.std.proofs.Common.{rules, tests, ◌≡◌, refl, ◌∙◌, ◌&&◌, ltb, get_or, arith}
use Rattle.std.specs.List.{list_any, range_with_len}
use Rattle.std.proofs.lemmas.Iterator.Search.{any_from_yields_List}
use Rattle.std.proofs.lemmas.Iterator.{YieldsList-from_range}
use Rattle.model.specs.Model.{supplies}
use Rattle.beam_tables.specs.Given.{received}
use Rattle.beam_tables.proofs.Ranges.{any_range}
use Rattle.lower_figure.specs.Figure.{sure_revisit}
use Rattle.lower_figure.proofs.surely_revisits.Goals as goal

pub returns : goal.returns
unfolding sure_revisit
returns c =
    let d = c.args.day.now in
    let found =
    any_from_yields_List (λ j. supplies (received d.boxes) c.args.i j && ltb (get_or d.last.now c.args.i 0) (get_or d.first.now j 0)) _ _ _ c.any.ensures.ran
    (YieldsList-from_range 0 d.boxes.trains d.boxes.trains refl (omega arith)) (λ x b q k. search rules) in
    found ∙ any_range _ d.boxes.trains
