-- `day_edits::place_of` meets its contract: the search stops at the first number not below x.
use Rattle.std.proofs.Common.{◌∙◌, leb, rules}
use Rattle.fold.proofs.Searches.{place_in_front}
use Rattle.day_edits.proofs.place_of.Goals as goal

pub returns : goal.returns
returns c =
    c.unwrap_or.ensures
    ∙ place_in_front (leb c.args.x) 0 _ _ (λ x b q k. search rules) c.iter.result _ c.args.numbers.now c.args.n c.requires c.iter.ensures.rest c.position.result c.position.ensures.ran
