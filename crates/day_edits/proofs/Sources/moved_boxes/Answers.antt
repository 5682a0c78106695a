-- `Sources::moved_boxes` meets its contract: entry by entry.
use Rattle.std.proofs.Common.{rules}
use Rattle.fold.specs.Column.{table}
use Rattle.fold.proofs.Filled.{made_listed}
use Rattle.day_edits.proofs.Sources.moved_boxes.Goals as goal

pub returns : goal.returns
unfolding table
returns c = made_listed _ _ _ (λ x r q k. search rules) 0 c.from_fn.result 144 c.from_fn.ensures.items
