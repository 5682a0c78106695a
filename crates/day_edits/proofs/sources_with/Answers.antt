-- `day_edits::sources_with` meets its contract: position by position.
use Rattle.std.proofs.Common.{rules}
use Rattle.fold.proofs.Filled.{made_whole}
use Rattle.rolling.specs.Rolling.{source_with}
use Rattle.day_edits.proofs.sources_with.Goals as goal

pub returns-clause-of : goal.returns-clause-of
returns-clause-of c = made_whole _ _ (source_with c.args.n c.args.p) (λ x r q k. search rules) 0 c.from_fn.result 12 c.from_fn.ensures.items
