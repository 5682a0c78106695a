use Rattle.std.proofs.Common.{rules, refl}
use Rattle.fold.proofs.Filled.{made_filled}
use Rattle.model.specs.Model.{slot_of}
use Rattle.state_text.proofs.padded.Goals as goal

pub returns : goal.returns
returns c = made_filled _ _ _ (λ x r q k. search rules) 0 c.from_fn.result 12 _ (slot_of c.args.row.now) c.from_fn.ensures.items (λ i h. refl)
