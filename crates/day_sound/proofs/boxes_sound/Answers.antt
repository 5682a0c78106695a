use Rattle.std.proofs.Common.{rules}
use Rattle.fold.proofs.Chains.{all_each}
use Rattle.day_sound.proofs.boxes_sound.Goals as goal

pub returns : goal.returns
returns c = all_each _ _ _ _ _ c.all.ensures.ran (λ x q k. search rules) (λ x q k. search rules)
