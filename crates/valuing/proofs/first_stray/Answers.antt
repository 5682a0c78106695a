use Rattle.std.proofs.Common.{rules, ap, ◌∙◌, sym, not}
use Rattle.fold.proofs.Chains.{find_first}
use Rattle.valuing.specs.Valuing.{strays}
use Rattle.valuing.proofs.first_stray.Goals as goal

pub returns : goal.returns
unfolding strays
returns c = find_first _ _ _ _ _ c.find.ensures.ran (λ x q k. search rules) (λ x q k. search rules)
