use Rattle.std.specs.Prelude.{◌≡◌, ℕ, Bool, ◌<◌, Option, Some, None, IfSome}
use Rattle.std.proofs.Common.{rules, add-one, arith}
use Rattle.fold.specs.First.{first_below, first_below-is}
use Rattle.fold.proofs.Chains.{find_first}
use Rattle.valuing.specs.Valuing.{overfull}
use Rattle.valuing.proofs.first_overfull.Goals as goal

pub returns-clause-lowest : goal.returns-clause-lowest
unfolding overfull
returns-clause-lowest c = find_first _ _ _ _ _ c.find.ensures.ran (λ x q k. search (rules, add-one)) (λ x q k. search (rules, add-one))

small : (n : ℕ) (p : ℕ → Bool) (o : Option ℕ) → o ≡ first_below n p → n < 256 → IfSome o (λ t. t < 255)
small n p None e h = tt
small n p (Some t) e h = omega (arith, first_below-is n p t e)

pub returns-clause-small : goal.returns-clause-small
returns-clause-small c = small _ _ _ (returns-clause-lowest c) c.ranges.slots.fits
