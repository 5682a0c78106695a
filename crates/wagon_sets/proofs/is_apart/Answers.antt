-- `wagon_sets::is_apart` meets its contract. The tests are the definition's.
use mathlib.Core.Path.{refl}
use Rattle.model.specs.Model.{grouped, apart}
use Rattle.wagon_sets.proofs.is_apart.Goals as goal

pub returns : goal.returns
unfolding grouped apart
returns c = refl
