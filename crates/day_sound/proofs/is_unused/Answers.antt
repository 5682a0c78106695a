-- `day_sound::is_unused` meets its contract. The test is the definition's, word for word.
use mathlib.Core.Path.{refl}
use Rattle.day.specs.Sound.{unused}
use Rattle.day_sound.proofs.is_unused.Goals as goal

pub returns : goal.returns
unfolding unused
returns c = refl
