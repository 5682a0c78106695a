-- `day_sound::number_before` meets its contract. By the two cases of the index.
use Rattle.day.specs.SoundLaws.{number-before, number_first}
use Rattle.day_sound.proofs.number_before.Goals as goal

pub returns-then-i-eq0 : goal.returns-then-i-eq0
returns-then-i-eq0 c = number_first _ _ c.if-i-eq0.true

pub returns-else-i-eq0 : goal.returns-else-i-eq0
returns-else-i-eq0 c = number-before _ _ c.if-i-eq0.false
