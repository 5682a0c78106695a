-- `day_sound::position_sound` meets its contract. By the two cases of the test that the position is a train's.
use borrow.Author.Tests.{lt-ltb, le-ltb}
use Rattle.day.specs.Sound.{position_sound}
use Rattle.day_sound.proofs.position_sound.Goals as goal

pub returns-then-i-p : goal.returns-then-i-p
unfolding position_sound
returns-then-i-p c = rw (lt-ltb _ _ c.if-i-p.true) c.train_sound.ensures

pub returns-else-i-p : goal.returns-else-i-p
unfolding position_sound
returns-else-i-p c = rw (le-ltb _ _ c.if-i-p.false) c.is_unused.ensures
