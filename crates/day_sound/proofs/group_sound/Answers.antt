-- `day_sound::group_sound` meets its contract. By the two cases of the test that the position is a train's.
use borrow.Author.Tests.{lt-ltb, le-ltb}
use Rattle.day.specs.Sound.{group_sound}
use Rattle.day_sound.proofs.group_sound.Goals as goal

pub returns-then-i-p : goal.returns-then-i-p
unfolding group_sound
returns-then-i-p c = rw (lt-ltb _ _ c.if-i-p.true)

pub returns-else-i-p : goal.returns-else-i-p
unfolding group_sound
returns-else-i-p c = rw (le-ltb _ _ c.if-i-p.false)
