-- `day_sound::pair_sound` meets its contract. By the two cases of the test that both are trains and differ.
use Rattle.day.specs.Sound.{pair_sound}
use Rattle.day_sound.proofs.pair_sound.Goals as goal

pub returns-then-i-p : goal.returns-then-i-p
unfolding pair_sound
returns-then-i-p c = rw (c.cell_at-boxes.ensures, c.if-i-p.true)

pub returns-else-i-p : goal.returns-else-i-p
unfolding pair_sound
returns-else-i-p c = rw (c.cell_at-boxes.ensures, c.if-i-p.false)
