-- The test is the definition's, with the number before put in.
use Rattle.day.specs.Sound.{train_sound}
use Rattle.day_sound.proofs.train_sound.Goals as goal

pub returns : goal.returns
unfolding train_sound
returns c = rw (c.train_within.ensures, c.from.ensures, c.from-2.ensures, c.from-3.ensures, c.from-4.ensures, c.number_before.ensures)
