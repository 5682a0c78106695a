use mathlib.Core.Bool.{and_assoc, and-true}
use Rattle.day.specs.Sound.{within, train_ranges}
use Rattle.day.proofs.train_within.Goals as goal

pub returns : goal.returns
unfolding within train_ranges
returns c = simp (c.in_range-3.ensures, c.in_range-2.ensures, c.in_range.ensures, and-true, and_assoc)
