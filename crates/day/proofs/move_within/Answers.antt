use mathlib.Core.Bool.{and_assoc, and-true}
use Rattle.day.specs.Sound.{within, move_ranges}
use Rattle.day.proofs.move_within.Goals as goal

pub returns : goal.returns
unfolding within move_ranges
returns c = simp (c.in_range-3.ensures, c.in_range-2.ensures, c.in_range.ensures, and-true, and_assoc)
