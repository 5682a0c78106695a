use mathlib.Core.Bool.{and-true}
use Rattle.day.specs.Sound.{within, group_ranges}
use Rattle.day.proofs.group_within.Goals as goal

pub returns : goal.returns
unfolding within group_ranges
returns c = simp (c.in_range-2.ensures, c.in_range.ensures, and-true)
