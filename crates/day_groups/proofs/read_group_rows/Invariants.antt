-- The invariant is `GroupsSoFar`: the rows so far are stored, the reading goes on at p.
use Rattle.std.proofs.Common.{◌≡◌, ◌-◌, length}
use Rattle.day_groups.specs.Groups.{GroupsSoFar}
use Rattle.day_groups.proofs.read_group_rows.Given as goal

abbrev pub invariant-loop-row : goal.invariant-loop-row
invariant-loop-row l = GroupsSoFar l.l l.numbers l.fn.start.line l.fn.start.at l.text l.initial.groups l.groups l.place.at l.place.line l.before.0 l.before.1 × (length l.groups ≡ l.l.trains)

abbrev pub decreases-loop-row : goal.decreases-loop-row
decreases-loop-row l = length l.text - l.place.at
