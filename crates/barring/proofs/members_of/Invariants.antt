-- `barring::members_of` meets its contract. The loop's invariant: the mask of the members passed.
use Rattle.std.proofs.Common.{◌≡◌}
use Rattle.barring.specs.Laws.{members}
use Rattle.barring.proofs.members_of.Given as goal

abbrev pub invariant-loop-j : goal.invariant-loop-j
invariant-loop-j l = l.mask ≡ members l.j l.groups l.i
