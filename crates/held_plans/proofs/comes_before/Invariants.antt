-- `held_plans::comes_before` meets its contract. The loop's invariant: the words of the slots passed are equal.
use Rattle.std.proofs.Common.{◌≡◌, ℕ, ◌≤◌, ◌<◌, get_or}
use Rattle.held_plans.proofs.comes_before.Given as goal

abbrev pub invariant-loop-j : goal.invariant-loop-j
invariant-loop-j l = (l.j ≤ l.slots) × ((u : ℕ) → u < l.j → get_or l.x.unserved u 0 ≡ get_or l.other.unserved u 0)
