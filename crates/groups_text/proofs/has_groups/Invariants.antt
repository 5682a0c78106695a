-- `groups_text::has_groups` meets its contract. The loop's invariant: no position passed has a group.
use Prim.Native.Nat.{◌≤◌, ◌-◌}
use mathlib.Core.Path.{◌≡◌}
use mathlib.Core.Bool.{false}
use Rattle.groups_text.specs.Texts.{has_groups}
use Rattle.groups_text.proofs.has_groups.Given as goal

abbrev pub invariant-loop-i : goal.invariant-loop-i
invariant-loop-i l = (l.i ≤ l.n) × (has_groups l.i l.groups ≡ false)

abbrev pub decreases-loop-i : goal.decreases-loop-i
decreases-loop-i l = l.n - l.i
