-- `groups_text::put_groups` meets its contract. Nothing where no train has a group; else the loop's invariant: after the names line stand the
-- rows of the groups passed.
use mathlib.Core.Path.{◌≡◌}
use Prim.Native.Nat.{◌-◌, ◌≤◌}
use lib.ListN.{length}
use Rattle.fold.specs.Listed.{joined}
use Rattle.decimal.specs.Place.{Put}
use Rattle.groups_text.specs.Texts.{group_text}
use Rattle.groups_text.proofs.put_groups.Given as goal

abbrev pub invariant-loop-g : goal.invariant-loop-g
invariant-loop-g l = (l.g ≤ l.most) × (length l.out ≡ length l.initial.out) × Put l.initial.out l.out l.initial.next l.next (joined l.g (group_text l.n l.numbers l.groups))

abbrev pub decreases-loop-g : goal.decreases-loop-g
decreases-loop-g l = l.most - l.g
