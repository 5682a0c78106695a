-- `day_text::put_trains` meets its contract. The loop's invariant: after the names line stand the rows of the trains passed.
use mathlib.Core.Path.{◌≡◌}
use Prim.Native.Nat.{◌≤◌, ◌-◌}
use lib.ListN.{length}
use Rattle.fold.specs.Listed.{joined}
use Rattle.decimal.specs.Place.{Put}
use Rattle.day_text.specs.Writes.{train_text}
use Rattle.day_text.proofs.put_trains.Given as goal

abbrev pub invariant-loop-i : goal.invariant-loop-i
invariant-loop-i l = (l.i ≤ l.p.head.trains) × (length l.out ≡ length l.initial.out) × Put l.initial.out l.out l.initial.next l.next (joined l.i (train_text l.p.numbers.now l.p.first.now l.p.last.now))

abbrev pub decreases-loop-i : goal.decreases-loop-i
decreases-loop-i l = l.p.head.trains - l.i
