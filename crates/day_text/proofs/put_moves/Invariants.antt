-- `day_text::put_moves` meets its contract. The loop's invariant: after the names line stand the rows of the places passed.
use mathlib.Core.Path.{◌≡◌}
use Prim.Native.Nat.{◌≤◌, ◌-◌, ◌*◌}
use lib.ListN.{length}
use Rattle.fold.specs.Listed.{joined}
use Rattle.decimal.specs.Place.{Put}
use Rattle.day_text.specs.Writes.{move_text}
use Rattle.day_text.proofs.put_moves.Given as goal

abbrev pub invariant-loop-q : goal.invariant-loop-q
invariant-loop-q l = (l.q ≤ l.p.limits.trains * l.p.limits.trains) × (length l.out ≡ length l.initial.out) × Put l.initial.out l.out l.initial.next l.next (joined l.q (move_text l.p.numbers.now l.p.limits.trains l.p.boxes.now))

abbrev pub decreases-loop-q : goal.decreases-loop-q
decreases-loop-q l = l.p.limits.trains * l.p.limits.trains - l.q
