-- `procedures::come_first` meets its contract. The loop's invariant: the trains passed have their slots.
use Rattle.std.proofs.Common.{◌≡◌, ◌≤◌, length}
use Rattle.procedures.specs.Procedures.{come_to}
use Rattle.procedures.proofs.come_first.Given as goal

abbrev pub invariant-loop-i : goal.invariant-loop-i
invariant-loop-i l =
    (l.i ≤ l.day.trains) × (length l.row ≡ length l.initial.row)
    × (l.row ≡ come_to l.day.trains l.day.tracks l.day.slots l.day.first.now l.day.last.now l.i)
