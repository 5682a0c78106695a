-- `procedures::serve_myopic` meets its contract. The loop's invariant: the slots passed are filled.
use Rattle.std.proofs.Common.{◌≡◌, ◌≤◌, length}
use Rattle.procedures.specs.Procedures.{served_to}
use Rattle.procedures.specs.Lent.{boxes_of}
use Rattle.procedures.proofs.serve_myopic.Given as goal

abbrev pub invariant-loop-t : goal.invariant-loop-t
invariant-loop-t l =
    (l.t ≤ l.day.slots) × (length l.row ≡ length l.initial.row)
    × (l.row ≡ served_to l.day.trains l.day.revisit l.day.split (boxes_of l.day) l.day.first.now l.day.last.now l.day.tracks l.t)
