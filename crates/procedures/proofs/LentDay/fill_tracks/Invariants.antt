-- `LentDay::fill_tracks` meets its contract. The loop's invariant: the tracks passed are filled.
use Rattle.std.proofs.Common.{◌≡◌, ◌≤◌, length}
use Rattle.procedures.specs.Lent.{filled_of}
use Rattle.procedures.proofs.LentDay.fill_tracks.Given as goal

abbrev pub invariant-loop-track : goal.invariant-loop-track
invariant-loop-track l =
    (l._track ≤ l.self.tracks) × (length l.row ≡ length l.initial.row) × (l.row ≡ filled_of l.self l.t l.initial.row l._track)
