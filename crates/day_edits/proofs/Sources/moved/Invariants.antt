-- `Sources::moved` meets its contract. The loop's invariant: the positions passed are filled.
use Rattle.std.proofs.Common.{◌≡◌, ◌≤◌, get_or}
use Rattle.fold.specs.Column.{filled}
use Rattle.day_edits.specs.Sources.{source_of}
use Rattle.day_edits.proofs.Sources.moved.Given as goal

abbrev pub invariant-loop-i : goal.invariant-loop-i
invariant-loop-i g l = (l.i ≤ l.self.trains) × (l.column ≡ filled l.fn.none 12 l.i (λ i. get_or l.old (source_of l.self i) l.fn.none))
