-- `lower_figure::lower_figure` meets its contract. The loop's invariant: both counts for the trains passed, at most 1 and 9180 for each.
use Prim.Native.Nat.{◌≤◌, ◌-◌, ◌*◌}
use mathlib.Core.Path.{◌≡◌}
use Rattle.fold.specs.Fold.{sum, count}
use Rattle.beam_tables.specs.Given.{received}
use Rattle.lower_figure.specs.Figure.{sure_revisit, sure_split}
use Rattle.lower_figure.proofs.lower_figure.Given as goal

abbrev pub invariant-loop-i : goal.invariant-loop-i
invariant-loop-i l = (l.i ≤ l.day.boxes.trains) × (l.revisits ≡ count l.i (sure_revisit l.day.boxes.trains (received l.day.boxes) l.day.first.now l.day.last.now)) × (l.splits ≡ sum l.i (sure_split l.day.boxes.trains l.tracks (received l.day.boxes))) × (l.revisits ≤ l.i) × (l.splits ≤ 9180 * l.i)

abbrev pub decreases-loop-i : goal.decreases-loop-i
decreases-loop-i l = l.day.boxes.trains - l.i
