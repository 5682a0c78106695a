-- `lower_figure::largest_supplies` meets its contract. The loop's invariant: the greatest sums of the supplies passed.
use Prim.Native.Nat.{◌≤◌, ◌-◌}
use Rattle.beam_tables.specs.Given.{received}
use Rattle.lower_figure.specs.Figure.{ThreeLargest}
use Rattle.lower_figure.proofs.largest_supplies.Given as goal

abbrev pub invariant-loop-j : goal.invariant-loop-j
invariant-loop-j l = (l.j ≤ l.boxes.trains) × (l.one ≤ 255) × (l.two ≤ 510) × (l.three ≤ 765) × ThreeLargest l.j (received l.boxes l.i) l.one l.two l.three

abbrev pub decreases-loop-j : goal.decreases-loop-j
decreases-loop-j l = l.boxes.trains - l.j
