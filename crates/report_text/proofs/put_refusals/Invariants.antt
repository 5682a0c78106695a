-- `report_text::put_refusals` meets its contract. The loop's invariant: after the names line stand the rows of the numbers passed.
use mathlib.Core.Path.{◌≡◌}
use Prim.Native.Nat.{◌≤◌, ◌-◌}
use lib.ListN.{length}
use Rattle.fold.specs.Listed.{joined}
use Rattle.decimal.specs.Place.{Put}
use Rattle.report_text.specs.ReportText.{refusal_count}
use Rattle.report_text.specs.Laws.{refusal_line}
use Rattle.report_text.proofs.put_refusals.Given as goal

abbrev pub invariant-loop-i : goal.invariant-loop-i
invariant-loop-i l = (l.i ≤ refusal_count) × (length l.out ≡ length l.initial.out) × Put l.initial.out l.out l.initial.next l.next (joined l.i (refusal_line l.days))

abbrev pub decreases-loop-i : goal.decreases-loop-i
decreases-loop-i l = refusal_count - l.i
