-- `report_text::refused_days` meets its contract. The loop's invariant: the sum of the counters passed, each below 2 ^ 32.
use mathlib.Core.Path.{◌≡◌}
use Prim.Native.Nat.{◌-◌, ◌≤◌}
use Rattle.report_text.specs.ReportText.{refusal_count}
use Rattle.report_text.specs.Laws.{refused_up_to}
use Rattle.report_text.proofs.refused_days.Given as goal

abbrev pub invariant-loop-i : goal.invariant-loop-i
invariant-loop-i l = (l.i ≤ refusal_count) × (l.refused ≡ refused_up_to l.days l.i)

abbrev pub decreases-loop-i : goal.decreases-loop-i
decreases-loop-i l = refusal_count - l.i
