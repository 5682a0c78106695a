-- The names line, and the row after it.
use mathlib.Core.Path.{refl, ap}
use native.Mathlib.Omega.{arith}
use lib.ListN.{length, length-append}
use Rattle.decimal.specs.PlaceLaws.{put_text}
use Rattle.lines.specs.Lines.{row_text}
use Rattle.model.specs.Model.{Outcome}
use Rattle.counting.specs.Counting.{figures, figures_of, outcome_of, same_figures}
use Rattle.planfile.specs.PlanText.{value_names}
use Rattle.planfile.proofs.put_values.Goals as goal

pub put_bytes-next-requires : goal.put_bytes-next-requires
unfolding value_names
put_bytes-next-requires c =
    omega (arith, length-append value_names (row_text (figures_of (outcome_of c.args.value))))

pub put_row-requires : goal.put_row-requires
unfolding value_names
put_row-requires c =
    let opened = ap (λ (o : Outcome). row_text (figures_of o)) (same_figures {a = figures c.count.result c.count-2.result c.count-3.result c.args.value.cost} c.count.ensures c.count-2.ensures c.count-3.ensures refl) in
    omega (arith, length-append value_names (row_text (figures_of (outcome_of c.args.value))), c.put_bytes-next.ensures.next, ap length opened)

pub returns : goal.returns
unfolding value_names
returns c =
    let opened = ap (λ (o : Outcome). row_text (figures_of o)) (same_figures {a = figures c.count.result c.count-2.result c.count-3.result c.args.value.cost} c.count.ensures c.count-2.ensures c.count-3.ensures refl) in
    put_text {b = row_text (figures_of (outcome_of c.args.value))} c.put_bytes-next.ensures (rw (← opened) c.put_row.ensures)
