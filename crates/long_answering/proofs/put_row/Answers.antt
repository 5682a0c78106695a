-- `long_answering::put_row` meets its contract. The row suffices and 30 is a width, so planning answers the row that is found, or 9.
use mathlib.Core.Path.{◌≡◌, sym, ap, ◌∙◌}
use mathlib.Core.List.{List}
use Prim.Native.Nat.{ℕ, ◌≤◌}
use native.Mathlib.Omega.{arith}
use lib.ListN.{length}
use Rattle.day.specs.Answer.{gives}
use Rattle.day.specs.SoundLaws.{sound_is}
use Rattle.counting.specs.Counting.{outcome_of}
use Rattle.output.specs.Laws.{put_count}
use Rattle.planning.specs.Planning.{best_answer, placed}
use Rattle.planfile.specs.PlanText.{plan_lines}
use Rattle.answering.specs.Answering.{day_reply}
use Rattle.answering.specs.Laws.{fits_most, refused_reply, plan_reply, plan_fits}
use Rattle.long_day.specs.LongDay.{long_limits, long_yard}
use Rattle.long_planfile.specs.Size.{long_plan_bytes, long_plan_allowed}
use Rattle.long_planning.specs.LongPlanning.{answer}
use Rattle.long_answering.specs.LongAnswering.{long_row}
use Rattle.long_answering.specs.Laws.{row_answer, row_said, row_left, row-allowed}
use Rattle.long_answering.proofs.put_row.Goals as goal

pub put_plan-requires : goal.put_plan-requires
put_plan-requires c =
    let day = c.args.day in
    let y = long_yard day in
    let is = sound_is long_limits y c.requires.0 in
    -- what planning answers
    let said : row_answer (answer c.plan_long.result) ≡ best_answer y (long_row y) = row_said y c.requires.0 36 is.trains.1 c.plan_long.ensures.result_value in
    -- the row that it leaves
    let left : (row : List ℕ) × (c.plan_long.new.row ≡ placed (long_row y) row) = (_, row_left y c.requires.0 _ is.trains.1 c.plan_long.ensures.row_after) in
    let found : gives (outcome_of c.in-Ok.found.value) ≡ best_answer y (long_row y) = sym (ap (λ r. row_answer (answer r)) c.in-Ok.is) ∙ said in
    -- the lines that are put
    let lines : List ℕ → List ℕ = plan_lines day.trains day.numbers (outcome_of c.in-Ok.found.value) in
    let lines_fit : length (lines c.plan_long.new.row) ≤ long_plan_bytes =
    omega (
      arith,
      ap (λ r. length (lines r)) left.1,
      plan_fits y (long_row y) (row-allowed y c.requires.0) left.0 found long_plan_bytes (λ r. long_plan_allowed y r c.requires.0),
    ) in
    record {
      n_in_bounds = (omega (arith, is.shape.numbers, is.trains.1), omega (arith, is.trains.1, c.plan_long.auto.row));
      row_in_bounds = omega (arith, lines_fit, c.requires.1);
    }

pub returns-in-Err : goal.returns-in-Err
returns-in-Err c =
    let day = c.args.day in
    let y = long_yard day in
    let is = sound_is long_limits y c.requires.0 in
    -- what planning answers
    let said : row_answer (answer c.plan_long.result) ≡ best_answer y (long_row y) = row_said y c.requires.0 36 is.trains.1 c.plan_long.ensures.result_value in
    rw (← refused_reply y (long_row y) c.in-Err.refusal (sym (ap (λ r. row_answer (answer r)) c.in-Err.is) ∙ said))
    (fits_most long_plan_bytes (omega arith) c.put_refusal.ensures)

pub returns-in-Ok : goal.returns-in-Ok
returns-in-Ok c =
    let day = c.args.day in
    let y = long_yard day in
    let is = sound_is long_limits y c.requires.0 in
    -- what planning answers
    let said : row_answer (answer c.plan_long.result) ≡ best_answer y (long_row y) = row_said y c.requires.0 36 is.trains.1 c.plan_long.ensures.result_value in
    -- the row that it leaves
    let left : (row : List ℕ) × (c.plan_long.new.row ≡ placed (long_row y) row) = (_, row_left y c.requires.0 _ is.trains.1 c.plan_long.ensures.row_after) in
    let found : gives (outcome_of c.in-Ok.found.value) ≡ best_answer y (long_row y) = sym (ap (λ r. row_answer (answer r)) c.in-Ok.is) ∙ said in
    -- the lines that are put
    let lines : List ℕ → List ℕ = plan_lines day.trains day.numbers (outcome_of c.in-Ok.found.value) in
    let lines_are : lines c.plan_long.new.row ≡ day_reply y (long_row y) =
    ap lines left.1 ∙ plan_reply y (long_row y) (row-allowed y c.requires.0) left.0 found in
    let lines_fit : length (lines c.plan_long.new.row) ≤ long_plan_bytes =
    omega (
      arith,
      ap (λ r. length (lines r)) left.1,
      plan_fits y (long_row y) (row-allowed y c.requires.0) left.0 found long_plan_bytes (λ r. long_plan_allowed y r c.requires.0),
    ) in
    let q = c.put_plan.ensures in
    (rw (← lines_are) q, omega (arith, put_count q, lines_fit))
