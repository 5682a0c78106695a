-- `answering::put_best` meets its contract. The areas suffice, so planning answers the best plan or 9.
-- what planning answers, and the row that it leaves
use mathlib.Core.Path.{◌≡◌, sym, ap, ◌∙◌}
use mathlib.Core.List.{List}
use Prim.Native.Nat.{ℕ, ◌≤◌}
use native.Mathlib.Omega.{arith}
use lib.Dec.{T}
use lib.ListN.{length}
use Rattle.model.specs.BestOf.{best_of}
use Rattle.day.specs.Sound.{day_limits, yard}
use Rattle.day.specs.SoundLaws.{sound_is}
use Rattle.day.specs.Answer.{gives}
use Rattle.output.specs.Laws.{put_count}
use Rattle.counting.specs.Counting.{outcome_of}
use Rattle.planfile.specs.PlanText.{plan_lines}
use Rattle.planfile.specs.Size.{plan_bytes}
use Rattle.planning.specs.Planning.{answer, begins, best_answer, placed}
use Rattle.planning.proofs.Answers.{planned-begun, row-begun, areas_suffice_lem}
use Rattle.answering.specs.Answering.{day_reply}
use Rattle.answering.specs.Laws.{fits_most, refused_reply, plan_reply, plan_fits, best-allowed, best_size}
use Rattle.answering.proofs.put_best.Goals as goal

pub put_plan-requires : goal.put_plan-requires
put_plan-requires c =
    let enough : T (begins day_limits (yard c.args.day) 4096 32768 12) = areas_suffice_lem (yard c.args.day) 12 c.requires.0 (sound_is day_limits (yard c.args.day) c.requires.0).trains.1 in
    let row_left : let y = yard c.args.day in (row : List ℕ) × (c.plan.new.row ≡ placed (best_of y) row) = (_, c.plan.ensures.row_after ∙ row-begun day_limits (yard c.args.day) 4096 32768 _ enough) in
    let best-said : let y = yard c.args.day in answer c.plan.result ≡ best_answer y (best_of y) = c.plan.ensures.result_value ∙ planned-begun day_limits (yard c.args.day) 4096 32768 12 enough in
    let plan-said : let y = yard c.args.day in gives (outcome_of c.in-Ok.value) ≡ best_answer y (best_of y) = sym (ap answer c.in-Ok.is) ∙ best-said in
    let lines : List ℕ → List ℕ = let day = c.args.day in plan_lines day.trains day.numbers (outcome_of c.in-Ok.value) in
    let lines_fit : length (lines c.plan.new.row) ≤ plan_bytes =
    let y = yard c.args.day in
    omega (arith, ap (λ r. length (lines r)) row_left.1, plan_fits y (best_of y) (best-allowed y) row_left.0 plan-said plan_bytes (best_size y c.requires.0)) in
    let is = sound_is day_limits _ c.requires.0 in record {
      n_in_bounds = (omega (arith, is.shape.numbers, is.trains.1), omega (arith, is.trains.1, c.plan.auto.row));
      row_in_bounds = omega (arith, lines_fit, c.requires.1);
    }

pub returns-in-Err : goal.returns-in-Err
returns-in-Err c =
    let enough : T (begins day_limits (yard c.args.day) 4096 32768 12) = areas_suffice_lem (yard c.args.day) 12 c.requires.0 (sound_is day_limits (yard c.args.day) c.requires.0).trains.1 in
    let best-said : let y = yard c.args.day in answer c.plan.result ≡ best_answer y (best_of y) = c.plan.ensures.result_value ∙ planned-begun day_limits (yard c.args.day) 4096 32768 12 enough in
    rw (← refused_reply (yard c.args.day) (best_of (yard c.args.day)) c.in-Err.refusal (sym (ap answer c.in-Err.is) ∙ best-said)) (fits_most plan_bytes (omega arith) c.put_refusal.ensures)

pub returns-in-Ok : goal.returns-in-Ok
returns-in-Ok c =
    let enough : T (begins day_limits (yard c.args.day) 4096 32768 12) = areas_suffice_lem (yard c.args.day) 12 c.requires.0 (sound_is day_limits (yard c.args.day) c.requires.0).trains.1 in
    let row_left : let y = yard c.args.day in (row : List ℕ) × (c.plan.new.row ≡ placed (best_of y) row) = (_, c.plan.ensures.row_after ∙ row-begun day_limits (yard c.args.day) 4096 32768 _ enough) in
    let best-said : let y = yard c.args.day in answer c.plan.result ≡ best_answer y (best_of y) = c.plan.ensures.result_value ∙ planned-begun day_limits (yard c.args.day) 4096 32768 12 enough in
    let plan-said : let y = yard c.args.day in gives (outcome_of c.in-Ok.value) ≡ best_answer y (best_of y) = sym (ap answer c.in-Ok.is) ∙ best-said in
    let lines : List ℕ → List ℕ = let day = c.args.day in plan_lines day.trains day.numbers (outcome_of c.in-Ok.value) in
    let lines_are : let y = yard c.args.day in lines c.plan.new.row ≡ day_reply y (best_of y) =
    let y = yard c.args.day in
    ap lines row_left.1 ∙ plan_reply y (best_of y) (best-allowed y) row_left.0 plan-said in
    let lines_fit : length (lines c.plan.new.row) ≤ plan_bytes =
    let y = yard c.args.day in
    omega (arith, ap (λ r. length (lines r)) row_left.1, plan_fits y (best_of y) (best-allowed y) row_left.0 plan-said plan_bytes (best_size y c.requires.0)) in
    let q = c.put_plan.ensures in
    (rw (← lines_are) q, omega (arith, put_count q, lines_fit))
