-- `baselines::measure` meets its contract: planning's refusal, or the procedure's row against the planned cost.
-- where the function began, from the place after planning; that place, from the one before the two cases of its answer
use mathlib.Core.Path.{◌≡◌, sym, ap, ◌∙◌}
use lib.ListN.{length}
use Rattle.day.specs.Answer.{gives, refusal}
use Rattle.day.specs.Sound.{day_limits, yard}
use Rattle.counting.specs.Counting.{outcome_of}
use Rattle.planning.specs.Planning.{answer as plan_answer, planned}
use Rattle.planning.proofs.Answers.{from_best}
use Rattle.baselines.specs.Baselines.{row_by}
use Rattle.comparing.specs.Laws.{cost_fits}
use Rattle.baselines.specs.Laws.{says_against, says_refused}
use Rattle.baselines.proofs.measure.Goals as goal

pub compare_with-requires : goal.compare_with-requires
compare_with-requires c =
    let found : let a = c.args in planned day_limits (yard a.day) (length a.cost.now) (length a.choice.now) a.day.trains ≡ gives (outcome_of c.in-Ok.best) = sym c.plan_cost.ensures.result_value ∙ ap plan_answer c.in-Ok.is in
    let a = c.args in
    let y = yard a.day in
    let p = from_best day_limits y (length a.cost.now) (length a.choice.now) y.trains _ found in
    (p.is_sound, cost_fits y p.row p.is_sound p.numbers)

pub returns-in-Ok : goal.returns-in-Ok
returns-in-Ok c =
    let found : let a = c.args in planned day_limits (yard a.day) (length a.cost.now) (length a.choice.now) a.day.trains ≡ gives (outcome_of c.in-Ok.best) = sym c.plan_cost.ensures.result_value ∙ ap plan_answer c.in-Ok.is in
    let a = c.args in
    let y = yard a.day in
    let s = says_against day_limits y (row_by a.procedure y) (length a.cost.now) (length a.choice.now) found c.compare_with.ensures in
    record {
      result_value = s.says;
      result_value_2 = s.beside;
      stays = c.plan_cost.ensures.stays;
      stays_2 = c.plan_cost.ensures.stays_2;
    }

pub returns-in-Err : goal.returns-in-Err
returns-in-Err c =
    let not_found : let a = c.args in planned day_limits (yard a.day) (length a.cost.now) (length a.choice.now) a.day.trains ≡ refusal c.in-Err.refusal = sym c.plan_cost.ensures.result_value ∙ ap plan_answer c.in-Err.is in
    let a = c.args in
    let y = yard a.day in
    let s = says_refused day_limits y (row_by a.procedure y) (length a.cost.now) (length a.choice.now) not_found c.refused.ensures in
    record {
      result_value = s.says;
      result_value_2 = s.beside;
      stays = c.plan_cost.ensures.stays;
      stays_2 = c.plan_cost.ensures.stays_2;
    }
