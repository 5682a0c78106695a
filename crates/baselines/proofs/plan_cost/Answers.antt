-- `baselines::plan_cost` meets its contract: the local row is long enough for every sound day.
-- where the function began, from the place after planning
use mathlib.Core.Path.{◌∙◌, subst}
use lib.ListN.{length}
use Rattle.day.specs.Sound.{day_limits, yard}
use Rattle.planning.specs.Planning.{cost_words, choice_words, open_words, Stays}
use Rattle.planning.proofs.Answers.{same_begins, same_planned}
use Rattle.baselines.proofs.plan_cost.Goals as goal

pub returns : goal.returns
returns c =
    let a = c.args in
    let y = yard a.day in
    let k = length a.cost.now in
    let m = length a.choice.now in
    let e = c.plan.ensures in record {
      result_value = e.result_value ∙ same_planned day_limits y k m;
      stays = subst (λ b. Stays (open_words b (cost_words y)) a.cost.now c.plan.new.cost) (same_begins day_limits y k m) e.stays;
      stays_2 = subst (λ b. Stays (open_words b (choice_words y)) a.choice.now c.plan.new.choice) (same_begins day_limits y k m) e.stays_2;
    }
