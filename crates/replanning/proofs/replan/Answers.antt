-- Planning's own answer, on the cut day, with a row of zeros.
use Rattle.std.proofs.Common.{◌∙◌, T, Bool, length}
use Rattle.day.specs.Sound.{day_limits, yard, sound}
use Rattle.planning.specs.Planning.{cost_area, choice_area, begins, Stays}
use Rattle.rolling.specs.Cut.{cut-sound}
use Rattle.rolling.specs.Replanned.{costs_stay, choices_stay}
use Rattle.rolling_state.specs.Laws.{passed_on}
use Rattle.account_edits.specs.Accounts.{account_in}
use Rattle.replanning.specs.Laws.{replan_refused, replan_taken}
use Rattle.replanning.proofs.replan.Goals as goal
use Rattle.replanning.proofs.replan.Goals.{After-plan}

left-sound : (c : After-plan) → T (sound day_limits (yard c.cut_day-left.result))
left-sound c = rw c.cut_day-left.ensures (cut-sound c.requires.0)

abbrev planned_there : After-plan → Bool
planned_there c = begins day_limits (yard c.cut_day-left.result) (length c.args.cost.now) (length c.args.choice.now) 12

-- of the areas only the words of the largest day may change
costs : (c : After-plan) → Stays cost_area c.args.cost.now c.plan.new.cost
costs c = costs_stay _ (left-sound c) (length c.args.cost.now) (length c.args.choice.now) c.requires.1 (planned_there c) c.args.cost.now c.plan.new.cost c.plan.ensures.stays

choices : (c : After-plan) → Stays choice_area c.args.choice.now c.plan.new.choice
choices c = choices_stay _ (left-sound c) (length c.args.cost.now) (length c.args.choice.now) c.requires.1 (planned_there c) c.args.choice.now c.plan.new.choice c.plan.ensures.stays_2

pub returns-in_err-plan : goal.returns-in_err-plan
returns-in_err-plan c =
    let p = (goal.at.returns-in_err-plan c).After-plan in
    let e = replan_refused (account_in c.args.account) c.requires.0 _ c.cut_day-left.ensures (length c.args.cost.now) (length c.args.choice.now) c.requires.1 c.in_err-plan.ensures.result_value in
    record { said = passed_on _ _ c.from_residual.ensures.1 ∙ e; costs = costs p; choices = choices p }

pub returns : goal.returns
returns c =
    let p = (goal.at.returns c).After-plan in
    let e = replan_taken (account_in c.args.account) c.requires.0 _ c.cut_day-left.ensures (length c.args.cost.now) (length c.args.choice.now) c.requires.1 c.in_ok-plan.ensures.result_value c.plan.ensures.row_after in
    record { said = e; costs = costs p; choices = choices p }
