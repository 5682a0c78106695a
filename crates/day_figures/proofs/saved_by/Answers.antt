-- `day_figures::saved_by` meets its contract. A first-come row that is given is allowed, so it costs no less than the plan; else 0.
-- where the function began, from each of the two cases
use mathlib.Core.Path.{◌≡◌, sym, ap, ◌∙◌}
use native.Mathlib.Omega.{arith}
use Rattle.day.specs.Answer.{gives, judged}
use Rattle.day.specs.Most.{day_most-cost, sound-cost}
use Rattle.day.specs.Sound.{day_limits, yard}
use Rattle.day.specs.SoundLaws.{sound_is}
use Rattle.model.specs.Model.{Outcome}
use Rattle.counting.specs.Counting.{outcome_of}
use Rattle.planning.specs.Planning.{cost_area, choice_area}
use Rattle.procedures.specs.Procedures.{first_come}
use Rattle.comparing.specs.Comparing.{comparison_of}
use Rattle.baselines.specs.Baselines.{compared}
use Rattle.day_figures.specs.Figures.{saved}
use Rattle.day_figures.specs.Laws.{best_of_lem, first_against, saved_covers}
use Rattle.day_figures.proofs.saved_by.Goals as goal

pub compare_with-baseline-requires : goal.compare_with-baseline-requires
compare_with-baseline-requires c =
    let y = yard c.args.day in
    let best = best_of_lem day_limits y c.requires in
    (best.is_sound, omega (arith, day_most-cost, sound-cost day_limits y best.row (sound_is day_limits y best.is_sound), ap (λ (o : Outcome). o.cost) best.numbers))

pub overflow_sub-result : goal.overflow_sub-result
overflow_sub-result c =
    let given : let y = yard c.args.day in compared day_limits y (first_come y) cost_area choice_area ≡ gives (comparison_of c.compare_with-baseline.result) = let w = c.compare_with-baseline in
    first_against day_limits (yard c.args.day) c.requires ∙ sym w.ensures.says ∙ ap (λ v. judged v (comparison_of w.result)) c.in-Ok.is in
    saved_covers day_limits (yard c.args.day) c.requires (comparison_of c.compare_with-baseline.result) given

pub returns-in-Ok : goal.returns-in-Ok
returns-in-Ok c =
    let given : let y = yard c.args.day in compared day_limits y (first_come y) cost_area choice_area ≡ gives (comparison_of c.compare_with-baseline.result) = let w = c.compare_with-baseline in
    first_against day_limits (yard c.args.day) c.requires ∙ sym w.ensures.says ∙ ap (λ v. judged v (comparison_of w.result)) c.in-Ok.is in
    sym (ap (saved (outcome_of c.args.best)) given)

pub returns-in-Err : goal.returns-in-Err
returns-in-Err c =
    let w = c.compare_with-baseline in
    sym (ap (saved (outcome_of c.args.best))
    (first_against day_limits (yard c.args.day) c.requires ∙ sym w.ensures.says ∙ ap (λ v. judged v (comparison_of w.result)) c.in-Err.is))
