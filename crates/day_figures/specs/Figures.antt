-- What a day file comes to in a report over a period (document 02, order 10; its season): planned, with the figures of its plan, or refused
-- under the number that reading or planning gives. This file is what a reader must believe of one day.
-- Assumes nothing.
use Rattle.std.specs.Prelude.{List, ℕ, ◌-◌, Result}
use Rattle.model.specs.Model.{Yard, Outcome, boxes_of}
use Rattle.day.specs.Answer.{Answer, gives, answered, on_given, where_given}
use Rattle.day.specs.declared.Limits.{Limits}
use Rattle.dayfile.specs.Reading.{read_day}
use Rattle.planning.specs.Planning.{cost_area, choice_area, planned}
use Rattle.procedures.specs.Procedures.{first_come}
use Rattle.comparing.specs.Comparing.{Comparison}
use Rattle.baselines.specs.Baselines.{compared}
use Rattle.day_figures.specs.declared.Figures.{Figures}
use Rattle.day.specs.declared.Refusal.{Refusal}

-- ---- the code's answer in the papers' numbers

abbrev pub answer : Result Figures Refusal → Answer Figures
answer = answered λ f. f

-- ---- the figures of a planned day

-- what first come's row costs more than the plan (it costs no less: `saved_covers`); nothing where it gives no allowed row
abbrev pub saved : Outcome → Answer Comparison → ℕ
saved best first = where_given first 0 λ c. c.outcome.cost - best.cost

-- those of its plan, all its boxes, and what planning saves against first come
abbrev pub figures : Limits → Yard → Outcome → Figures
figures l y best = record {
  revisits = best.revisits;
  splits = best.splits;
  direct = best.direct;
  boxes = boxes_of y;
  savings = saved best (compared l y (first_come y) cost_area choice_area);
}

-- ---- one day: what reading answers, and then planning, in areas that suffice for every day

abbrev pub plan_answer : Limits → Yard → Answer Figures
plan_answer l y = on_given (planned l y cost_area choice_area y.trains) λ best. gives (figures l y best)

unfoldable pub day_answer : Limits → List ℕ → Answer Figures
day_answer l text = on_given (read_day l text) (plan_answer l)
