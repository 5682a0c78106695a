-- How a day comes to its figures, and how great they can be: no figure of a day is above the greatest cost of a row.
-- Assumes nothing.
use Rattle.std.specs.Prelude.{◌≡◌, refl, List, ℕ, ◌+◌, ◌-◌, ◌≤◌, pos}
use Rattle.std.proofs.Math.Path.{sym, ap}
use Rattle.std.proofs.Common.{◌∙◌}
use native.Mathlib.Omega.{arith}
use Rattle.model.specs.Model.{Yard, Outcome, cost, boxes_of}
use Rattle.day.specs.Answer.{Answer, gives, refuses, on_given}
use Rattle.day.specs.Sound.{day_limits}
use Rattle.day.specs.SoundLaws.{sound_is}
use Rattle.day.specs.Most.{most_cost, sound_boxes, sound-revisits, sound-splits, sound-direct, sound-cost, day_most_boxes, day_most-cost}
use Rattle.day.specs.declared.Limits.{Limits}
use Rattle.dayfile.specs.Reading.{read_day}
use Rattle.planning.specs.Planning.{cost_area, choice_area, planned}
use Rattle.planning.specs.Answers.{FromBest}
use Rattle.planning.proofs.Answers.{from_best, planned_boxes}
use Rattle.procedures.specs.Procedures.{first_come}
use Rattle.comparing.specs.Comparing.{Comparison, against}
use Rattle.baselines.specs.Baselines.{compared}
use Rattle.baselines.specs.Laws.{compared-planned}
use Rattle.baselines.specs.Savings.{saves}
use Rattle.baselines.specs.declared.Procedure.TheVariants.{FirstCome}
use Rattle.day_figures.specs.Figures.{saved, figures, plan_answer, day_answer}
use Rattle.day_figures.specs.declared.Figures.{Figures}

-- ---- a text's answer, from its reading

module _ (l : Limits) (text : List ℕ) where
  pub day_read : {y : Yard} {a : Answer Figures} → read_day l text ≡ gives y → a ≡ plan_answer l y → a ≡ day_answer l text
  unfolding day_answer
  day_read e p = p ∙ sym (ap (λ r. on_given r (plan_answer l)) e)

  pub day_unread : {k : ℕ} {carries : List ℕ} → read_day l text ≡ refuses k carries → day_answer l text ≡ refuses k carries
  unfolding day_answer
  day_unread e = ap (λ r. on_given r (plan_answer l)) e

-- ---- a day's answer, from planning's

module _ (l : Limits) (y : Yard) where
  pub plan_given : {o : Outcome} {f : Figures} → planned l y cost_area choice_area y.trains ≡ gives o → f ≡ figures l y o → gives f ≡ plan_answer l y
  plan_given e p = ap gives p ∙ sym (ap (λ r. on_given r (λ best. gives (figures l y best))) e)

  pub plan_refused : {k : ℕ} {carries : List ℕ} → planned l y cost_area choice_area y.trains ≡ refuses k carries → refuses k carries ≡ plan_answer l y
  plan_refused e = sym (ap (λ r. on_given r (λ best. gives (figures l y best))) e)

-- ---- the figures of a day that is planned

module _ (l : Limits) (y : Yard) {o : Outcome} (plan : planned l y cost_area choice_area y.trains ≡ gives o) where
  pub best_of_lem : FromBest l y o
  best_of_lem = from_best l y cost_area choice_area y.trains o plan

  pub first_against : compared l y (first_come y) cost_area choice_area ≡ against y (first_come y) o.cost
  first_against = compared-planned l y (first_come y) cost_area choice_area plan

  pub all_moved : o.direct + o.splits ≡ boxes_of y
  all_moved = planned_boxes l y cost_area choice_area y.trains o plan

  pub plan_cost : o.cost ≡ cost y best_of_lem.row
  unfolding cost
  plan_cost = ap (λ (x : Outcome). x.cost) best_of_lem.numbers

  -- where first come gives an allowed row
  module _ (c : Comparison) (e : compared l y (first_come y) cost_area choice_area ≡ gives c) where
    first_cost : c.outcome.cost ≡ cost y (first_come y)
    unfolding cost
    first_cost = ap (λ (x : Outcome). x.cost) (saves l y cost_area choice_area FirstCome c e).numbers

    -- it costs no less than the plan
    pub saved_covers : o.cost ≤ c.outcome.cost
    saved_covers =
        let s = saves l y cost_area choice_area FirstCome c e in
        omega (arith, plan_cost, first_cost, best_of_lem.best.least (first_come y) s.is_allowed)

    -- and what is saved is the saving that the call of order 1 gives
    pub saved_exact : pos (saved o (compared l y (first_come y) cost_area choice_area)) ≡ c.saving
    saved_exact =
        let s = saves l y cost_area choice_area FirstCome c e in
        let same : c.outcome.cost - o.cost ≡ s.saved =
        omega (arith, plan_cost, first_cost, s.above, best_of_lem.best.least s.plan s.is_best_lem.is_allowed, s.is_best_lem.least best_of_lem.row best_of_lem.best.is_allowed) in
        ap (λ a. pos (saved o a)) e ∙ ap pos same ∙ sym s.saving

  pub saved_none : {k : ℕ} {carries : List ℕ} → compared l y (first_come y) cost_area choice_area ≡ refuses k carries → (figures l y o).savings ≡ 0
  saved_none e = ap (saved o) e

-- ---- the greatest figures of a day

-- each figure is at most m
pub record Within (m : ℕ) (f : Figures) : Type 0 where
  pub revisits : f.revisits ≤ m
  pub splits : f.splits ≤ m
  pub direct : f.direct ≤ m
  pub boxes : f.boxes ≤ m
  pub savings : f.savings ≤ m

-- a day whose figures are, or whose refusal has one of the numbers 1 to 26
abbrev pub Small : ℕ → Answer Figures → Type 0
Small m (gives f) = Within m f
Small m (refuses k carries) = k ≤ 26

-- a day whose boxes are its direct and its split moves
abbrev pub Moved : Answer Figures → Type 0
Moved (gives f) = f.direct + f.splits ≡ f.boxes
Moved (refuses k carries) = Unit

module _ (y : Yard) {o : Outcome} (plan : planned day_limits y cost_area choice_area y.trains ≡ gives o) where
  -- those of a row of the day
  first_saved : (a : Answer Comparison) → compared day_limits y (first_come y) cost_area choice_area ≡ a → saved o a ≤ most_cost day_limits
  unfolding cost
  first_saved (refuses k carries) e = omega arith
  first_saved (gives c) e =
      let s = sound_is day_limits y (best_of_lem day_limits y plan).is_sound in
      omega (arith, sound-cost day_limits y (first_come y) s, ap (λ (x : Outcome). x.cost) (saves day_limits y cost_area choice_area FirstCome c e).numbers)

  pub figures-within : Within (most_cost day_limits) (figures day_limits y o)
  figures-within =
      let b = best_of_lem day_limits y plan in
      let s = sound_is day_limits y b.is_sound in
      record {
        revisits = omega (arith, day_most-cost, sound-revisits day_limits y b.row s, ap (λ (x : Outcome). x.revisits) b.numbers);
        splits = omega (arith, day_most-cost, day_most_boxes, sound-splits day_limits y b.row s, ap (λ (x : Outcome). x.splits) b.numbers);
        direct = omega (arith, day_most-cost, day_most_boxes, sound-direct day_limits y b.row s, ap (λ (x : Outcome). x.direct) b.numbers);
        boxes = omega (arith, day_most-cost, day_most_boxes, sound_boxes day_limits y s);
        savings = first_saved (compared day_limits y (first_come y) cost_area choice_area) refl;
      }
