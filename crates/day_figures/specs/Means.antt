-- What a day's answer in a report means, from the answers of reading, planning and comparing and from the model alone.
--   day-unread      a text that is no day file is refused as reading refuses it (Laws.antt);
--   day-planned     a day file whose day has an allowed row is planned: the figures are the model's of its best plan and all its boxes;
--   day-none        one whose day has none is refused as planning refuses it, with 9 or 16;
--   day-only        so a refusal is one of 1 to 7, 9, 15 and 16;
--   day-moved       direct and split moves of a planned day are all its boxes;
--   day-small       no figure of it is above the greatest cost of a row;
--   saved-exact, saved-none   the saving is that of first come's call, and 0 where that gives none (Laws.antt).
-- Assumes nothing.
use Rattle.std.specs.Prelude.{◌≡◌, refl, List, ◌⊎◌, ℕ, ◌≤◌}
use Rattle.std.proofs.Common.{sym, ap, ◌∙◌, subst, inl, inr, arith}
use Rattle.std.proofs.Math.Option.{Option, none, some}
use Rattle.model.specs.Model.{Yard, Outcome, outcome, boxes_of, Best, SomeRow, NoRow}
use Rattle.model.specs.BestOf.{best_of}
use Rattle.model.proofs.BestOf.{is_best, is_none_lem, none_is}
use Rattle.model.specs.Overbooked.{Interval, first_overbooked}
use Rattle.day.specs.Answer.{Answer, gives, refuses, on_given}
use Rattle.day.specs.AnswerLaws.{Only}
use Rattle.day.specs.Sound.{day_limits}
use Rattle.day.specs.Most.{most_cost}
use Rattle.dayfile.specs.Reading.{read_day}
use Rattle.dayfile.specs.RoundTrip.{read_sound}
use Rattle.dayfile.specs.Refused.{FileRefusal, Lined, read_lined}
use Rattle.planning.specs.Planning.{cost_area, choice_area, no_row, NoRowRefusal, best_answer, planned}
use Rattle.planning.proofs.Answers.{none_answer, areas_suffice_lem, planned-begun, planned_only}
use Rattle.day_figures.specs.Figures.{figures, plan_answer, day_answer}
use Rattle.day_figures.specs.Laws.{day_read, all_moved, Moved, Small, figures-within}
use Rattle.day_figures.specs.declared.Figures.{Figures}

-- ---- a day file

module _ (text : List ℕ) (y : Yard) (reads : read_day day_limits text ≡ gives y) where
  -- planning's checks hold
  answered : planned day_limits y cost_area choice_area y.trains ≡ best_answer y (best_of y)
  answered = planned-begun day_limits y cost_area choice_area y.trains (areas_suffice_lem y y.trains (read_sound day_limits text y reads) (omega arith))

  -- the figures of the best plan
  pub record DayPlanned (f : Figures) : Type 0 where
    pub row : List ℕ
    pub best : Best y row
    pub revisits : f.revisits ≡ (outcome y row).revisits
    pub splits : f.splits ≡ (outcome y row).splits
    pub direct : f.direct ≡ (outcome y row).direct
    pub boxes : f.boxes ≡ boxes_of y
    pub says : day_answer day_limits text ≡ gives f

  pub day_planned : SomeRow y → (f : Figures) × DayPlanned f
  day_planned (r, ok) = go (best_of y) refl
    where
      go : (b : Option (List ℕ)) → best_of y ≡ b → (f : Figures) × DayPlanned f
      go none e = absurd (is_none_lem y e r ok)
      go (some row) e =
          let f = figures day_limits y (outcome y row) in
          let p : planned day_limits y cost_area choice_area y.trains ≡ gives (outcome y row) = answered ∙ ap (best_answer y) e in (
            f,
            record {
              row = row;
              best = is_best y row e;
              revisits = refl;
              splits = refl;
              direct = refl;
              boxes = refl;
              says = sym (day_read day_limits text {y = y} {a = gives f} reads (sym (ap (λ a. on_given a (λ best. gives (figures day_limits y best))) p)));
            },
          )

  pub day_none : NoRow y → day_answer day_limits text ≡ no_row y (first_overbooked y)
  day_none nowhere =
      sym (day_read day_limits text {y = y} {a = refused (first_overbooked y)} reads
      (sym (ap (λ a. on_given a (λ best. gives (figures day_limits y best))) (answered ∙ ap (best_answer y) (none_is y nowhere) ∙ none_answer y) ∙ handed (first_overbooked y))))
    where
      refused : Option Interval → Answer Figures
      refused w = no_row y w

      -- a refusal is handed on
      handed : (w : Option Interval) → on_given (no_row y w) (λ (best : Outcome). gives (figures day_limits y best)) ≡ no_row y w
      handed none = refl
      handed (some w) = refl

-- ---- any text

-- 1 to 7 or 15 of a text, 9 or 16 of a day
abbrev pub DayRefusal : ℕ → Type 0
DayRefusal k = FileRefusal k ⊎ NoRowRefusal k

-- what holds of an answer holds of a day, where it holds of reading's refusals, of planning's, and of the figures of a plan
through : (P : Answer Figures → Type 0) (text : List ℕ) → ((k : ℕ) (carries : List ℕ) → read_day day_limits text ≡ refuses k carries → P (refuses k carries))
    → ((y : Yard) (k : ℕ) (carries : List ℕ) → read_day day_limits text ≡ gives y → planned day_limits y cost_area choice_area y.trains ≡ refuses k carries → P (refuses k carries))
    → ((y : Yard) (o : Outcome) → planned day_limits y cost_area choice_area y.trains ≡ gives o → P (gives (figures day_limits y o))) → P (day_answer day_limits text)
unfolding day_answer
through P text unread unplanned fine = go (read_day day_limits text) refl
  where
    plan : (y : Yard) → read_day day_limits text ≡ gives y → (a : Answer Outcome) → planned day_limits y cost_area choice_area y.trains ≡ a → P (on_given a λ best. gives (figures day_limits y best))
    plan y r (gives o) e = fine y o e
    plan y r (refuses k carries) e = unplanned y k carries r e

    go : (a : Answer Yard) → read_day day_limits text ≡ a → P (on_given a (plan_answer day_limits))
    go (gives y) e = plan y e (planned day_limits y cost_area choice_area y.trains) refl
    go (refuses k carries) e = unread k carries e

module _ (text : List ℕ) where
  unread_only : (k : ℕ) (carries : List ℕ) → read_day day_limits text ≡ refuses k carries → FileRefusal k
  unread_only k carries e = (subst (Only Lined) e (read_lined day_limits text)).0

  unplanned_only : (y : Yard) (k : ℕ) (carries : List ℕ) → read_day day_limits text ≡ gives y → planned day_limits y cost_area choice_area y.trains ≡ refuses k carries → NoRowRefusal k
  unplanned_only y k carries r e =
      subst (Only λ k carries. NoRowRefusal k) e
      (planned_only day_limits y cost_area choice_area y.trains (areas_suffice_lem y y.trains (read_sound day_limits text y r) (omega arith)))

  pub day_only : Only (λ k carries. DayRefusal k) (day_answer day_limits text)
  day_only = through (Only λ k carries. DayRefusal k) text (λ k carries e. inl (unread_only k carries e)) (λ y k carries r e. inr (unplanned_only y k carries r e)) (λ y o e. tt)

  pub day_moved : Moved (day_answer day_limits text)
  day_moved = through Moved text (λ k carries e. tt) (λ y k carries r e. tt) (λ y o e. all_moved day_limits y e)

  pub day_small : Small (most_cost day_limits) (day_answer day_limits text)
  day_small =
      through (Small (most_cost day_limits)) text (λ k carries e. file-number (unread_only k carries e)) (λ y k carries r e. row_number (unplanned_only y k carries r e)) (λ y o e. figures-within y e)
    where
      file-number : {k : ℕ} → FileRefusal k → k ≤ 26
      file-number (inl h) = omega arith
      file-number (inr e) = omega arith

      row_number : {k : ℕ} → NoRowRefusal k → k ≤ 26
      row_number (inl e) = omega arith
      row_number (inr e) = omega arith
