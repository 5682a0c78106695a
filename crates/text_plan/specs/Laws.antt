-- How planning the day of a text comes to what it leaves: without a day, and from what planning leaves of the day.
-- Assumes nothing.
use Rattle.std.specs.Prelude.{◌≡◌, true, false, List, ℕ, leb, length}
use Rattle.std.proofs.Math.Path.{ap}
use Rattle.std.proofs.Common.{◌∙◌}
use Rattle.model.specs.Model.{Yard, Outcome}
use Rattle.day.specs.Answer.{Answer, gives, refusal, code}
use Rattle.day.specs.declared.Limits.{Limits}
use Rattle.day.specs.declared.Refusal.{Refusal}
use Rattle.dayfile.specs.Reading.{read_day}
use Rattle.planning.specs.Planning.{cost_words, choice_words, Stays}
use Rattle.planning.specs.Laws.{Left}
use Rattle.telling.specs.Telling.{number_count, numbers_after, slots_in}
use Rattle.telling.specs.Laws.{Told, told_same, told_after, none_told, no_room, with_room_lem}
use Rattle.text_plan.specs.TextPlan.{plan_for, row_for, open_for, slots_for}

-- ---- a day that was read, where there is room for four numbers: what planning answers and leaves, and that it is told

pub record PlansDay (l : Limits) (y : Yard) (cost₀ choice₀ row₀ numbers₀ : List ℕ) (returned : ℕ) (cost choice row numbers : List ℕ) (trains : ℕ) : Type 0 where
  pub said : Answer Outcome
  pub left : Left l y cost₀ choice₀ row₀ said cost choice row
  pub told : Told numbers₀ said returned numbers
  pub written : trains ≡ slots_in y said

-- ---- the call

pub record PlansText (l : Limits) (text cost₀ choice₀ row₀ numbers₀ : List ℕ) (said : ℕ) (cost choice row numbers : List ℕ) (trains : ℕ) : Type 0 where
  pub says : said ≡ code (plan_for l text (length cost₀) (length choice₀) (length row₀) (length numbers₀))
  pub numbers_are_lem : numbers ≡ numbers_after (plan_for l text (length cost₀) (length choice₀) (length row₀) (length numbers₀)) numbers₀
  pub row_is : row ≡ row_for l text (length cost₀) (length choice₀) (length numbers₀) row₀
  pub costs : Stays (open_for cost_words l text (length cost₀) (length choice₀) (length row₀) (length numbers₀)) cost₀ cost
  pub choices : Stays (open_for choice_words l text (length cost₀) (length choice₀) (length row₀) (length numbers₀)) choice₀ choice
  pub written : trains ≡ slots_for l text (length cost₀) (length choice₀) (length row₀) (length numbers₀)

module _ (l : Limits) (text cost choice row numbers : List ℕ) where
  pub plans_nothing : leb number_count (length numbers) ≡ false → PlansText l text cost choice row numbers 10 cost choice row numbers 0
  unfolding plan_for row_for open_for slots_for
  plans_nothing h =
      let e = no_room number_count l text (length numbers) h in
      record { says = rw e; numbers_are_lem = none_told _ numbers h; row_is = rw e; costs = rw e; choices = rw e; written = rw e }

  pub plans_refused : {said : ℕ} {numbers' : List ℕ} (r : Refusal) → leb number_count (length numbers) ≡ true → read_day l text ≡ refusal r → Told numbers (refusal r) said numbers'
      → PlansText l text cost choice row numbers said cost choice row numbers' 0
  unfolding plan_for row_for open_for slots_for
  plans_refused {said} {numbers'} r h f t =
      let e = with_room_lem number_count l text (length numbers) h f in
      record { says = rw e t.says; numbers_are_lem = rw e (told_after h t); row_is = rw e; costs = rw e; choices = rw e; written = rw e }

  pub plans_day : {returned : ℕ} {cost' choice' row' numbers' : List ℕ} {trains : ℕ} (y : Yard) → leb number_count (length numbers) ≡ true → read_day l text ≡ gives y
      → PlansDay l y cost choice row numbers returned cost' choice' row' numbers' trains → PlansText l text cost choice row numbers returned cost' choice' row' numbers' trains
  unfolding plan_for row_for open_for slots_for
  plans_day y h f p =
      let e = with_room_lem number_count l text (length numbers) h f in
      let t = told_same p.left.says p.told in
      record {
        says = rw e t.says;
        numbers_are_lem = rw e (told_after h t);
        row_is = rw e p.left.row_is;
        costs = rw e p.left.costs;
        choices = rw e p.left.choices;
        written = rw e (p.written ∙ ap (slots_in y) p.left.says);
      }
