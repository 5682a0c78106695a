-- How planning the long day of a text comes to what it leaves: the six numbers stored, without a day, and from what planning leaves of the day.
-- Assumes nothing.
use Rattle.std.specs.Prelude.{◌≡◌, refl, true, false, List, [], ◌∷◌, ◌++◌, ℕ, ◌≤◌, leb, length, set, drop}
use Rattle.std.proofs.Math.Path.{ap}
use Rattle.std.proofs.Common.{◌∙◌, arith}
use Rattle.model.specs.Model.{Yard}
use Rattle.day.specs.Answer.{Answer, gives, refusal, code}
use Rattle.day.specs.declared.Refusal.{Refusal}
use Rattle.refusals.specs.Numbers.{no_more}
use Rattle.dayfile.specs.Reading.{read_day}
use Rattle.telling.specs.Telling.{numbers_told, slots_in}
use Rattle.telling.specs.Laws.{ToldBy, Told, told-values, told_same, told_after, numbers_kept, no_room, with_room_lem}
use Rattle.long_day.specs.LongDay.{long_limits}
use Rattle.long_planning.specs.LongPlanning.{LongOutcome}
use Rattle.long_planning.specs.Laws.{Left}
use Rattle.text_long.specs.TextLong.{long_number_count, long_figures, long_numbers_after, long_plan_for, long_row_for, long_slots_for}

-- ---- six numbers: four stored at the front, and two behind them

set-behind : (l : List ℕ) (a b c d e f : ℕ) → 6 ≤ length l → set (set (a ∷ b ∷ c ∷ d ∷ drop 4 l) 4 e) 5 f ≡ a ∷ b ∷ c ∷ d ∷ e ∷ f ∷ drop 6 l
set-behind [] a b c d e f h = absurd (omega arith)
set-behind (x₁ ∷ []) a b c d e f h = absurd (omega arith)
set-behind (x₁ ∷ x₂ ∷ []) a b c d e f h = absurd (omega arith)
set-behind (x₁ ∷ x₂ ∷ x₃ ∷ []) a b c d e f h = absurd (omega arith)
set-behind (x₁ ∷ x₂ ∷ x₃ ∷ x₄ ∷ []) a b c d e f h = absurd (omega arith)
set-behind (x₁ ∷ x₂ ∷ x₃ ∷ x₄ ∷ x₅ ∷ []) a b c d e f h = absurd (omega arith)
set-behind (x₁ ∷ x₂ ∷ x₃ ∷ x₄ ∷ x₅ ∷ x₆ ∷ l) a b c d e f h = refl

-- what is told of an answer, where there is room
abbrev pub LongTold : List ℕ → Answer LongOutcome → ℕ → List ℕ → Type 0
LongTold = ToldBy long_number_count long_figures

module _ {before four six : List ℕ} (room : long_number_count ≤ length before) where
  -- no refusal carries more than three values
  pub told-refusal : (r : Refusal) {said : ℕ} → Told before (refusal r) said four → six ≡ set (set four 4 0) 5 0 → LongTold before (refusal r) said six
  told-refusal r t e = record { says = t.says; numbers = e ∙ rw (t.numbers, set-behind before _ _ _ _ 0 0 room, no_more r 1, no_more r 2) }

  pub told-found : (o : LongOutcome) → four ≡ numbers_told (gives o.row) ++ drop 4 before → six ≡ set (set four 4 o.full) 5 o.lower → LongTold before (gives o) 0 six
  told-found o f e = told-values refl (e ∙ ap (λ l. set (set l 4 o.full) 5 o.lower) f ∙ set-behind before _ _ _ _ o.full o.lower room)

-- ---- a day that was read, where there is room for six numbers: what planning answers and leaves, and that it is told

pub record PlansLongDay (y : Yard) (width : ℕ) (row₀ numbers₀ : List ℕ) (returned : ℕ) (row numbers : List ℕ) (trains : ℕ) : Type 0 where
  pub said : Answer LongOutcome
  pub left : Left long_limits y width row₀ said row
  pub told : LongTold numbers₀ said returned numbers
  pub written : trains ≡ slots_in y said

-- ---- the call

pub record PlansLongText (text : List ℕ) (width : ℕ) (row₀ numbers₀ : List ℕ) (said : ℕ) (row numbers : List ℕ) (trains : ℕ) : Type 0 where
  pub says : said ≡ code (long_plan_for text width (length row₀) (length numbers₀))
  pub numbers_are_lem : numbers ≡ long_numbers_after (long_plan_for text width (length row₀) (length numbers₀)) numbers₀
  pub row_is : row ≡ long_row_for text width (length numbers₀) row₀
  pub written : trains ≡ long_slots_for text width (length row₀) (length numbers₀)

module _ (text : List ℕ) (width : ℕ) (row numbers : List ℕ) where
  pub plans_nothing : leb long_number_count (length numbers) ≡ false → PlansLongText text width row numbers 10 row numbers 0
  unfolding long_plan_for long_row_for long_slots_for
  plans_nothing h =
      let e = no_room long_number_count long_limits text (length numbers) h in
      record { says = rw e; numbers_are_lem = numbers_kept long_number_count long_figures _ numbers h; row_is = rw e; written = rw e }

  pub plans_refused : {said : ℕ} {numbers' : List ℕ} (r : Refusal) → leb long_number_count (length numbers) ≡ true → read_day long_limits text ≡ refusal r
      → LongTold numbers (refusal r) said numbers' → PlansLongText text width row numbers said row numbers' 0
  unfolding long_plan_for long_row_for long_slots_for
  plans_refused r h f t =
      let e = with_room_lem long_number_count long_limits text (length numbers) h f in
      record { says = rw e t.says; numbers_are_lem = rw e (told_after h t); row_is = rw e; written = rw e }

  pub plans_day : {returned : ℕ} {row' numbers' : List ℕ} {trains : ℕ} (y : Yard) → leb long_number_count (length numbers) ≡ true → read_day long_limits text ≡ gives y
      → PlansLongDay y width row numbers returned row' numbers' trains → PlansLongText text width row numbers returned row' numbers' trains
  unfolding long_plan_for long_row_for long_slots_for
  plans_day y h f p =
      let e = with_room_lem long_number_count long_limits text (length numbers) h f in
      let t = told_same p.left.says p.told in
      record { says = rw e t.says; numbers_are_lem = rw e (told_after h t); row_is = rw e p.left.row_is; written = rw e (p.written ∙ ap (slots_in y) p.left.says) }
