-- The theorem at the door: what yard-plan prints, in the model's own words. For every text it is one of four:
--     the plan file of the best row of the day that the text reads to, with the model's four numbers;
--     refusal 9 with the first overbooked interval of that day, which has no allowed row, and the number of trains bound inside;
--     refusal 16 with 0, where that day has no allowed row and no interval is overbooked;
--     a refusal, 1 to 7 or 15, with its line, where the text reads to no day.
-- Where a revisit weighs at least as much as split moves of all boxes, as with the weights of order 8 of document 02, the plan's row has the
-- fewest revisits of all allowed rows, and the fewest split moves of those that share this fewest (`fewest_printed`).
-- `answer_text` is what `answer_text` gives for the text (crates/answering/src/lib.rt) and what the program yard-plan prints.
-- Assumes nothing.
use Rattle.std.specs.Prelude.{◌≡◌, List, [], ◌∷◌, ℕ, ◌≤◌, T}
use Rattle.std.proofs.Math.Path.{refl}
use Rattle.std.proofs.Common.{sym, ap, ◌∙◌, subst, arith}
use Rattle.std.proofs.Math.Option.{Option, none, some}
use Rattle.model.specs.Model
use Rattle.model.specs.Model.{Yard, outcome, Best, SomeRow, NoRow, FirstOverbooked, bound_inside}
use Rattle.model.specs.BestOf.{best_of}
use Rattle.model.proofs.BestOf.{is_best, is_none_lem}
use Rattle.model.specs.Fewest.{Outweighs, Fewest}
use Rattle.model.proofs.Fewest.{best_fewest}
use Rattle.model.specs.Overbooked.{Interval, first_overbooked, SaysFirst}
use Rattle.model.proofs.Overbooked.{first_says}
use Rattle.day.specs.Answer.{Answer, gives, refuses}
use Rattle.day.specs.AnswerLaws.{gives_same, Only}
use Rattle.day.specs.Sound.{day_limits}
use Rattle.dayfile.specs.Reading.{read_day}
use Rattle.dayfile.specs.Refused.{FileRefusal, Lined, read_lined}
use Rattle.feasibility.proofs.RowOrNone.{none_spacious}
use Rattle.planning.specs.Planning.{no_row}
use Rattle.planfile.specs.PlanText.{plan_lines, plan_text}
use Rattle.refusal_text.specs.RefusalText.{refusal_text}
use Rattle.answering.specs.Answering.{reply_by, day_reply, reply, answer_text}

pub data Printed (text bytes : List ℕ) : Type 0 where
  plan : (y : Yard) (row : List ℕ) → read_day day_limits text ≡ gives y → Best y row → bytes ≡ plan_lines y.trains y.numbers (outcome y row) row → Printed text bytes
  overbooked : (y : Yard) (a b : ℕ) → read_day day_limits text ≡ gives y → NoRow y → FirstOverbooked y a b
      → bytes ≡ refusal_text 9 (a ∷ b ∷ bound_inside y a b ∷ []) → Printed text bytes
  unkept : (y : Yard) → read_day day_limits text ≡ gives y → NoRow y → ((a b : ℕ) → T (Model.overbooked y a b) → ⊥)
      → bytes ≡ refusal_text 16 (0 ∷ []) → Printed text bytes
  unread : (k line : ℕ) → FileRefusal k → 1 ≤ line → read_day day_limits text ≡ refuses k (line ∷ []) → ((y : Yard) → read_day day_limits text ≡ gives y → ⊥)
      → bytes ≡ refusal_text k (line ∷ []) → Printed text bytes

module _ (text : List ℕ) where
  printed_day : (y : Yard) → read_day day_limits text ≡ gives y → (b : Option (List ℕ)) → best_of y ≡ b → Printed text (day_reply y b)
  printed_day y r (some row) e = plan y row r (is_best y row e) refl
  printed_day y r none e = go (first_overbooked y) refl
    where
      go : (o : Option Interval) → first_overbooked y ≡ o → Printed text (reply_by (plan_text y) (no_row y (first_overbooked y)))
      go none f = unkept y r (is_none_lem y e) (none_spacious y f) (ap (λ i. reply_by (plan_text y) (no_row y i)) f)
      go (some w) f =
          overbooked y w.first w.last r (is_none_lem y e) (subst (SaysFirst y) f (first_says y)) (ap (λ i. reply_by (plan_text y) (no_row y i)) f)

  printed_by : (a : Answer Yard) → read_day day_limits text ≡ a → Printed text (reply a)
  printed_by (gives y) e = printed_day y e (best_of y) refl
  printed_by (refuses k carries) e =
      let (which, (line, (counted, is))) = subst (Only {X = Yard} Lined) e (read_lined day_limits text) in
      unread k line which counted (e ∙ ap (refuses k) is)
      (λ y g. let f : refuses k carries ≡ gives y = sym e ∙ g in let z : ◌≡◌ {A = ℕ} 0 1 = cc in omega arith)
      (ap (refusal_text k) is)

  pub printed : Printed text (answer_text day_limits text)
  unfolding answer_text
  printed = printed_by (read_day day_limits text) refl

  -- order 8, of a day that has an allowed row
  pub fewest_printed : (y : Yard) → read_day day_limits text ≡ gives y → Outweighs y → SomeRow y
      → (row : List ℕ) × Fewest y row × (answer_text day_limits text ≡ plan_lines y.trains y.numbers (outcome y row) row)
  fewest_printed y e o some-row = go printed
    where
      -- of the four only a plan is printed, and the day is the one that is read
      go : Printed text (answer_text day_limits text) → (row : List ℕ) × Fewest y row × (answer_text day_limits text ≡ plan_lines y.trains y.numbers (outcome y row) row)
      go (plan z row r b is) =
          let same : z ≡ y = gives_same (sym r ∙ e) in
          (row, best_fewest y o row (subst (λ d. Best d row) same b), is ∙ ap (λ d. plan_lines d.trains d.numbers (outcome d row) row) same)
      go (overbooked z a b r nowhere f is) = absurd (subst NoRow (gives_same (sym r ∙ e)) nowhere some-row.0 some-row.1)
      go (unkept z r nowhere spacious is) = absurd (subst NoRow (gives_same (sym r ∙ e)) nowhere some-row.0 some-row.1)
      go (unread k line which counted r nothing is) = absurd (nothing y e)
