-- A day file of before order 4 of document 02, one that is accepted where the limits have no groups, is answered as days without groups are:
-- the text reads to the same day, which has no groups; the answer has the bytes that those limits give (`same_bytes`); and these are what
-- was promised before groups (`as_before`): the plan file of a row that fits, than which no fitting row is cheaper and none of equal cost
-- comes before it, or refusal 9. Which row comes before another is since order 5 what that order says (`same_cost`, `same_plan` of
-- model's Foremost.antt), and since order 6 the plan file tells direct moves too.
-- Assumes nothing.
use Rattle.std.specs.Prelude.{◌≡◌, List, [], ◌∷◌, ℕ, ◌≤◌, T}
use Rattle.std.proofs.Math.Path.{sym, ap}
use Rattle.std.proofs.Common.{◌∙◌, subst}
use Rattle.model.specs.Model
use Rattle.model.specs.Model.{Yard, outcome, cost, fitting, allowed, precedes, Best, NoRow, FirstOverbooked, bound_inside}
use Rattle.model.proofs.Rows.{allowed_fits}
use Rattle.model.specs.Groups.{NoGroups}
use Rattle.model.proofs.Groups.{without_groups}
use Rattle.day.specs.Answer.{gives}
use Rattle.day.specs.AnswerLaws.{gives_same}
use Rattle.day.specs.Sound.{day_limits}
use Rattle.day.specs.SoundLaws.{sound_is}
use Rattle.day.specs.declared.Limits.{Limits}
use Rattle.dayfile.specs.Reading.{read_day}
use Rattle.dayfile.specs.RoundTrip.{read_sound}
use Rattle.dayfile.specs.Wider.{wider, accepted_before_groups}
use Rattle.feasibility.proofs.RowOrNone.{no_row_over, some_over}
use Rattle.planfile.specs.PlanText.{plan_lines}
use Rattle.refusal_text.specs.RefusalText.{refusal_text}
use Rattle.answering.specs.Answering.{reply, answer_text}
use Rattle.answering.specs.Printed.{Printed, plan as nowPlan, overbooked as nowOverbooked, unkept, unread, printed}

-- the limits before order 4
abbrev pub before : Limits
before = wider day_limits.number 0 day_limits

-- what was promised for the day y
pub data AsBefore (y : Yard) (bytes : List ℕ) : Type 0 where
  plan : (row : List ℕ) → T (fitting y row) → ((other : List ℕ) → T (fitting y other) → cost y row ≤ cost y other)
      → ((other : List ℕ) → T (fitting y other) → cost y other ≡ cost y row → T (precedes y other row) → ⊥)
      → bytes ≡ plan_lines y.trains y.numbers (outcome y row) row → AsBefore y bytes
  overbooked : (a b : ℕ) → ((row : List ℕ) → T (fitting y row) → ⊥) → FirstOverbooked y a b → bytes ≡ refusal_text 9 (a ∷ b ∷ bound_inside y a b ∷ []) → AsBefore y bytes

module _ (text : List ℕ) (y : Yard) (was : read_day before text ≡ gives y) where
  is : read_day day_limits text ≡ gives y
  is = (accepted_before_groups text y was).0

  pub same_bytes : answer_text day_limits text ≡ answer_text before text
  unfolding answer_text
  same_bytes = ap reply (is ∙ sym was)

  ungrouped : NoGroups y
  ungrouped = (accepted_before_groups text y was).1

  -- a row that fits is allowed
  fits : (row : List ℕ) → T (fitting y row) → T (allowed y row)
  fits row f = subst T (sym (without_groups y row ungrouped)) f

  pub as_before : AsBefore y (answer_text day_limits text)
  as_before = go (printed text)
    where
      same : (z : Yard) → read_day day_limits text ≡ gives z → z ≡ y
      same z e = gives_same (sym e ∙ is)

      best : (row : List ℕ) {bytes : List ℕ} → Best y row → bytes ≡ plan_lines y.trains y.numbers (outcome y row) row → AsBefore y bytes
      best row b e = plan row (allowed_fits y row b.is_allowed) (λ other f. b.least other (fits other f)) (λ other f. b.first other (fits other f)) e

      never : (z : Yard) → z ≡ y → NoRow z → ((a b : ℕ) → T (Model.overbooked z a b) → ⊥) → ⊥
      never z e nowhere spacious =
          let (w, f) = no_row_over y (sound_is day_limits y (read_sound day_limits text y is)).windows ungrouped (subst NoRow e nowhere) in
          subst (λ (x : Yard). (a b : ℕ) → T (Model.overbooked x a b) → ⊥) e spacious w.first w.last (some_over y w f)

      go : {bytes : List ℕ} → Printed text bytes → AsBefore y bytes
      go {bytes} (nowPlan z row r b e) =
          subst (λ (x : Yard). Best x row → bytes ≡ plan_lines x.trains x.numbers (outcome x row) row → AsBefore y bytes) (sym (same z r)) (best row) b e
      go {bytes} (nowOverbooked z a b r nowhere f e) =
          subst (λ (x : Yard). NoRow x → FirstOverbooked x a b → bytes ≡ refusal_text 9 (a ∷ b ∷ bound_inside x a b ∷ []) → AsBefore y bytes) (sym (same z r))
          (λ nowhere f e. overbooked a b (λ row h. nowhere row (fits row h)) f e) nowhere f e
      go (unkept z r nowhere spacious e) = absurd (never z (same z r) nowhere spacious)
      go (unread k line which counted r unknown e) = absurd (unknown y is)
