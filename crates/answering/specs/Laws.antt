-- The laws that the proofs of the answer cite: the reply to a sound day from what planning has answered, and the answer to a text from what
-- reading has.
-- Assumes nothing.
use Rattle.std.specs.Prelude.{◌≡◌, refl, List, [], ◌∷◌, ◌++◌, ℕ, ◌≤◌, T, length, get_or, drop}
use Rattle.std.proofs.Common.{sym, ◌∙◌, arith}
use Rattle.std.proofs.Math.Path.{ap}
use Rattle.std.proofs.Math.Option.{Option, none, some}
use Rattle.std.proofs.Math.ListN.{get_or-append}
use Rattle.fold.specs.Listed.{listed_ext}
use Rattle.model.specs.Model.{Yard, Outcome, outcome, allowed}
use Rattle.model.specs.BestOf.{best_of}
use Rattle.model.proofs.BestOf.{is_best}
use Rattle.model.specs.Overbooked.{Interval, first_overbooked}
use Rattle.model.proofs.Rows.{allowed_is}
use Rattle.day.specs.Answer.{Answer, gives, refuses, number, carried}
use Rattle.day.specs.Sound.{day_limits, sound}
use Rattle.day.specs.SoundLaws.{sound_is}
use Rattle.day.specs.declared.Limits.{Limits}
use Rattle.day.specs.declared.Refusal.{Refusal}
use Rattle.counting.specs.Counting.{figures_of}
use Rattle.lines.specs.Lines.{row_text, rows_text}
use Rattle.dayfile.specs.Reading.{read_day}
use Rattle.planning.specs.Planning.{no_row, best_answer, placed}
use Rattle.planning.proofs.Answers.{none_answer, none_gives}
use Rattle.refusal_text.specs.RefusalText.{refusal_text}
use Rattle.refusal_text.specs.Laws.{refusal_bytes}
use Rattle.planfile.specs.PlanText.{value_names, slot_names, slot_row, plan_lines, plan_text}
use Rattle.planfile.specs.Size.{plan_bytes, plan_size, plan_most}
use Rattle.answering.specs.Answering.{reply_by, day_reply, reply, answer_text}

-- ---- a refusal is no longer than a plan file can be

pub fits_most : {P : Type 0} {count : ℕ} (most : ℕ) → refusal_bytes ≤ most → P × (count ≤ refusal_bytes) → P × (count ≤ most)
fits_most most long h = (h.0, omega (arith, h.1))

-- ---- the reply to a sound day, from planning's answer and its row, whatever row planning looks for

-- the plan file reads no more of a row than its n slots
lines_front : (n : ℕ) (numbers : List ℕ) (o : Outcome) (best beyond : List ℕ) → length best ≡ n → plan_lines n numbers o (best ++ beyond) ≡ plan_lines n numbers o best
unfolding plan_lines
lines_front n numbers o best beyond long =
    ap (λ rows. value_names ++ row_text (figures_of o) ++ slot_names ++ rows_text rows)
    (listed_ext n (slot_row numbers (best ++ beyond)) (slot_row numbers best)
    (λ i h. ap (λ x. get_or numbers i 0 ∷ x ∷ []) (get_or-append best beyond 0 i (omega arith))))

module _ (y : Yard) (found : Option (List ℕ)) where
  pub refused_reply : (r : Refusal) → refuses (number r) (carried r) ≡ best_answer y found → refusal_text (number r) (carried r) ≡ day_reply y found
  refused_reply r e = go found e
    where
      nowhere : (w : Option Interval) → ◌≡◌ {A = Answer Outcome} (refuses (number r) (carried r)) (no_row y w) → refusal_text (number r) (carried r) ≡ reply_by (plan_text y) (no_row y w)
      nowhere none e = cc
      nowhere (some w) e = cc

      go : (b : Option (List ℕ)) → refuses (number r) (carried r) ≡ best_answer y b → refusal_text (number r) (carried r) ≡ day_reply y b
      go none e = nowhere (first_overbooked y) (e ∙ none_answer y)
      go (some row) e = absurd (let z : ◌≡◌ {A = ℕ} 0 1 = cc in omega arith)

  -- a row that is found is allowed
  module _ (is_allowed : (row : List ℕ) → found ≡ some row → T (allowed y row)) {o : Outcome} (row : List ℕ) (e : gives o ≡ best_answer y found) where
    pub plan_reply : plan_lines y.trains y.numbers o (placed found row) ≡ day_reply y found
    plan_reply = go found refl e
      where
        go : (b : Option (List ℕ)) → found ≡ b → gives o ≡ best_answer y b → plan_lines y.trains y.numbers o (placed b row) ≡ day_reply y b
        go none f e = absurd (none_gives y o (sym e))
        go (some best) f e =
            let same : o ≡ outcome y best = cc in
            lines_front y.trains y.numbers o best (drop (length best) row) (allowed_is y best (is_allowed best f)).long
            ∙ ap (λ v. plan_lines y.trains y.numbers v best) same

    pub plan_fits : (most : ℕ) → ((r : List ℕ) → T (allowed y r) → length (plan_text y r) ≤ most) → length (plan_lines y.trains y.numbers o (placed found row)) ≤ most
    plan_fits most size = rw plan_reply (go found refl e)
      where
        go : (b : Option (List ℕ)) → found ≡ b → gives o ≡ best_answer y b → length (day_reply y b) ≤ most
        go none f e = absurd (none_gives y o (sym e))
        go (some best) f e = size best (is_allowed best f)

-- ---- the best row

module _ (y : Yard) where
  pub best-allowed : (row : List ℕ) → best_of y ≡ some row → T (allowed y row)
  best-allowed row e = (is_best y row e).is_allowed

  pub best_size : T (sound day_limits y) → (row : List ℕ) → T (allowed y row) → length (plan_text y row) ≤ plan_bytes
  best_size s row a = omega (arith, plan_size day_limits y row (sound_is day_limits y s) a, plan_most)

-- ---- the answer to a text, from what reading has answered

module _ (l : Limits) (text : List ℕ) where
  pub refused_answer : (r : Refusal) → refuses (number r) (carried r) ≡ read_day l text → refusal_text (number r) (carried r) ≡ answer_text l text
  unfolding answer_text
  refused_answer r e = ap reply e

  pub accepted_answer : (y : Yard) → gives y ≡ read_day l text → day_reply y (best_of y) ≡ answer_text l text
  unfolding answer_text
  accepted_answer y e = ap reply e
