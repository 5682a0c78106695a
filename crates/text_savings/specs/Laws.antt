-- What is told of a comparison, and each answer for a text, from what the code has found.
-- Assumes nothing.
use Rattle.std.specs.Prelude.{◌≡◌, refl, true, false, List, ◌∷◌, ◌++◌, ℕ, ◌≤◌, leb, ℤ, pos, length, drop}
use Rattle.std.proofs.Common.{ap, ◌∙◌}
use Rattle.model.specs.Model.{Yard}
use Rattle.day.specs.Answer.{Answer, gives, refuses, refusal, code, on_given, judged}
use Rattle.day.specs.declared.Limits.{Limits}
use Rattle.day.specs.declared.Refusal.{Refusal}
use Rattle.dayfile.specs.Reading.{read_day}
use Rattle.planning.specs.Planning.{cost_area, choice_area}
use Rattle.comparing.specs.Comparing.{Comparison, comparison_of, comparison_or_zero}
use Rattle.baselines.specs.Baselines.{compared}
use Rattle.comparing.specs.declared.Baseline.{Baseline}
use Rattle.telling.specs.Telling.{number_count, numbers_told, after_by, numbers_after}
use Rattle.telling.specs.Laws.{Told, none_told, numbers_given}
use Rattle.text_savings.specs.TextSavings.{compare_text, outcomes}

-- ---- what is told of a comparison

pub record ToldSaving (before : List ℕ) (a : Answer Comparison) (said : ℕ) (after : List ℕ) (saved : ℤ) : Type 0 where
  pub says : said ≡ code a
  pub numbers : after ≡ numbers_told (outcomes a) ++ drop number_count before
  pub saving : saved ≡ (comparison_or_zero a).saving

code-outcomes : (a : Answer Comparison) → code (outcomes a) ≡ code a
code-outcomes (gives c) = refl
code-outcomes (refuses k carries) = refl

pub told_baseline : (b : Baseline) {before after : List ℕ} {said : ℕ} {saved : ℤ} → comparison_of b ≡ comparison_or_zero (judged b.verdict (comparison_of b)) → saved ≡ b.saving
    → Told before (outcomes (judged b.verdict (comparison_of b))) said after → ToldSaving before (judged b.verdict (comparison_of b)) said after saved
told_baseline b beside e t = record {
  says = t.says ∙ code-outcomes (judged b.verdict (comparison_of b));
  numbers = t.numbers;
  saving = e ∙ ap (λ (c : Comparison). c.saving) beside;
}

pub told_refused : (r : Refusal) {before after : List ℕ} {said : ℕ} → Told before (refusal r) said after → ToldSaving before (refusal r) said after (pos 0)
told_refused r t = record { says = t.says; numbers = t.numbers; saving = refl }

-- ---- the header's words: a procedure's four numbers, or what the refusal carries

pub saving_numbers : (before : List ℕ) → 4 ≤ length before → (c : Comparison)
    → numbers_after (outcomes (gives c)) before ≡ c.outcome.revisits ∷ c.outcome.splits ∷ c.outcome.direct ∷ c.outcome.cost ∷ drop 4 before
saving_numbers before room c = numbers_given before room c.outcome

pub saving_refused : (k : ℕ) (carries : List ℕ) → outcomes (refuses k carries) ≡ refuses k carries
saving_refused k carries = refl

-- ---- each answer for a text

module _ (l : Limits) (text numbers : List ℕ) (procedure : Yard → List ℕ) where
  pub no_saving : leb number_count (length numbers) ≡ false
      → (10 ≡ code (compare_text procedure l text (length numbers)))
      × ((numbers ≡ numbers_after (outcomes (compare_text procedure l text (length numbers))) numbers)
      × (pos 0 ≡ (comparison_or_zero (compare_text procedure l text (length numbers))).saving))
  unfolding compare_text
  no_saving h = (rw h, (none_told _ numbers h, rw h))

  pub told-saving : {a : Answer Comparison} {said : ℕ} {after : List ℕ} {saving : ℤ} → leb number_count (length numbers) ≡ true
      → on_given (read_day l text) (λ y. compared l y (procedure y) cost_area choice_area) ≡ a → ToldSaving numbers a said after saving
      → (said ≡ code (compare_text procedure l text (length numbers)))
      × ((after ≡ numbers_after (outcomes (compare_text procedure l text (length numbers))) numbers)
      × (saving ≡ (comparison_or_zero (compare_text procedure l text (length numbers))).saving))
  unfolding compare_text after_by
  told-saving h e t = (rw (h, e) t.says, (rw (h, e) t.numbers, rw (h, e) t.saving))
