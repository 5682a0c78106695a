-- The ways out of taking a state from a text, and what writing one puts into lent memory:
--   kept-refused, kept-eight, kept-given   a text's refusal is handed on; 8 where the row has not a slot for each train; else the state.
-- Assumes nothing.
use Rattle.std.specs.Prelude.{◌≡◌, List, [], ◌∷◌, ◌++◌, ◌≢◌, ℕ, length, drop}
use Rattle.std.proofs.Common.{sym, ap, ◌∙◌}
use borrow.Author.Tests.{eq-eqb, ne_eqb}
use Rattle.fold.specs.Column.{column}
use Rattle.model.specs.Model.{Yard, slot_of}
use Rattle.day.specs.Answer.{gives, refuses}
use Rattle.day.specs.Sound.{day_limits}
use Rattle.day.specs.declared.Limits.{Limits}
use Rattle.dayfile.specs.Reading.{read_day}
use Rattle.dayfile.specs.Writing.{day_text}
use Rattle.telling.specs.Telling.{number_count}
use Rattle.rolling.specs.Rolling.{State, plan_of}
use Rattle.state_text.specs.StateText.{state_with, kept_state, figures_of_state}

module _ (l : Limits) (text : List ℕ) (closed : ℕ) (row : List ℕ) where
  pub kept_refused : {k : ℕ} {carries : List ℕ} → read_day l text ≡ refuses k carries → kept_state l text closed row ≡ refuses k carries
  unfolding kept_state
  kept_refused e = rw e

  pub kept-eight : {y : Yard} → read_day l text ≡ gives y → length row ≢ y.trains → kept_state l text closed row ≡ refuses 8 (0 ∷ [])
  unfolding kept_state
  kept-eight {y} e d = rw (e, ne_eqb (length row) y.trains d)

  pub kept_given : {y : Yard} → read_day l text ≡ gives y → length row ≡ y.trains → kept_state l text closed row ≡ gives (state_with y closed row)
  unfolding kept_state
  kept_given {y} e q = rw (e, eq-eqb (length row) y.trains q)

  -- the same of the slots that the code has copied
  pub kept_taken : {y : Yard} {slots : List ℕ} → read_day l text ≡ gives y → length row ≡ y.trains → slots ≡ column y.width (length row) (slot_of row)
      → gives (record { day = y; closed = closed; row = slots }) ≡ kept_state l text closed row
  kept_taken {y} {slots} e q p =
      ap (λ r. gives (record { day = y; closed = closed; row = r })) (p ∙ ap (λ k. column y.width k (slot_of row)) q) ∙ sym (kept_given e q)

-- what stands in lent memory when a state was written
pub record PutState (s : State) (day₀ next₀ numbers₀ day next numbers : List ℕ) : Type 0 where
  pub day_is_lem : day ≡ day_text day_limits s.day ++ drop (length (day_text day_limits s.day)) day₀
  pub next_is : next ≡ plan_of s ++ drop (length (plan_of s)) next₀
  pub numbers_are_lem : numbers ≡ figures_of_state day_limits s ++ drop number_count numbers₀
