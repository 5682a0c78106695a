-- What is told and left by the functions on a kept state, way out by way out.
-- Assumes nothing.
use Rattle.std.specs.Prelude.{◌≡◌, refl, true, false, List, [], ◌∷◌, ◌++◌, ℕ, leb, eqb, length, drop}
use Rattle.std.proofs.Common.{sym, ap, ◌∙◌, subst}
use Rattle.model.specs.Model.{Yard}
use Rattle.day.specs.Answer.{Answer, gives, refusal, code, must, checked}
use Rattle.day.specs.AnswerLaws.{gives_same, checked_gives, given_before}
use Rattle.day.specs.Sound.{day_limits}
use Rattle.day.specs.declared.Refusal.{Refusal}
use Rattle.dayfile.specs.Reading.{read_day}
use Rattle.dayfile.specs.RoundTrip.{read_write}
use Rattle.dayfile.specs.Writing.{day_text}
use Rattle.planning.specs.Planning.{cost_area, choice_area, open_words, Stays}
use Rattle.telling.specs.Telling.{number_count}
use Rattle.telling.specs.Laws.{Told}
use Rattle.rolling.specs.Rolling.{State, Call, close, state_made, state_checks, state_after, begun, state_begins, begun_begins}
use Rattle.rolling.specs.Follows.{begin_follows}
use Rattle.state_text.specs.StateText.{state_with, kept_state, figures_of_state, state_told, state_numbers, day_after, plan_after}

-- what is told of an answer, where there is room for it
pub record ToldState (a : Answer State) (numbers₀ : List ℕ) (said : ℕ) (numbers : List ℕ) : Type 0 where
  pub says : said ≡ code a
  pub numbers_are_lem : numbers ≡ state_told day_limits a ++ drop number_count numbers₀

-- and the state that it is, or nothing, in lent output
pub record WrittenState (a : Answer State) (day₀ next₀ numbers₀ : List ℕ) (said : ℕ) (day next numbers : List ℕ) : Type 0 where
  pub told : ToldState a numbers₀ said numbers
  pub day_is_lem : day ≡ day_after day_limits a day₀
  pub next_is : next ≡ plan_after a next₀

pub told_refused : (r : Refusal) {a : Answer State} {numbers₀ numbers : List ℕ} {said : ℕ} → refusal r ≡ a → Told numbers₀ (refusal r) said numbers → ToldState a numbers₀ said numbers
told_refused r {a} {numbers₀} {numbers} {said} e t = subst (λ a. ToldState a numbers₀ said numbers) e (record { says = t.says; numbers_are_lem = t.numbers })

pub told_given : {s : State} {a : Answer State} {numbers₀ numbers : List ℕ} → gives s ≡ a → numbers ≡ figures_of_state day_limits s ++ drop number_count numbers₀ → ToldState a numbers₀ 0 numbers
told_given {s} {a} {numbers₀} {numbers} e h = subst (λ a. ToldState a numbers₀ 0 numbers) e (record { says = refl; numbers_are_lem = h })

pub written_refused : (r : Refusal) {a : Answer State} {day next numbers₀ numbers : List ℕ} {said : ℕ} → refusal r ≡ a → Told numbers₀ (refusal r) said numbers
    → WrittenState a day next numbers₀ said day next numbers
written_refused r {a} {day} {next} {numbers₀} {numbers} {said} e t =
    subst (λ a. WrittenState a day next numbers₀ said day next numbers) e (record { told = told_refused r refl t; day_is_lem = refl; next_is = refl })

-- told, the numbers are those of the contracts; without room none changes
pub state_numbers_lem : {a : Answer State} {numbers₀ numbers : List ℕ} {said : ℕ} → leb number_count (length numbers₀) ≡ true → ToldState a numbers₀ said numbers → numbers ≡ state_numbers day_limits a numbers₀
unfolding state_numbers
state_numbers_lem h t = rw h t.numbers_are_lem

pub no_numbers : (a : Answer State) (numbers : List ℕ) → leb number_count (length numbers) ≡ false → numbers ≡ state_numbers day_limits a numbers
unfolding state_numbers
no_numbers a numbers h = rw h

-- ---- the inner functions: a day that was read is begun, a state is changed

pub record BegunDay (y : Yard) (cost₀ choice₀ next₀ numbers₀ : List ℕ) (said : ℕ) (cost choice next numbers : List ℕ) : Type 0 where
  pub told : ToldState (begun day_limits y (length cost₀) (length choice₀)) numbers₀ said numbers
  pub next_is : next ≡ plan_after (begun day_limits y (length cost₀) (length choice₀)) next₀
  pub costs : Stays (open_words (begun_begins day_limits y (length cost₀) (length choice₀)) cost_area) cost₀ cost
  pub choices : Stays (open_words (begun_begins day_limits y (length cost₀) (length choice₀)) choice_area) choice₀ choice

pub record ChangedState (s : State) (call : Call) (cost₀ choice₀ day₀ next₀ numbers₀ : List ℕ) (said : ℕ) (cost choice day next numbers : List ℕ) : Type 0 where
  pub written : WrittenState (state_after day_limits s call) day₀ next₀ numbers₀ said day next numbers
  pub costs : Stays (open_words (state_begins day_limits s call) cost_area) cost₀ cost
  pub choices : Stays (open_words (state_begins day_limits s call) choice_area) choice₀ choice

-- a day that is begun, and a slot that is closed, leave the day as it was
pub begun_day : (y : Yard) (costs choices : ℕ) (s : State) → begun day_limits y costs choices ≡ gives s → s.day ≡ y
begun_day y costs choices s e = ap (λ a. a.day) (begin_follows day_limits y costs choices s e).account

pub closed_day : (s next : State) → state_after day_limits s close ≡ gives next → next.day ≡ s.day
unfolding state_after
closed_day s next e = ap (λ x. x.day) (sym (gives_same (checked_gives (state_checks day_limits s close) (state_made s close) next e).1))

-- the text of a kept state is its day's
pub kept_text : (text : List ℕ) (closed : ℕ) (row : List ℕ) (s : State) → kept_state day_limits text closed row ≡ gives s → text ≡ day_text day_limits s.day
unfolding kept_state
kept_text text closed row s e =
    let (y, r, q) = given_before (read_day day_limits text) (λ y. checked (must (eqb (length row) y.trains) 8 (0 ∷ []) ∷ []) (gives (state_with y closed row))) s e in
    let (h, p) = checked_gives (must (eqb (length row) y.trains) 8 (0 ∷ []) ∷ []) (gives (state_with y closed row)) s q in
    read_write day_limits text y r ∙ ap (λ (x : State). day_text day_limits x.day) (gives_same p)
