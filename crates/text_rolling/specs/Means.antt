-- What the functions on a kept state mean. A program keeps the bytes of a state; with room for what is told,
--   begins-kept    beginning the day of a text answers what beginning the day does;
--   closes_kept, changes-kept   on the bytes of a sound state the functions answer what the calls do on that state;
--   kept-follows   so for every list of calls the bytes that the program has are those of the states that the calls give: it stops and goes
--                  on with nothing but these bytes, and the state follows the plain account (order 7).
-- Assumes nothing.
use Rattle.std.specs.Prelude.{◌≡◌, refl, List, [], ◌∷◌, ℕ, T, leb}
use Rattle.std.proofs.Math.Path.{ap}
use Rattle.std.proofs.Common.{◌∙◌}
use Rattle.fold.specs.Test.{is_true}
use Rattle.model.specs.Model.{Yard}
use Rattle.day.specs.Answer.{Answer, gives, refuses, on_given, where_given}
use Rattle.day.specs.declared.Limits.{Limits}
use Rattle.dayfile.specs.Reading.{read_day}
use Rattle.dayfile.specs.Writing.{day_text, Short}
use Rattle.telling.specs.Telling.{number_count}
use Rattle.rolling.specs.Rolling.{State, plan_of, Change, Call, close, change, state_sound, state_after, begun_account, begun, or_before, states, accounts}
use Rattle.rolling.specs.Answers.{begun-sound, taken_sound}
use Rattle.rolling.specs.Follows.{Follows, rolling}
use Rattle.state_text.specs.StateText.{kept_state}
use Rattle.state_text.specs.Kept.{kept_again}
use Rattle.text_rolling.specs.TextRolling.{plan_room, state_room, begin_for, close_for, change_for}
use Rattle.text_rolling.specs.Ways.{has_room}

-- the bytes of a state
pub record Kept : Type 0 where
  pub text : List ℕ
  pub closed : ℕ
  pub row : List ℕ

abbrev pub bytes_of : Limits → State → Kept
bytes_of l s = record { text = day_text l s.day; closed = s.closed; row = plan_of s }

module _ (l : Limits) where
  pub begins-kept : (text : List ℕ) (y : Yard) → read_day l text ≡ gives y → (costs choices slots size : ℕ) → T (plan_room l slots size) → begin_for l text costs choices slots size ≡ begun l y costs choices
  unfolding begin_for
  begins-kept text y r costs choices slots size room =
      ap (λ a. on_given a λ y. begun l y costs choices) (has_room (plan_room l slots size) (read_day l text) (is_true (plan_room l slots size) room) r)

  -- the program has room for every new state: so many bytes, slots and numbers
  module _ (short : Short l) (bytes slots size : ℕ) (room : T (state_room l bytes slots size)) (numbers : T (leb number_count size)) where
    -- what a function answers on kept bytes
    abbrev pub call_for : Kept → Call → Answer State
    call_for k close = close_for l k.text k.closed k.row size
    call_for k (change c costs choices) = change_for l k.text k.closed k.row c costs choices bytes slots size

    module _ (s : State) (t : T (state_sound l s)) where
      pub closes_kept : close_for l (day_text l s.day) s.closed (plan_of s) size ≡ state_after l s close
      unfolding close_for
      closes_kept =
          ap (λ a. on_given a λ s. state_after l s close)
          (has_room (leb number_count size) (kept_state l (day_text l s.day) s.closed (plan_of s)) (is_true (leb number_count size) numbers) (kept_again l short s t))

      pub changes_kept : (c : Change) (costs choices : ℕ) → change_for l (day_text l s.day) s.closed (plan_of s) c costs choices bytes slots size ≡ state_after l s (change c costs choices)
      unfolding change_for
      changes_kept c costs choices =
          ap (λ a. on_given a λ s. state_after l s (change c costs choices))
          (has_room (state_room l bytes slots size) (kept_state l (day_text l s.day) s.closed (plan_of s)) (is_true (state_room l bytes slots size) room) (kept_again l short s t))

      calls_kept : (call : Call) → call_for (bytes_of l s) call ≡ state_after l s call
      calls_kept close = closes_kept
      calls_kept (change c costs choices) = changes_kept c costs choices

    -- the program takes the new bytes where a state is given, and goes on with its own where the call is refused
    abbrev pub keeps : Kept → List Call → Kept
    keeps k [] = k
    keeps k (call ∷ calls) = keeps (where_given (call_for k call) k (bytes_of l)) calls

    next-kept : (s : State) → T (state_sound l s) → (call : Call) → (where_given (call_for (bytes_of l s) call) (bytes_of l s) (bytes_of l) ≡ bytes_of l (or_before s (state_after l s call))) × T (state_sound l (or_before s (state_after l s call)))
    next-kept s t call = (ap (λ a. where_given a (bytes_of l s) (bytes_of l)) (calls_kept s t call) ∙ go (state_after l s call), sound (state_after l s call) refl)
      where
        go : (a : Answer State) → where_given a (bytes_of l s) (bytes_of l) ≡ bytes_of l (or_before s a)
        go (gives n) = refl
        go (refuses k carries) = refl

        sound : (a : Answer State) → state_after l s call ≡ a → T (state_sound l (or_before s a))
        sound (gives n) e = taken_sound l s call n e
        sound (refuses k carries) e = t

    bytes_follow : (calls : List Call) (s : State) → T (state_sound l s) → keeps (bytes_of l s) calls ≡ bytes_of l (states l s calls)
    bytes_follow [] s t = refl
    bytes_follow (call ∷ calls) s t = let (e, u) = next-kept s t call in ap (λ k. keeps k calls) e ∙ bytes_follow calls (or_before s (state_after l s call)) u

    pub kept_follows : (y : Yard) (costs choices : ℕ) (s : State) → begun l y costs choices ≡ gives s
        → (calls : List Call) → (keeps (bytes_of l s) calls ≡ bytes_of l (states l s calls)) × Follows l (accounts l (begun_account y) calls) (states l s calls)
    kept_follows y costs choices s e calls = (bytes_follow calls s (begun-sound l y costs choices s e), rolling l y costs choices s e calls)
