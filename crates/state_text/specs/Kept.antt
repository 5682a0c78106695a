-- A state that is kept: what is written of it, read again, is the same state. So a program that stops can go on with the bytes that it has.
--   kept_again     the day file, the closed slots and the plan of a sound state are kept as that state;
--   kept-only      what is kept as a state has the day of its text, the closed slots that were given, and the row as its plan;
--   kept_whole     a text that reads to a day and a slot for each of its trains are a state (Laws.antt has the other cases);
--   written-again  the first bytes of lent output, as many as the numbers say, are kept as the state that was given;
--   told-given, told-one, told-three, told_none, day-beyond, plan-beyond, refused-stays   what the header says of numbers and lent output.
-- Assumes nothing.
use Rattle.std.specs.Prelude.{◌≡◌, refl, List, [], ◌∷◌, ◌++◌, ℕ, ◌≤◌, ◌<◌, T, eqb, length, take, drop}
use Rattle.std.proofs.Common.{sym, ap, ap₂, ◌∙◌, subst, arith, eqb→eq, length-take-le}
use Rattle.std.proofs.Math.Seq.{take-append_seam, drop-append_seam}
use borrow.Author.Tests.{eq-eqb, le-leb, lt-leb}
use Rattle.fold.specs.Column.{column, column-at, column_ext, is_column}
use Rattle.model.specs.Model.{Yard, slot_of}
use Rattle.day.specs.Answer.{Answer, gives, refuses, must, checked}
use Rattle.day.specs.AnswerLaws.{gives_same, checked_gives, given_before}
use Rattle.day.specs.SoundLaws.{sound_is}
use Rattle.day.specs.declared.Limits.{Limits}
use Rattle.dayfile.specs.Reading.{read_day}
use Rattle.dayfile.specs.Writing.{day_text, Short}
use Rattle.dayfile.specs.RoundTrip.{write_read}
use Rattle.rolling.specs.Rolling.{State, plan_of, state_sound}
use Rattle.rolling.specs.States.{sound_state, plan_at}
use Rattle.state_text.specs.StateText.{state_with, kept_state, state_numbers, day_after, plan_after}
use Rattle.state_text.specs.Laws.{kept_given}

module _ (l : Limits) (short : Short l) (s : State) (t : T (state_sound l s)) where
  -- the plan has a slot for each train
  plan_long : length (plan_of s) ≡ s.day.trains
  plan_long =
      let d = sound_state l s t in
      length-take-le s.day.trains s.row (omega (arith, d.long, (sound_is l s.day d.is_sound).trains.1))

  same_row : column s.day.width s.day.trains (slot_of (plan_of s)) ≡ s.row
  same_row =
      let d = sound_state l s t in
      let w = s.day.width in
      let n = s.day.trains in
      column_ext w n (slot_of (plan_of s)) (slot_of s.row) (plan_at d)
      ∙ is_column w n s.row (d.long ∙ sym (sound_is l s.day d.is_sound).shape.width) d.past

  pub kept_again : kept_state l (day_text l s.day) s.closed (plan_of s) ≡ gives s
  unfolding kept_state
  kept_again =
      rw (write_read l s.day short (sound_state l s t).is_sound, eq-eqb (length (plan_of s)) s.day.trains plan_long)
      (ap (λ r. gives (record { day = s.day; closed = s.closed; row = r })) same_row)

  -- lent output: the numbers told are the lengths of what stands in it
  pub written_again : (day next : List ℕ)
      → kept_state l (take (length (day_text l s.day)) (day_after l (gives s) day)) s.closed (take s.day.trains (plan_after (gives s) next)) ≡ gives s
  written_again day next =
      ap₂ (λ (text row : List ℕ). kept_state l text s.closed row)
      (take-append_seam (day_text l s.day) (drop (length (day_text l s.day)) day))
      (ap (λ k. take k (plan_of s ++ drop (length (plan_of s)) next)) (sym plan_long) ∙ take-append_seam (plan_of s) (drop (length (plan_of s)) next))
      ∙ kept_again

pub record KeptOnly (l : Limits) (text : List ℕ) (closed : ℕ) (row : List ℕ) (s : State) : Type 0 where
  pub reads : read_day l text ≡ gives s.day
  pub same_closed : s.closed ≡ closed
  pub long : length row ≡ s.day.trains
  pub slots : (i : ℕ) → i < length row → i < s.day.width → slot_of s.row i ≡ slot_of row i

pub kept_only : (l : Limits) (text : List ℕ) (closed : ℕ) (row : List ℕ) (s : State) → kept_state l text closed row ≡ gives s → KeptOnly l text closed row s
unfolding kept_state
kept_only l text closed row s e =
    let (y, r, q) = given_before (read_day l text) (λ y. checked (must (eqb (length row) y.trains) 8 (0 ∷ []) ∷ []) (gives (state_with y closed row))) s e in
    let ((h, u), p) = checked_gives (must (eqb (length row) y.trains) 8 (0 ∷ []) ∷ []) (gives (state_with y closed row)) s q in
    let long : length row ≡ y.trains = eqb→eq (length row) y.trains h in
    subst (KeptOnly l text closed row) (gives_same p)
    (record {
      reads = r;
      same_closed = refl;
      long = long;
      slots = λ i a b. column-at y.width y.trains (slot_of row) i b (omega arith);
    })

pub kept_whole : (l : Limits) (text : List ℕ) (closed : ℕ) (row : List ℕ) (y : Yard) → read_day l text ≡ gives y → length row ≡ y.trains
    → (s : State) × ((kept_state l text closed row ≡ gives s) × KeptOnly l text closed row s)
kept_whole l text closed row y reads h =
    let e = kept_given l text closed row reads h in
    (state_with y closed row, (e, kept_only l text closed row (state_with y closed row) e))

-- ---- the header's words: four numbers, or what the refusal carries and then zeros; those beyond stay. Lent output: the bytes that the numbers
-- say, and those beyond stay, after a refusal all

module _ (l : Limits) (before : List ℕ) (room : 4 ≤ length before) where
  pub told_given : (s : State) → state_numbers l (gives s) before ≡ s.closed ∷ s.day.trains ∷ length (day_text l s.day) ∷ 0 ∷ drop 4 before
  unfolding state_numbers
  told_given s = rw (le-leb 4 (length before) room)

  pub told_one : (k value : ℕ) → state_numbers l (refuses k (value ∷ [])) before ≡ value ∷ 0 ∷ 0 ∷ 0 ∷ drop 4 before
  unfolding state_numbers
  told_one k value = rw (le-leb 4 (length before) room)

  pub told_three : (k a b c : ℕ) → state_numbers l (refuses k (a ∷ b ∷ c ∷ [])) before ≡ a ∷ b ∷ c ∷ 0 ∷ drop 4 before
  unfolding state_numbers
  told_three k a b c = rw (le-leb 4 (length before) room)

pub told_none : (l : Limits) (a : Answer State) (before : List ℕ) → length before < 4 → state_numbers l a before ≡ before
unfolding state_numbers
told_none l a before short = rw (lt-leb 4 (length before) short)

module _ (l : Limits) (out : List ℕ) where
  pub day_beyond : (s : State) → (take (length (day_text l s.day)) (day_after l (gives s) out) ≡ day_text l s.day) × (drop (length (day_text l s.day)) (day_after l (gives s) out) ≡ drop (length (day_text l s.day)) out)
  day_beyond s =
      let text = day_text l s.day in
      (take-append_seam text (drop (length text) out), drop-append_seam text (drop (length text) out))

  pub plan_beyond : (s : State) → (take (length (plan_of s)) (plan_after (gives s) out) ≡ plan_of s) × (drop (length (plan_of s)) (plan_after (gives s) out) ≡ drop (length (plan_of s)) out)
  plan_beyond s = (take-append_seam (plan_of s) (drop (length (plan_of s)) out), drop-append_seam (plan_of s) (drop (length (plan_of s)) out))

  pub refused_stays : (k : ℕ) (carries : List ℕ) → (day_after l (refuses k carries) out ≡ out) × (plan_after (refuses k carries) out ≡ out)
  refused_stays k carries = (refl, refl)
