-- What the functions of a moving day can return, as include/yard.h says, with room for four numbers and for what is written:
--   begin-returns   yard_begin: 0 to 7, 15, 10, 9 or 16, never 8;
--   close-returns   yard_close: 0 to 7, 15, 8 or 20;
--   cancel-returns  yard_cancel: 0 to 7, 15, 8, 10 or 18, never 9 or 16;
--   add-returns     yard_add: 0 to 7, 15, 8, 10, 19, 9 or 16;
--   boxes-returns   yard_set_boxes: 0 to 7, 15, 8, 10 or 18, never 9 or 16.
-- (3, 5 and 6 may be the text's or the call's; then 0 is carried.) Without room for what is told they return 10, whatever the text is:
-- `begin_short` and its kin, Header.antt of text_rolling.
-- Assumes nothing.
use Rattle.std.specs.Prelude.{◌≡◌, refl, Bool, ◌⊎◌, ℕ, ◌≤◌, T, leb, eqb, length}
use Rattle.std.proofs.Common.{sym, subst, inl, inr, zero-le, arith}
use mathlib.Core.List.{List, [], ◌∷◌}
use Rattle.fold.specs.Test.{is_true}
use Rattle.day.specs.Answer.{Answer, gives, refuses, on_given, code, must, checked}
use Rattle.day.specs.AnswerLaws.{Only, only_given, only_wider, only_checked}
use Rattle.day.specs.Sound.{day_limits}
use Rattle.dayfile.specs.Reading.{read_day}
use Rattle.dayfile.specs.RoundTrip.{read_sound}
use Rattle.dayfile.specs.Refused.{Lined, read_lined}
use Rattle.telling.specs.Telling.{number_count}
use Rattle.rolling.specs.Rolling.{State, Change, cancel, add, set_boxes, close, change, state_after, begun}
use Rattle.rolling.specs.Refusals.{Among, OfPlanning, AmongOrPlanning, begin_sound_only, close_only, cancel_only, add_only, boxes_only}
use Rattle.state_text.specs.StateText.{state_with, kept_state}
use Rattle.text_rolling.specs.TextRolling.{plan_room, state_room, with_room, begin_for, close_for, change_for}
use Rattle.text_rolling.specs.Ways.{has_room}

-- ---- the numbers that a function may return: those of a text, or its own

abbrev Returns : (ℕ → Type 0) → ℕ → Type 0
Returns own k = (k ≤ 7) ⊎ ((k ≡ 15) ⊎ own k)

returned : {X : Type 0} (own : ℕ → Type 0) (a : Answer X) → Only (λ k carries. Returns own k) a → Returns own (code a)
returned own (gives x) h = inl zero-le
returned own (refuses k carries) h = h

-- a text's refusal is one of its own numbers
read_returns : (own : ℕ → Type 0) (text : List ℕ) → Only (λ k carries. Returns own k) (read_day day_limits text)
read_returns own text = only_wider Lined (λ k carries. Returns own k) (read_day day_limits text) (λ k carries q. go k q.0) (read_lined day_limits text)
  where
    go : (k : ℕ) → ((1 ≤ k) × (k ≤ 7)) ⊎ (k ≡ 15) → Returns own k
    go k (inl h) = inl h.1
    go k (inr e) = inr (inl e)

-- what is kept adds 8
kept_returns : (own : ℕ → Type 0) → own 8 → (text : List ℕ) (closed : ℕ) (row : List ℕ) → Only (λ k carries. Returns own k) (kept_state day_limits text closed row)
unfolding kept_state
kept_returns own eight text closed row =
    only_given (λ k carries. Returns own k) (read_day day_limits text) (λ y. checked (must (eqb (length row) y.trains) 8 (0 ∷ []) ∷ []) (gives (state_with y closed row))) (read_returns own text)
    (λ y e. only_checked (λ k carries. Returns own k) (must (eqb (length row) y.trains) 8 (0 ∷ []) ∷ []) (gives (state_with y closed row)) (inr (inr eight), tt) tt)

-- with room, what follows from the text or the kept state
with_room_lem : {X : Type 0} (own : ℕ → Type 0) (room : Bool) (a : Answer X) (f : X → Answer State) → T room → Only (λ k carries. Returns own k) a
    → ((x : X) → a ≡ gives x → Only (λ k carries. Returns own k) (f x)) → Returns own (code (on_given (with_room room a) f))
with_room_lem own room a f t h g =
    returned own (on_given (with_room room a) f)
    (subst (λ b. Only (λ k carries. Returns own k) (on_given b f)) (sym (has_room room a (is_true room t) refl)) (only_given (λ k carries. Returns own k) a f h g))

-- planning's two numbers, where the function may return them
planned_by : (own : ℕ → Type 0) → own 9 → own 16 → (k : ℕ) (carries : List ℕ) → OfPlanning k carries → Returns own k
planned_by own nine sixteen k carries (inl (e, c)) = inr (inr (subst own (sym e) nine))
planned_by own nine sixteen k carries (inr (e, c)) = inr (inr (subst own (sym e) sixteen))

-- a number that the function may return
own_number : (own : ℕ → Type 0) (n k : ℕ) → k ≡ n → own n → Returns own k
own_number own n k e h = inr (inr (subst own (sym e) h))

-- ---- begin

abbrev OwnBegin : ℕ → Type 0
OwnBegin k = (k ≡ 10) ⊎ ((k ≡ 9) ⊎ (k ≡ 16))

pub begin_returns : (text : List ℕ) (costs choices slots size : ℕ) → T (plan_room day_limits slots size)
    → let k = code (begin_for day_limits text costs choices slots size) in (k ≤ 7) ⊎ ((k ≡ 15) ⊎ ((k ≡ 10) ⊎ ((k ≡ 9) ⊎ (k ≡ 16))))
unfolding begin_for
begin_returns text costs choices slots size room =
    with_room_lem OwnBegin (plan_room day_limits slots size) (read_day day_limits text) (λ y. begun day_limits y costs choices) room (read_returns OwnBegin text)
    (λ y e. only_wider (AmongOrPlanning (10 ∷ [])) (λ k carries. Returns OwnBegin k) (begun day_limits y costs choices) go (begin_sound_only day_limits y costs choices (read_sound day_limits text y e)))
  where
    go : (k : ℕ) (carries : List ℕ) → AmongOrPlanning (10 ∷ []) k carries → Returns OwnBegin k
    go k carries (inl (inl (e, c))) = own_number OwnBegin 10 k e (inl refl)
    go k carries (inl (inr x)) = elim x [ ]
    go k carries (inr p) = planned_by OwnBegin (inr (inl refl)) (inr (inr refl)) k carries p

-- ---- close

abbrev OwnClose : ℕ → Type 0
OwnClose k = (k ≡ 8) ⊎ (k ≡ 20)

pub close_returns : (text : List ℕ) (closed : ℕ) (row : List ℕ) (size : ℕ) → T (leb number_count size)
    → let k = code (close_for day_limits text closed row size) in (k ≤ 7) ⊎ ((k ≡ 15) ⊎ ((k ≡ 8) ⊎ (k ≡ 20)))
unfolding close_for
close_returns text closed row size room =
    with_room_lem OwnClose (leb number_count size) (kept_state day_limits text closed row) (λ s. state_after day_limits s close) room (kept_returns OwnClose (inl refl) text closed row)
    (λ s e. only_wider (Among (8 ∷ 20 ∷ [])) (λ k carries. Returns OwnClose k) (state_after day_limits s close) go (close_only day_limits s))
  where
    go : (k : ℕ) (carries : List ℕ) → Among (8 ∷ 20 ∷ []) k carries → Returns OwnClose k
    go k carries (inl (e, c)) = own_number OwnClose 8 k e (inl refl)
    go k carries (inr (inl (e, c))) = own_number OwnClose 20 k e (inr refl)
    go k carries (inr (inr x)) = elim x [ ]

-- ---- the changes

module _ (text : List ℕ) (closed : ℕ) (row : List ℕ) (costs choices bytes slots size : ℕ) (room : T (state_room day_limits bytes slots size)) where
  abbrev OwnLess : ℕ → Type 0
  OwnLess k = (k ≡ 8) ⊎ ((k ≡ 10) ⊎ (k ≡ 18))

  small : (own : ℕ → Type 0) (n k : ℕ) → k ≡ n → n ≤ 7 → Returns own k
  small own n k e h = inl (omega arith)

  pub cancel_returns : (x : ℕ) → let k = code (change_for day_limits text closed row (cancel x) costs choices bytes slots size) in (k ≤ 7) ⊎ ((k ≡ 15) ⊎ ((k ≡ 8) ⊎ ((k ≡ 10) ⊎ (k ≡ 18))))
  unfolding change_for
  cancel_returns x =
      with_room_lem OwnLess (state_room day_limits bytes slots size) (kept_state day_limits text closed row) (λ s. state_after day_limits s (change (cancel x) costs choices)) room
      (kept_returns OwnLess (inl refl) text closed row)
      (λ s e. only_wider (Among (8 ∷ 10 ∷ 3 ∷ 18 ∷ [])) (λ k carries. Returns OwnLess k) (state_after day_limits s (change (cancel x) costs choices)) go (cancel_only day_limits s x costs choices))
    where
      go : (k : ℕ) (carries : List ℕ) → Among (8 ∷ 10 ∷ 3 ∷ 18 ∷ []) k carries → Returns OwnLess k
      go k carries (inl (e, c)) = own_number OwnLess 8 k e (inl refl)
      go k carries (inr (inl (e, c))) = own_number OwnLess 10 k e (inr (inl refl))
      go k carries (inr (inr (inl (e, c)))) = small OwnLess 3 k e (omega arith)
      go k carries (inr (inr (inr (inl (e, c))))) = own_number OwnLess 18 k e (inr (inr refl))
      go k carries (inr (inr (inr (inr x)))) = elim x [ ]

  pub boxes_returns : (to from boxes : ℕ) → let k = code (change_for day_limits text closed row (set_boxes to from boxes) costs choices bytes slots size) in (k ≤ 7) ⊎ ((k ≡ 15) ⊎ ((k ≡ 8) ⊎ ((k ≡ 10) ⊎ (k ≡ 18))))
  unfolding change_for
  boxes_returns to from boxes =
      with_room_lem OwnLess (state_room day_limits bytes slots size) (kept_state day_limits text closed row) (λ s. state_after day_limits s (change (set_boxes to from boxes) costs choices)) room
      (kept_returns OwnLess (inl refl) text closed row)
      (λ s e. only_wider (Among (8 ∷ 10 ∷ 3 ∷ 18 ∷ 6 ∷ [])) (λ k carries. Returns OwnLess k) (state_after day_limits s (change (set_boxes to from boxes) costs choices)) go (boxes_only day_limits s to from boxes costs choices))
    where
      go : (k : ℕ) (carries : List ℕ) → Among (8 ∷ 10 ∷ 3 ∷ 18 ∷ 6 ∷ []) k carries → Returns OwnLess k
      go k carries (inl (e, c)) = own_number OwnLess 8 k e (inl refl)
      go k carries (inr (inl (e, c))) = own_number OwnLess 10 k e (inr (inl refl))
      go k carries (inr (inr (inl (e, c)))) = small OwnLess 3 k e (omega arith)
      go k carries (inr (inr (inr (inl (e, c))))) = own_number OwnLess 18 k e (inr (inr refl))
      go k carries (inr (inr (inr (inr (inl (e, c)))))) = small OwnLess 6 k e (omega arith)
      go k carries (inr (inr (inr (inr (inr x))))) = elim x [ ]

  abbrev OwnAdd : ℕ → Type 0
  OwnAdd k = (k ≡ 8) ⊎ ((k ≡ 10) ⊎ ((k ≡ 19) ⊎ ((k ≡ 9) ⊎ (k ≡ 16))))

  pub add_returns : (x first last : ℕ)
      → let k = code (change_for day_limits text closed row (add x first last) costs choices bytes slots size) in (k ≤ 7) ⊎ ((k ≡ 15) ⊎ ((k ≡ 8) ⊎ ((k ≡ 10) ⊎ ((k ≡ 19) ⊎ ((k ≡ 9) ⊎ (k ≡ 16))))))
  unfolding change_for
  add_returns x first last =
      with_room_lem OwnAdd (state_room day_limits bytes slots size) (kept_state day_limits text closed row) (λ s. state_after day_limits s (change (add x first last) costs choices)) room
      (kept_returns OwnAdd (inl refl) text closed row)
      (λ s e. only_wider (AmongOrPlanning (8 ∷ 10 ∷ 3 ∷ 19 ∷ 5 ∷ [])) (λ k carries. Returns OwnAdd k) (state_after day_limits s (change (add x first last) costs choices)) go (add_only day_limits s x first last costs choices))
    where
      go : (k : ℕ) (carries : List ℕ) → AmongOrPlanning (8 ∷ 10 ∷ 3 ∷ 19 ∷ 5 ∷ []) k carries → Returns OwnAdd k
      go k carries (inl (inl (e, c))) = own_number OwnAdd 8 k e (inl refl)
      go k carries (inl (inr (inl (e, c)))) = own_number OwnAdd 10 k e (inr (inl refl))
      go k carries (inl (inr (inr (inl (e, c))))) = small OwnAdd 3 k e (omega arith)
      go k carries (inl (inr (inr (inr (inl (e, c)))))) = own_number OwnAdd 19 k e (inr (inr (inl refl)))
      go k carries (inl (inr (inr (inr (inr (inl (e, c))))))) = small OwnAdd 5 k e (omega arith)
      go k carries (inl (inr (inr (inr (inr (inr x)))))) = elim x [ ]
      go k carries (inr p) = planned_by OwnAdd (inr (inr (inr (inl refl)))) (inr (inr (inr (inr refl)))) k carries p
