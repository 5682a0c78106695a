-- What the two functions of include/yard.h say, in the header's words, for every lent calendar, date and pair of minutes:
--   slots-returns, slots-most     yard_slots_on returns 0, 10 or 23, and tells at most eight slots;
--   window-returns, window-zeros  yard_window returns 0, 10, 23 or 24, and zeros stand beside a refusal;
--   window-slots                  where it returns 0, so does yard_slots_on, and 1 ≤ first ≤ last ≤ the slots told there;
--   window-stay, stay-window      and first to last are exactly the date's used slots that neither start before arrival nor end after departure.
-- Assumes nothing.
use Rattle.std.specs.Prelude.{◌≡◌, refl, List, [], ◌∷◌, ◌⊎◌, ℕ, ◌≤◌, ◌<◌, T, length}
use Rattle.std.proofs.Common.{sym, ap, ◌∙◌, inl, inr, ⊎_elim, arith}
use Rattle.fold.specs.Test.{test}
use Rattle.fold.specs.Counting.{le_or_lt}
use Rattle.day.specs.Answer.{Answer, gives, refuses, code}
use Rattle.dates.specs.declared.Date.{Date}
use Rattle.opening_hours.specs.declared.Calendar.{Calendar}
use Rattle.opening_hours.specs.declared.Window.{Window}
use Rattle.opening_hours.specs.Calendar.{used_slots, date_valid, slots_on, slots_or_zero, window, window_of, window_or_zero}
use Rattle.opening_hours.proofs.Laws.{used_at-most}
use Rattle.opening_hours.specs.Promised.{InStay}
use Rattle.opening_hours.proofs.Promised.{valid_date, date_valid_lem, slots_taken, slots_refused, window_valid, window-within, window_holds, holds_window, window_refused}
use Rattle.lent_calendar.specs.LentCalendar.{date_of, calendar_of, slots_lent, window_lent}
use Rattle.lent_calendar.specs.Laws.{slots_lent_lem, window_lent_lem, short_hours}

-- an answer that is given, or a refusal
data Either {X : Type 0} (a : Answer X) : Type 0 where
  given : (x : X) → a ≡ gives x → Either a
  refused : (k : ℕ) (carries : List ℕ) → a ≡ refuses k carries → Either a

either : {X : Type 0} (a : Answer X) → Either a
either (gives x) = given x refl
either (refuses k carries) = refused k carries refl

-- the two answers of `slots_on`
module _ (c : Calendar) (d : Date) where
  data Slots : Type 0 where
    taken : T (date_valid c d) → slots_on c d ≡ gives (used_slots c d) → Slots
    out_of_range : slots_on c d ≡ refuses 23 (0 ∷ []) → Slots

  slots : Slots
  slots = ⊎_elim (λ (t : T (date_valid c d)). taken t (slots_taken c d (valid_date c d t))) (λ (n : T (date_valid c d) → ⊥). out_of_range (slots_refused c d (λ v. n (date_valid_lem c d v)))) (test (date_valid c d))

module _ (week : List ℕ) (minutes : ℕ) (closed : List ℕ) (on : ℕ) where
  abbrev lent : Calendar
  lent = calendar_of week minutes closed

  abbrev day : Date
  day = date_of on

  abbrev slots_told : Answer ℕ
  slots_told = slots_lent week minutes closed on

  -- the two ways: the call's answer, or 10
  by_hours : (P : Answer ℕ → Type 0) → (14 ≤ length week → P (slots_on lent day)) → P (refuses 10 (0 ∷ [])) → P slots_told
  by_hours P long short =
      ⊎_elim (λ (h : 14 ≤ length week). rw (slots_lent_lem week minutes closed on h) (long h)) (λ (h : length week < 14). rw (short_hours week minutes closed on 0 0 h).0 short) (le_or_lt 14 (length week))

  pub slots_returns : let k = code slots_told in (k ≡ 0) ⊎ ((k ≡ 10) ⊎ (k ≡ 23))
  slots_returns = by_hours (λ a. (code a ≡ 0) ⊎ ((code a ≡ 10) ⊎ (code a ≡ 23))) (λ h. go (slots lent day)) (inr (inl refl))
    where
      go : Slots lent day → let k = code (slots_on lent day) in (k ≡ 0) ⊎ ((k ≡ 10) ⊎ (k ≡ 23))
      go (taken t e) = inl (ap code e)
      go (out_of_range e) = inr (inr (ap code e))

  pub slots_most : slots_or_zero slots_told ≤ 8
  slots_most = by_hours (λ a. slots_or_zero a ≤ 8) (λ h. go (slots lent day)) (omega arith)
    where
      go : Slots lent day → slots_or_zero (slots_on lent day) ≤ 8
      go (taken t e) = omega (arith, ap slots_or_zero e, used_at-most lent day t)
      go (out_of_range e) = omega (arith, ap slots_or_zero e)

  module _ (arrival departure : ℕ) where
    abbrev told : Answer Window
    told = window_lent week minutes closed on arrival departure

    pub window_returns : let k = code told in (k ≡ 0) ⊎ ((k ≡ 10) ⊎ ((k ≡ 23) ⊎ (k ≡ 24)))
    window_returns =
        ⊎_elim (λ (h : 14 ≤ length week). rw (window_lent_lem week minutes closed on arrival departure h) (go (either (window_of lent day arrival departure))))
        (λ (h : length week < 14). inr (inl (ap code (short_hours week minutes closed on arrival departure h).1))) (le_or_lt 14 (length week))
      where
        go : Either (window_of lent day arrival departure)
            → let k = code (window_of lent day arrival departure) in (k ≡ 0) ⊎ ((k ≡ 10) ⊎ ((k ≡ 23) ⊎ (k ≡ 24)))
        go (given w e) = inl (ap code e)
        go (refused k carries e) =
            ⊎_elim (λ (q : k ≡ 23). inr (inr (inl (ap code e ∙ q)))) (λ (q : k ≡ 24). inr (inr (inr (ap code e ∙ q))))
            (window_refused lent day arrival departure k carries e).0

    pub window-zeros : (code told ≡ 0 → ⊥) → window_or_zero told ≡ window 0 0
    window-zeros n = go (either told)
      where
        go : Either told → window_or_zero told ≡ window 0 0
        go (given w e) = absurd (n (ap code e))
        go (refused k carries e) = ap window_or_zero e

    -- 0 is returned for a window of the calendar
    module _ (zero : code told ≡ 0) where
      found : (w : Window) × (told ≡ gives w) × (window_of lent day arrival departure ≡ gives w) × (14 ≤ length week)
      found = ⊎_elim (λ (h : 14 ≤ length week). go h (window_lent_lem week minutes closed on arrival departure h) (either (window_of lent day arrival departure)))
          (λ (h : length week < 14). absurd (let z = ap code (short_hours week minutes closed on arrival departure h).1 in omega arith)) (le_or_lt 14 (length week))
        where
          go : 14 ≤ length week → told ≡ window_of lent day arrival departure
              → Either (window_of lent day arrival departure)
              → (w : Window) × (told ≡ gives w) × (window_of lent day arrival departure ≡ gives w) × (14 ≤ length week)
          go h same (given w e) = (w, same ∙ e, e, h)
          go h same (refused k carries e) =
              let number = sym (ap code (same ∙ e)) ∙ zero in
              absurd
              (⊎_elim (λ (q : k ≡ 23). omega (arith, number, q)) (λ (q : k ≡ 24). omega (arith, number, q))
              (window_refused lent day arrival departure k carries e).0)

      pub window_slots : let w = window_or_zero told in
          (code slots_told ≡ 0) × (1 ≤ w.first) × (w.first ≤ w.last) × (w.last ≤ slots_or_zero slots_told)
      window_slots =
          let (w, is, e, h) = found in
          let b = window-within lent day arrival departure w e in
          let used = slots_lent_lem week minutes closed on h ∙ slots_taken lent day (window_valid lent day arrival departure w e).day in
          rw (is, used) (refl, b.0, b.1, b.2)

      pub window_stay : (k : ℕ) → let w = window_or_zero told in w.first ≤ k → k ≤ w.last → InStay lent day arrival departure k
      window_stay k l h = let (w, is, e, room) = found in window_holds lent day arrival departure w e k (rw is at l) (rw is at h)

      pub stay_window : (k : ℕ) → InStay lent day arrival departure k → let w = window_or_zero told in (w.first ≤ k) × (k ≤ w.last)
      stay_window k s = let (w, is, e, room) = found in rw is (holds_window lent day arrival departure w e k s)
