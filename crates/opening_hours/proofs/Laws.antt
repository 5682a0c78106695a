-- Laws of Laws.antt of specs/.
-- What a valid calendar says, field by field; and the answers from what the code has found.
-- Assumes nothing.
use Rattle.std.specs.Prelude.{◌≡◌, Bool, ◌&&◌, [], ◌∷◌, ℕ, ◌≤◌, ◌<◌, leb}
use Rattle.std.proofs.Common.{ap, ◌∙◌}
use Rattle.std.proofs.Math.Bool.{true, false, cond}
use native.Mathlib.Omega.{arith}
use Rattle.std.proofs.Math.Dec.{T}
use borrow.Author.Tests.{leb-true, le-leb, lt-leb}
use Rattle.fold.specs.Test.{is_true, of_true, both, both_of}
use Rattle.fold.specs.Fold.{each, each_at, each_i}
use Rattle.day.specs.Answer.{gives, refuses}
use Rattle.dates.specs.declared.Date.{Date}
use Rattle.dates.specs.Dates.{between, is_date, weekday}
use Rattle.dates.proofs.DateLaws.{between_is, is_between}
use Rattle.dates.proofs.Following.{weekday_below}
use Rattle.slot_times.specs.Slots.{slots_between, first_slot, last_slot}
use Rattle.slot_times.proofs.Laws.{slots_divided}
use Rattle.opening_hours.specs.declared.Calendar.{Calendar}
use Rattle.opening_hours.specs.declared.Hours.{Hours}
use Rattle.opening_hours.specs.Calendar.{hours_at, closed_date, is_minute, hours_valid, closed_valid, calendar_valid, is_closed, hours_on, used_slots, date_valid, slots_on, slots_or_zero, train_valid, window, first_of, last_of, window_of, window_or_zero}
use Rattle.opening_hours.specs.Laws.{ValidCalendar}

pub minute_is : (x : ℕ) → T (is_minute x) → x ≤ 1439
minute_is x t = leb-true x 1439 (is_true (is_minute x) t)

pub is_minute_lem : (x : ℕ) → x ≤ 1439 → T (is_minute x)
is_minute_lem x h = of_true (le-leb x 1439 h)

module _ (c : Calendar) where
  few : Bool
  few = leb c.count 32

  week : Bool
  week = each 7 (hours_valid c.hours)

  closed : Bool
  closed = each c.count (closed_valid c.closed)

  long : Bool
  long = between 1 1440 c.length

  pub calendar_is : T (calendar_valid c) → ValidCalendar c
  unfolding calendar_valid few week closed long
  calendar_is t =
      let (fwc, l) = both_of (few && week && closed) long t in
      let (fw, d) = both_of (few && week) closed fwc in
      let (f, h) = both_of few week fw in
      let (from, to) = between_is 1 1440 c.length l in
      let at : (w : ℕ) → w < 7 → T (is_minute (hours_at c.hours w).opens) × T (is_minute (hours_at c.hours w).closes) =
      λ w b. both_of (is_minute (hours_at c.hours w).opens) (is_minute (hours_at c.hours w).closes) (each_at 7 (hours_valid c.hours) h w b) in
      record {
        few = leb-true c.count 32 (is_true few f);
        opens = λ w b. minute_is (hours_at c.hours w).opens (at w b).0;
        closes = λ w b. minute_is (hours_at c.hours w).closes (at w b).1;
        dates = each_at c.count (closed_valid c.closed) d;
        shortest = from;
        longest = to;
      }

  pub is_calendar : ValidCalendar c → T (calendar_valid c)
  unfolding calendar_valid few week closed long
  is_calendar v =
      both (few && week && closed) long
      (both (few && week) closed
      (both few week (of_true (le-leb c.count 32 v.few))
      (each_i 7 (hours_valid c.hours) λ w b. both (is_minute (hours_at c.hours w).opens) (is_minute (hours_at c.hours w).closes) (is_minute_lem (hours_at c.hours w).opens (v.opens w b)) (is_minute_lem (hours_at c.hours w).closes (v.closes w b))))
      (each_i c.count (closed_valid c.closed) v.dates))
      (is_between 1 1440 c.length v.shortest v.longest)

-- ---- a date of it

module _ (c : Calendar) (d : Date) (t : T (date_valid c d)) where
  pub calendar_of_lem : ValidCalendar c
  calendar_of_lem = calendar_is c (both_of (calendar_valid c) (is_date d) t).0

  pub date_of_lem : T (is_date d)
  date_of_lem = (both_of (calendar_valid c) (is_date d) t).1

  pub opens_minute : (hours_on c d).opens ≤ 1439
  opens_minute = calendar_of_lem.opens (weekday d) (weekday_below d)

  pub used_at-most : used_slots c d ≤ 8
  unfolding used_slots
  used_at-most = go (is_closed c.closed c.count d) (omega (arith, slots_divided (hours_on c d).opens (hours_on c d).closes c.length calendar_of_lem.shortest))
    where
      go : (b : Bool) → slots_between (hours_on c d).opens (hours_on c d).closes c.length ≤ 8 → cond b 0 (slots_between (hours_on c d).opens (hours_on c d).closes c.length) ≤ 8
      go true h = omega arith
      go false h = h

-- ---- the slots of a date, from what the code has found

module _ (c : Calendar) (d : Date) where
  pub says_closed : is_closed c.closed c.count d ≡ true → 0 ≡ used_slots c d
  unfolding used_slots
  says_closed e = rw e

  pub says_open : is_closed c.closed c.count d ≡ false → {h : Hours} {k : ℕ} → h ≡ hours_on c d → k ≡ slots_between h.opens h.closes c.length → k ≡ used_slots c d
  unfolding used_slots
  says_open e on found = found ∙ rw (e, on)

  pub says_slots : date_valid c d ≡ true → {k : ℕ} → k ≡ used_slots c d → (gives k ≡ slots_on c d) × (k ≡ slots_or_zero (slots_on c d))
  unfolding slots_on
  says_slots e found = (ap gives found ∙ rw e, found ∙ rw e)

  pub says_no_slots : date_valid c d ≡ false → (refuses 23 (0 ∷ []) ≡ slots_on c d) × (0 ≡ slots_or_zero (slots_on c d))
  unfolding slots_on
  says_no_slots e = (rw e, rw e)

-- ---- the window of a train, from what the code has found

module _ (c : Calendar) (d : Date) (arrival departure : ℕ) where
  pub says_out_of_range : train_valid c d arrival departure ≡ false → refuses 23 (0 ∷ []) ≡ window_of c d arrival departure
  unfolding window_of
  says_out_of_range e = rw e

  -- from the code's hours, used slots, first and last slot
  module _ (valid : train_valid c d arrival departure ≡ true) {h : Hours} {used first last : ℕ} (on : h ≡ hours_on c d) (as_many : used ≡ used_slots c d)
      (from : first ≡ first_slot h.opens c.length used arrival) (to : last ≡ last_slot h.opens c.length used departure) where
    first_is : first ≡ first_of c d arrival
    first_is = from ∙ λ i. first_slot (on i).opens c.length (as_many i) arrival

    last_is : last ≡ last_of c d departure
    last_is = to ∙ λ i. last_slot (on i).opens c.length (as_many i) departure

    pub says_no_window : last < first → refuses 24 (0 ∷ []) ≡ window_of c d arrival departure
    unfolding window_of
    says_no_window b = rw (valid, lt-leb (first_of c d arrival) (last_of c d departure) (omega (arith, first_is, last_is)))

    pub says_window : first ≤ last → gives (window first last) ≡ window_of c d arrival departure
    unfolding window_of
    says_window b =
        let given : window first last ≡ window (first_of c d arrival) (last_of c d departure) = λ i. window (first_is i) (last_is i) in
        let ordered = le-leb (first_of c d arrival) (last_of c d departure) (omega (arith, first_is, last_is)) in
        ap gives given ∙ rw (valid, ordered)
