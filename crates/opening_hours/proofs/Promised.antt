-- Laws of Promised.antt of specs/.
-- What order 11 of document 02 promises, drawn from the two calls' definitions:
--   used-slots, slots-used       the slots that a date uses are just those of the order's words: of the first eight, on a date that is not
--                                closed, on a weekday that closes after it opens, ending at closing or before;
--   slots-taken, slots-refused   their number is given exactly where calendar and date are in range, else 23;
--   window-holds, holds-window   a window holds exactly the date's used slots that neither start before arrival nor end after departure;
--   window-within                1 ≤ first ≤ last ≤ used slots ≤ 8;
--   window-refused               otherwise it is 23 or 24, with 0;
--   none-in-stay, no-window      24 exactly where everything is in range and no used slot is such;
--   out_of_range, not-in-range   23 exactly where something handed over is out of range.
-- Assumes nothing.
use Rattle.std.specs.Prelude.{◌≡◌, Bool, ◌&&◌, List, [], ◌∷◌, ◌⊎◌, ℕ, ◌+◌, ◌-◌, ◌*◌, ◌≤◌, ◌<◌, T, ltb}
use Rattle.std.proofs.Math.Path.{refl}
use Rattle.std.proofs.Common.{sym, ap, ◌∙◌, inl, inr, le_refl, arith}
use Rattle.std.proofs.Math.Bool.{true, false, cond}
use Rattle.std.proofs.Math.Dec.{leb}
use borrow.Author.Tests.{leb-true, leb-false, le-leb, ltb-true, lt-ltb}
use Rattle.fold.specs.Test.{is_true, of_true, is_false, of_false, both, both_of}
use Rattle.fold.specs.Fold.{some, none_i, none_at}
use Rattle.day.specs.Answer.{gives, refuses}
use Rattle.dates.specs.declared.Date.{Date}
use Rattle.dates.specs.Dates.{is_date, same_date, weekday}
use Rattle.dates.specs.DateLaws.{IsDate}
use Rattle.dates.proofs.DateLaws.{date_is, is_date_lem, same_date_lem, date_same}
use Rattle.slot_times.specs.Slots.{slot_end, slots_between}
use Rattle.slot_times.proofs.Laws.{used_there, there_used, first_from, first_starts, starts_first, last_used, last_ends, ends_last}
use Rattle.opening_hours.specs.declared.Calendar.{Calendar}
use Rattle.opening_hours.specs.declared.Window.{Window}
use Rattle.opening_hours.specs.Calendar.{hours_at, closed_date, is_minute, calendar_valid, is_closed, hours_on, used_slots, date_valid, slots_on, train_valid, window, first_of, last_of, window_of}
use Rattle.opening_hours.specs.Laws.{ValidCalendar}
use Rattle.opening_hours.proofs.Laws.{calendar_is, is_calendar, minute_is, is_minute_lem, used_at-most}
use Rattle.opening_hours.specs.Promised.{ValidDate, ValidTrain, UsedSlot, InStay, Ways, given, no_slot, invalid}

module _ (c : Calendar) (d : Date) where
  pub valid_date : T (date_valid c d) → ValidDate c d
  valid_date t = let (u, v) = both_of (calendar_valid c) (is_date d) t in record { calendar = calendar_is c u; date = date_is d v }

  pub date_valid_lem : ValidDate c d → T (date_valid c d)
  date_valid_lem v = both (calendar_valid c) (is_date d) (is_calendar c v.calendar) (is_date_lem d v.date)

  pub slots_taken : ValidDate c d → slots_on c d ≡ gives (used_slots c d)
  unfolding slots_on
  slots_taken v = rw (is_true (date_valid c d) (date_valid_lem v))

  pub slots_refused : (ValidDate c d → ⊥) → slots_on c d ≡ refuses 23 (0 ∷ [])
  unfolding slots_on
  slots_refused n = rw (is_false (date_valid c d) (λ t. n (valid_date t)))

  module _ (v : ValidDate c d) where
    pub used_slots_lem : (k : ℕ) → 1 ≤ k → k ≤ used_slots c d → UsedSlot c d k
    unfolding used_slots is_closed
    used_slots_lem k l h = go (is_closed c.closed c.count d) refl h
      where
        go : (b : Bool) → (some c.count λ i. same_date (closed_date c.closed i) d) ≡ b → k ≤ cond b 0 (slots_between (hours_on c d).opens (hours_on c d).closes c.length) → UsedSlot c d k
        go true e h = absurd (omega arith)
        go false e h =
            let opens = (hours_on c d).opens in
            let closes = (hours_on c d).closes in
            let there = used_there opens closes c.length v.calendar.shortest k l h in
            let (o, end) = both_of (ltb opens closes) (leb (slot_end opens c.length k) closes) there.1 in
            record {
              from = l;
              eighth = there.0;
              day_open = λ i b same. none_at c.count (λ i. same_date (closed_date c.closed i) d) e i b (date_same (closed_date c.closed i) d same);
              opened = ltb-true opens closes (is_true (ltb opens closes) o);
              closing = leb-true (slot_end opens c.length k) closes (is_true (leb (slot_end opens c.length k) closes) end);
            }

    pub slots_used : (k : ℕ) → UsedSlot c d k → k ≤ used_slots c d
    unfolding used_slots is_closed
    slots_used k u =
        let opens = (hours_on c d).opens in
        let closes = (hours_on c d).closes in
        let not-closed = none_i c.count (λ i. same_date (closed_date c.closed i) d) (λ i b t. u.day_open i b (same_date_lem (closed_date c.closed i) d t)) in
        rw not-closed
        (there_used opens closes c.length v.calendar.shortest k u.from u.eighth
        (both (ltb opens closes) (leb (slot_end opens c.length k) closes) (of_true (lt-ltb opens closes u.opened)) (of_true (le-leb (slot_end opens c.length k) closes u.closing))))

module _ (c : Calendar) (d : Date) (arrival departure : ℕ) where
  pub valid_train : T (train_valid c d arrival departure) → ValidTrain c d arrival departure
  valid_train t =
      let (u, v) = both_of (date_valid c d) (is_minute arrival && is_minute departure) t in
      let (a, b) = both_of (is_minute arrival) (is_minute departure) v in
      record { day = valid_date c d u; arrives = minute_is arrival a; departs = minute_is departure b }

  pub train_valid_lem : ValidTrain c d arrival departure → T (train_valid c d arrival departure)
  train_valid_lem v =
      both (date_valid c d) (is_minute arrival && is_minute departure) (date_valid_lem c d v.day)
      (both (is_minute arrival) (is_minute departure) (is_minute_lem arrival v.arrives) (is_minute_lem departure v.departs))

  -- first to last holds exactly the slots of the stay
  module _ (v : ValidDate c d) where
    held : (k : ℕ) → first_of c d arrival ≤ k → k ≤ last_of c d departure → InStay c d arrival departure k
    held k l h =
        let opens = (hours_on c d).opens in
        let used = used_slots c d in
        let least = first_from opens c.length used arrival in
        let most = last_used opens c.length used departure in
        record {
          used = used_slots_lem c d v k (omega arith) (omega arith);
          starts = first_starts opens c.length used arrival k l (omega arith);
          ends = last_ends opens c.length used departure k (omega arith) h;
        }

    holds : (k : ℕ) → InStay c d arrival departure k → (first_of c d arrival ≤ k) × (k ≤ last_of c d departure)
    holds k s =
        let opens = (hours_on c d).opens in
        (starts_first opens c.length (used_slots c d) arrival k s.used.from s.starts, ends_last opens c.length (used_slots c d) departure k (slots_used c d v k s.used) s.ends)

  ways : (Ways c d arrival departure)
  unfolding window_of
  ways = go (train_valid c d arrival departure) (leb (first_of c d arrival) (last_of c d departure)) refl refl
    where
      go : (b o : Bool) → train_valid c d arrival departure ≡ b → leb (first_of c d arrival) (last_of c d departure) ≡ o → (Ways c d arrival departure)
      go true true k o = given (valid_train (of_true k)) (leb-true (first_of c d arrival) (last_of c d departure) o) (rw (k, o))
      go true false k o = no_slot (valid_train (of_true k)) (leb-false (first_of c d arrival) (last_of c d departure) o) (rw (k, o))
      go false o k q = invalid (λ v. of_false k (train_valid_lem v)) (rw k)

  -- a window given: that of the first and the last slot, everything in range
  module _ (w : Window) (e : window_of c d arrival departure ≡ gives w) where
    is_given : ValidTrain c d arrival departure × (w.first ≡ first_of c d arrival) × (w.last ≡ last_of c d departure) × (w.first ≤ w.last)
    is_given = go ways
      where
        go : (Ways c d arrival departure) → ValidTrain c d arrival departure × (w.first ≡ first_of c d arrival) × (w.last ≡ last_of c d departure) × (w.first ≤ w.last)
        go (given v o q) =
            let both-given : gives w ≡ gives (window (first_of c d arrival) (last_of c d departure)) = sym e ∙ q in
            let same : w ≡ window (first_of c d arrival) (last_of c d departure) = cc in
            let first = ap (λ (w : Window). w.first) same in
            let last = ap (λ (w : Window). w.last) same in
            (v, first, last, omega (arith, first, last, o))
        go (no_slot v o q) = absurd (let z : ◌≡◌ {A = ℕ} 0 1 = cc in omega arith)
        go (invalid n q) = absurd (let z : ◌≡◌ {A = ℕ} 0 1 = cc in omega arith)

    pub window_holds : (k : ℕ) → w.first ≤ k → k ≤ w.last → InStay c d arrival departure k
    window_holds k l h = let (v, first, last, ordered) = is_given in held v.day k (omega arith) (omega arith)

    pub holds_window : (k : ℕ) → InStay c d arrival departure k → (w.first ≤ k) × (k ≤ w.last)
    holds_window k s = let (v, first, last, ordered) = is_given in let b = holds v.day k s in (omega arith, omega arith)

    pub window-within : (1 ≤ w.first) × (w.first ≤ w.last) × (w.last ≤ used_slots c d) × (used_slots c d ≤ 8)
    window-within =
        let (v, first, last, ordered) = is_given in
        let least = first_from (hours_on c d).opens c.length (used_slots c d) arrival in
        let most = last_used (hours_on c d).opens c.length (used_slots c d) departure in
        (omega arith, ordered, omega arith, used_at-most c d (date_valid_lem c d v.day))

    -- everything handed over was in range
    pub window_valid : ValidTrain c d arrival departure
    window_valid = is_given.0

  -- the answers that are no window
  pub window_refused : (k : ℕ) (carries : List ℕ) → window_of c d arrival departure ≡ refuses k carries → ((k ≡ 23) ⊎ (k ≡ 24)) × (carries ≡ 0 ∷ [])
  window_refused k carries e = go ways
    where
      go : (Ways c d arrival departure) → ((k ≡ 23) ⊎ (k ≡ 24)) × (carries ≡ 0 ∷ [])
      go (given v o q) = absurd (let z : ◌≡◌ {A = ℕ} 0 1 = cc in omega arith)
      go (no_slot v o q) = (inr cc, cc)
      go (invalid n q) = (inl cc, cc)

  -- 24: everything is in range, and no used slot lies in the stay
  pub none_in_stay : window_of c d arrival departure ≡ refuses 24 (0 ∷ []) → ValidTrain c d arrival departure × ((k : ℕ) → InStay c d arrival departure k → ⊥)
  none_in_stay e = go ways
    where
      go : (Ways c d arrival departure) → ValidTrain c d arrival departure × ((k : ℕ) → InStay c d arrival departure k → ⊥)
      go (given v o q) = absurd (let z : ◌≡◌ {A = ℕ} 0 1 = cc in omega arith)
      go (no_slot v o q) = (v, λ k s. let b = holds v.day k s in omega arith)
      go (invalid n q) = absurd (let z : ◌≡◌ {A = ℕ} 23 24 = cc in omega arith)

  pub no_window : ValidTrain c d arrival departure → ((k : ℕ) → InStay c d arrival departure k → ⊥) → window_of c d arrival departure ≡ refuses 24 (0 ∷ [])
  no_window v none = go ways
    where
      go : (Ways c d arrival departure) → window_of c d arrival departure ≡ refuses 24 (0 ∷ [])
      go (given u o q) = absurd (none (first_of c d arrival) (held v.day (first_of c d arrival) (le_refl (first_of c d arrival)) o))
      go (no_slot u o q) = q
      go (invalid n q) = absurd (n v)

  -- 23: something handed over is out of range
  pub out_of_range : window_of c d arrival departure ≡ refuses 23 (0 ∷ []) → ValidTrain c d arrival departure → ⊥
  out_of_range e v = go ways
    where
      go : (Ways c d arrival departure) → ⊥
      go (given u o q) = let z : ◌≡◌ {A = ℕ} 0 1 = cc in omega arith
      go (no_slot u o q) = let z : ◌≡◌ {A = ℕ} 23 24 = cc in omega arith
      go (invalid n q) = n v

  pub not_in_range : (ValidTrain c d arrival departure → ⊥) → window_of c d arrival departure ≡ refuses 23 (0 ∷ [])
  not_in_range n = go ways
    where
      go : (Ways c d arrival departure) → window_of c d arrival departure ≡ refuses 23 (0 ∷ [])
      go (given v o q) = absurd (n v)
      go (no_slot v o q) = absurd (n v)
      go (invalid m q) = q
