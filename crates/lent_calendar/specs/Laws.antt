-- A lent calendar: what the code's loop over the closed dates leaves, and the header's words for dates, hours, closed dates and answers:
--   date-digits, date_once      a date's number has its year, month and day, and no other number has the same;
--   week-hours                  opening and closing of weekday w are the lent numbers 2 w and 2 w + 1;
--   closed_dates                closed date i is the lent number i;
--   short-hours                 10 where fewer than fourteen hours are lent, whatever else is;
--   slots_lent, window_lent     else what the calls answer.
-- Assumes nothing.
use Rattle.std.specs.Prelude.{◌≡◌, cond, List, [], ◌∷◌, ℕ, ◌+◌, ◌*◌, ◌/◌, ◌%◌, ◌≤◌, ◌<◌, ltb, length, get_or, Result}
use Rattle.std.proofs.Common.{sym, ap, ◌∙◌, arith}
use borrow.Author.Tests.{le-leb, lt-leb, lt-ltb}
use Rattle.fold.specs.Listed.{listed_at, listed_ext}
use Rattle.fold.specs.Column.{filled, filled_at, filled_end}
use Rattle.day.specs.Answer.{refuses, code, judged}
use Rattle.day.specs.declared.Refusal.{Refusal}
use Rattle.refusals.specs.Numbers.{verdict_number, judged-number}
use Rattle.dates.specs.declared.Date.{Date}
use Rattle.dates.specs.Dates.{date}
use Rattle.opening_hours.specs.declared.Calendar.{Calendar}
use Rattle.opening_hours.specs.declared.Window.{Window}
use Rattle.opening_hours.specs.Calendar.{hours, hours_at, closed_date, slots_on, slots_or_zero, window_of, window_or_zero}
use Rattle.lent_calendar.specs.LentCalendar.{date_of, hours_of, week_of, closed_of, calendar_of, slots_lent, window_lent}

-- ---- dates as numbers

pub date-digits : (year month day : ℕ) → month < 100 → day < 100 → date_of (year * 10000 + month * 100 + day) ≡ date year month day
date-digits year month day m d =
    let x = year * 10000 + month * 100 + day in
    let y : x / 10000 ≡ year = omega arith in
    let z : x / 100 % 100 ≡ month = omega arith in
    let w : x % 100 ≡ day = omega arith in
    λ i. date (y i) (z i) (w i)

-- a number from its hundreds and its last two digits
hundreds : (a b : ℕ) → a / 100 ≡ b / 100 → a % 100 ≡ b % 100 → a ≡ b
hundreds a b e f = omega arith

thousands : (a : ℕ) → a / 10000 ≡ a / 100 / 100
thousands a = omega arith

pub date_once : (a b : ℕ) → date_of a ≡ date_of b → a ≡ b
date_once a b e =
    let year : a / 10000 ≡ b / 10000 = ap (λ (d : Date). d.year) e in
    let month : a / 100 % 100 ≡ b / 100 % 100 = ap (λ (d : Date). d.month) e in
    let day : a % 100 ≡ b % 100 = ap (λ (d : Date). d.day) e in
    hundreds a b (hundreds (a / 100) (b / 100) (sym (thousands a) ∙ year ∙ thousands b) month) day

-- ---- hours and closed dates by their places

pub week-hours : (week : List ℕ) (w : ℕ) → w < 7 → hours_at (week_of week) w ≡ hours (get_or week (2 * w) 0) (get_or week (2 * w + 1) 0)
unfolding week_of
week-hours week w h = listed_at 7 (hours_of week) (hours 0 0) w h

module _ (closed : List ℕ) where
  pub closed_dates : (i : ℕ) → i < 32 → i < length closed → closed_date (closed_of closed) i ≡ date_of (get_or closed i 0)
  unfolding closed_of
  closed_dates i h l = filled_at (date 0 0 0) 32 (length closed) (λ i. date_of (get_or closed i 0)) i h l

  -- the loop's two ends: behind the last date that is lent, and behind the last place
  pub closed_end : {r : List Date} (i : ℕ) → r ≡ filled (date 0 0 0) 32 i (λ i. date_of (get_or closed i 0)) → i ≤ length closed → length closed ≤ i → r ≡ closed_of closed
  unfolding closed_of
  closed_end i e a b = filled_end (date 0 0 0) 32 (λ i. date_of (get_or closed i 0)) i (length closed) e a b

  pub closed_full : {r : List Date} (i : ℕ) → r ≡ filled (date 0 0 0) 32 i (λ i. date_of (get_or closed i 0)) → i ≤ length closed → 32 ≤ i → r ≡ closed_of closed
  unfolding closed_of filled
  closed_full i e a b =
      e ∙ listed_ext 32 (λ k. cond (ltb k i) (date_of (get_or closed k 0)) (date 0 0 0)) (λ k. cond (ltb k (length closed)) (date_of (get_or closed k 0)) (date 0 0 0))
      (λ k h. rw (lt-ltb k i (omega arith), lt-ltb k (length closed) (omega arith)))

-- ---- the answers

module _ (week : List ℕ) (minutes : ℕ) (closed : List ℕ) (on : ℕ) where
  pub slots_lent_lem : 14 ≤ length week → slots_lent week minutes closed on ≡ slots_on (calendar_of week minutes closed) (date_of on)
  unfolding slots_lent
  slots_lent_lem h = rw (le-leb 14 (length week) h)

  pub window_lent_lem : (arrival departure : ℕ) → 14 ≤ length week → window_lent week minutes closed on arrival departure ≡ window_of (calendar_of week minutes closed) (date_of on) arrival departure
  unfolding window_lent
  window_lent_lem arrival departure h = rw (le-leb 14 (length week) h)

  pub short_hours : (arrival departure : ℕ) → length week < 14
      → (slots_lent week minutes closed on ≡ refuses 10 (0 ∷ [])) × (window_lent week minutes closed on arrival departure ≡ refuses 10 (0 ∷ []))
  unfolding slots_lent window_lent
  short_hours arrival departure h = (rw (lt-leb 14 (length week) h), rw (lt-leb 14 (length week) h))

-- ---- what is told, from what the code has found: the calendar and the date of the lent numbers, and the call's answer

module _ (week : List ℕ) (minutes : ℕ) (closed : List ℕ) (on : ℕ) {c : Calendar} {d : Date} (is : c ≡ calendar_of week minutes closed) (at : d ≡ date_of on)
    (v : Result Unit Refusal) {said : ℕ} (number : said ≡ verdict_number v) (room : 14 ≤ length week) where
  pub tells_slots : {k : ℕ} → judged v k ≡ slots_on c d → k ≡ slots_or_zero (slots_on c d)
      → (said ≡ code (slots_lent week minutes closed on)) × (k ≡ slots_or_zero (slots_lent week minutes closed on))
  tells_slots {k} answer beside =
      let whole : slots_on c d ≡ slots_lent week minutes closed on = (λ i. slots_on (is i) (at i)) ∙ sym (slots_lent_lem week minutes closed on room) in
      (number ∙ judged-number v k ∙ ap code (answer ∙ whole), beside ∙ ap slots_or_zero whole)

  pub tells_window : (arrival departure : ℕ) {w : Window} → judged v w ≡ window_of c d arrival departure → w ≡ window_or_zero (window_of c d arrival departure)
      → let told = window_lent week minutes closed on arrival departure in (said ≡ code told) × (w.first ≡ (window_or_zero told).first) × (w.last ≡ (window_or_zero told).last)
  tells_window arrival departure {w} answer beside =
      let whole : window_of c d arrival departure ≡ window_lent week minutes closed on arrival departure = (λ i. window_of (is i) (at i) arrival departure) ∙ sym (window_lent_lem week minutes closed on arrival departure room) in
      let same = beside ∙ ap window_or_zero whole in
      (number ∙ judged-number v w ∙ ap code (answer ∙ whole), ap (λ (w : Window). w.first) same, ap (λ (w : Window). w.last) same)
