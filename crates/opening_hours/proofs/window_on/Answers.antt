-- Once everything handed over is in range, the first and the last slot decide.
use mathlib.Core.Path.{◌≡◌, sym, ap, ◌∙◌}
use mathlib.Core.Bool.{Bool, true, ◌&&◌}
use Prim.Native.Nat.{ℕ, ◌≤◌}
use native.Mathlib.Omega.{arith}
use lib.Dec.{T}
use Rattle.fold.specs.Test.{of_true, both_of}
use Rattle.opening_hours.specs.declared.Hours.{Hours}
use Rattle.opening_hours.specs.declared.Calendar.{Calendar}
use Rattle.dates.specs.declared.Date.{Date}
use Rattle.opening_hours.specs.Calendar.{hours_on, is_minute, date_valid, train_valid}
use Rattle.opening_hours.proofs.Laws.{calendar_of_lem, opens_minute, says_out_of_range, says_no_window, says_window}
use Rattle.opening_hours.proofs.window_on.Goals as goal

-- past the first test everything is in range
all_valid : (calendar : Calendar) (date : Date) (arrival departure : ℕ) (t : Bool) → t ≡ date_valid calendar date → t && (is_minute arrival && is_minute departure) ≡ true → train_valid calendar date arrival departure ≡ true
all_valid calendar date arrival departure t e h = ap (λ (b : Bool). b && (is_minute arrival && is_minute departure)) (sym e) ∙ h

valid_date : (calendar : Calendar) (date : Date) (arrival departure : ℕ) → train_valid calendar date arrival departure ≡ true → T (date_valid calendar date)
valid_date calendar date arrival departure h =
    (both_of (date_valid calendar date) (is_minute arrival && is_minute departure) (of_true h)).0

-- what both walks through the slots ask
walked : (calendar : Calendar) (date : Date) (hours : Hours) (used : ℕ) → T (date_valid calendar date) → hours ≡ hours_on calendar date → used ≤ 8 → (hours.opens ≤ 1439) × (calendar.length ≤ 1440) × (used ≤ 8)
walked calendar date hours used valid e u =
    (omega (arith, ap (λ (h : Hours). h.opens) e, opens_minute _ _ valid), (calendar_of_lem _ _ valid).longest, u)

pub returns-then-not-is_date_valid-arrival : goal.returns-then-not-is_date_valid-arrival
returns-then-not-is_date_valid-arrival c =
    let a = c.args in
    says_out_of_range _ _ _ _ (ap (λ (b : Bool). b && (is_minute a.arrival && is_minute a.departure)) (sym c.is_date_valid.ensures) ∙ c.if-not-is_date_valid-arrival.true)

pub first_slot-first-requires : goal.first_slot-first-requires
first_slot-first-requires c =
    let valid = valid_date c.args.calendar c.args.date c.args.arrival c.args.departure (all_valid c.args.calendar c.args.date c.args.arrival c.args.departure _ c.is_date_valid.ensures c.if-not-is_date_valid-arrival.false) in
    walked c.args.calendar c.args.date _ _ valid c.hours_on-hours.ensures c.used_slots-used.ensures.1

pub last_slot-last-requires : goal.last_slot-last-requires
last_slot-last-requires c =
    let valid = valid_date c.args.calendar c.args.date c.args.arrival c.args.departure (all_valid c.args.calendar c.args.date c.args.arrival c.args.departure _ c.is_date_valid.ensures c.if-not-is_date_valid-arrival.false) in
    walked c.args.calendar c.args.date _ _ valid c.hours_on-hours.ensures c.used_slots-used.ensures.1

pub returns-then-last-first : goal.returns-then-last-first
returns-then-last-first c =
    says_no_window _ _ _ _ (all_valid _ _ c.args.arrival c.args.departure _ c.is_date_valid.ensures c.if-not-is_date_valid-arrival.false) c.hours_on-hours.ensures c.used_slots-used.ensures.0 c.first_slot-first.ensures c.last_slot-last.ensures c.if-last-first.true

pub returns : goal.returns
returns c =
    says_window _ _ _ _ (all_valid _ _ c.args.arrival c.args.departure _ c.is_date_valid.ensures c.if-not-is_date_valid-arrival.false) c.hours_on-hours.ensures c.used_slots-used.ensures.0 c.first_slot-first.ensures c.last_slot-last.ensures c.if-last-first.false
