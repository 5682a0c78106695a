-- What order 11 of document 02 promises, drawn from the two calls' definitions:
--   used-slots, slots-used       the slots that a date uses are just those of the order's words: of the first eight, on a date that is not
--                                closed, on a weekday that closes after it opens, ending at closing or before;
--   slots-taken, slots-refused   their number is given exactly where calendar and date are in range, else 23;
--   window-holds, holds-window   a window holds exactly the date's used slots that neither start before arrival nor end after departure;
--   window-within                1 ≤ first ≤ last ≤ used slots ≤ 8;
--   window-refused               otherwise it is 23 or 24, with 0;
--   none-in-stay, no-window      24 exactly where everything is in range and no used slot is such;
--   out_of_range, not-in-range   23 exactly where something handed over is out of range.
-- Assumes nothing.
use Rattle.std.specs.Prelude.{◌≡◌, Bool, ◌&&◌, List, [], ◌∷◌, ◌⊎◌, ℕ, ◌+◌, ◌-◌, ◌*◌, ◌≤◌, ◌<◌, T, ltb}
use Rattle.std.proofs.Math.Path.{refl}
use Rattle.std.proofs.Common.{sym, ap, ◌∙◌, inl, inr, le_refl, arith}
use Rattle.std.proofs.Math.Bool.{true, false, cond}
use Rattle.std.proofs.Math.Dec.{leb}
use borrow.Author.Tests.{leb-true, leb-false, le-leb, ltb-true, lt-ltb}
use Rattle.fold.specs.Test.{is_true, of_true, is_false, of_false, both, both_of}
use Rattle.fold.specs.Fold.{some, none_i, none_at}
use Rattle.day.specs.Answer.{gives, refuses}
use Rattle.dates.specs.declared.Date.{Date}
use Rattle.dates.specs.Dates.{is_date, same_date, weekday}
use Rattle.dates.specs.DateLaws.{IsDate}
use Rattle.dates.proofs.DateLaws.{date_is, is_date_lem, same_date_lem, date_same}
use Rattle.slot_times.specs.Slots.{slot_end, slots_between}
use Rattle.slot_times.proofs.Laws.{used_there, there_used, first_from, first_starts, starts_first, last_used, last_ends, ends_last}
use Rattle.opening_hours.specs.declared.Calendar.{Calendar}
use Rattle.opening_hours.specs.declared.Window.{Window}
use Rattle.opening_hours.specs.Calendar.{hours_at, closed_date, is_minute, calendar_valid, is_closed, hours_on, used_slots, date_valid, slots_on, train_valid, window, first_of, last_of, window_of}
use Rattle.opening_hours.specs.Laws.{ValidCalendar}

-- ---- what is in range

pub record ValidDate (c : Calendar) (d : Date) : Type 0 where
  pub calendar : ValidCalendar c
  pub date : IsDate d

pub record ValidTrain (c : Calendar) (d : Date) (arrival departure : ℕ) : Type 0 where
  pub day : ValidDate c d
  pub arrives : arrival ≤ 1439
  pub departs : departure ≤ 1439

-- ---- the used slots of a date, and those of them that lie between a train's arrival and its departure: in minutes, by the hours of its weekday

pub record UsedSlot (c : Calendar) (d : Date) (k : ℕ) : Type 0 where
  pub from : 1 ≤ k
  pub eighth : k ≤ 8
  pub day_open : (i : ℕ) → i < c.count → closed_date c.closed i ≡ d → ⊥
  pub opened : (hours_at c.hours (weekday d)).opens < (hours_at c.hours (weekday d)).closes
  pub closing : (hours_at c.hours (weekday d)).opens + k * c.length ≤ (hours_at c.hours (weekday d)).closes

pub record InStay (c : Calendar) (d : Date) (arrival departure k : ℕ) : Type 0 where
  pub used : UsedSlot c d k
  pub starts : arrival ≤ (hours_at c.hours (weekday d)).opens + (k - 1) * c.length
  pub ends : (hours_at c.hours (weekday d)).opens + k * c.length ≤ departure

-- ---- the window of a train

module _ (c : Calendar) (d : Date) (arrival departure : ℕ) where
  -- the answer by its two checks
  pub data Ways : Type 0 where
    given : ValidTrain c d arrival departure → first_of c d arrival ≤ last_of c d departure → window_of c d arrival departure ≡ gives (window (first_of c d arrival) (last_of c d departure)) → Ways
    no_slot : ValidTrain c d arrival departure → last_of c d departure < first_of c d arrival → window_of c d arrival departure ≡ refuses 24 (0 ∷ []) → Ways
    invalid : (ValidTrain c d arrival departure → ⊥) → window_of c d arrival departure ≡ refuses 23 (0 ∷ []) → Ways
