-- `opening_hours::slots_on` meets its contract: 23, or the slots of the date.
use mathlib.Core.Path.{sym, ◌∙◌}
use Rattle.opening_hours.proofs.Laws.{says_slots, says_no_slots}
use Rattle.opening_hours.proofs.slots_on.Goals as goal

pub returns-then-not-is_date_valid : goal.returns-then-not-is_date_valid
returns-then-not-is_date_valid c = let s = says_no_slots _ _ (sym c.is_date_valid.ensures ∙ c.if-not-is_date_valid.true) in record { slots_value = s.0; slots_value_2 = s.1 }

pub returns : goal.returns
returns c = let s = says_slots _ _ (sym c.is_date_valid.ensures ∙ c.if-not-is_date_valid.false) c.used_slots.ensures.0 in record { slots_value = s.0; slots_value_2 = s.1 }
