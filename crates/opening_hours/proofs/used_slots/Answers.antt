-- `opening_hours::used_slots` meets its contract: none on a closed date, else those of the weekday's hours.
use mathlib.Core.Path.{sym, ◌∙◌}
use native.Mathlib.Omega.{arith}
use Rattle.opening_hours.proofs.Laws.{calendar_of_lem, says_closed, says_open}
use Rattle.opening_hours.proofs.used_slots.Goals as goal

pub is_closed_on-requires : goal.is_closed_on-requires
is_closed_on-requires c = (calendar_of_lem _ _ c.requires.0).few

pub returns-then-is_closed_on : goal.returns-then-is_closed_on
returns-then-is_closed_on c = (says_closed _ _ (sym c.is_closed_on.ensures ∙ c.if-is_closed_on.true), omega arith)

pub slots_between-requires : goal.slots_between-requires
slots_between-requires c = (calendar_of_lem _ _ c.requires.0).shortest

pub returns : goal.returns
returns c = (
  says_open _ _ (sym c.is_closed_on.ensures ∙ c.if-is_closed_on.false) c.requires.1 c.slots_between.ensures.0,
  c.slots_between.ensures.1,
)
