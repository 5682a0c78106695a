-- Direct and split moves (order 6 of document 02): each counted by its own definition, they are all boxes of the day, whatever the row and
-- allowed or not (`direct_and_splits`).
-- Assumes nothing.
use Rattle.std.specs.Prelude.{◌≡◌, ◌+◌}
use Rattle.model.specs.Model.{Yard, boxes_of, Outcome}

-- ---- of what a call gives on a day

abbrev pub AllMoved : Yard → Outcome → Type 0
AllMoved y o = o.direct + o.splits ≡ boxes_of y
