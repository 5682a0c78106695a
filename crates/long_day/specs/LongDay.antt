-- Long days (order 9 of document 02): their limits, as data, and the record as plain data. Groups are none: their column holds zeros.
-- Assumes nothing.
use Rattle.std.specs.Prelude.{replicate}
use Rattle.model.specs.Model.{Yard}
use Rattle.day.specs.Sound.{day_from}
use Rattle.day.specs.declared.Head.{Head}
use Rattle.day.specs.declared.Limits.{Limits}
use Rattle.long_day.specs.declared.LongDay.{LongDay}

-- order 9: up to 36 trains on at most 4 tracks and 12 slots, no groups; weights and boxes are 01's, train numbers order 2's
abbrev pub long_limits : Limits
long_limits = record { trains = 36; tracks = 4; slots = 12; weight = 65535; number = 99999; boxes = 255; groups = 0 }

abbrev pub long_head : LongDay → Head
long_head d = record { trains = d.trains; tracks = d.tracks; slots = d.slots; revisit = d.revisit; split = d.split }

abbrev pub long_yard : LongDay → Yard
long_yard d = day_from (long_head d) d.numbers d.first d.last (replicate 36 0) 36 d.boxes
