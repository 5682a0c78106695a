-- The words of Procedures.antt over a day that is lent.
-- Assumes nothing.
use Rattle.std.specs.Prelude.{Bool, ◌&&◌, List, ℕ, ◌≤◌, length}
use Rattle.model.specs.Model.{cell, in_time}
use Rattle.counting.specs.Given.{Given}
use Rattle.procedures.specs.declared.LentDay.{LentDay}
use Rattle.procedures.specs.Procedures.{track_free, earliest, come_to, priority, select, fill_to, served_to}

-- at most 64 trains, each with a window
pub record HasWindows (d : LentDay) : Type 0 where
  pub few : d.trains ≤ 64
  pub first : d.trains ≤ length d.first.now
  pub last : d.trains ≤ length d.last.now

-- and a slot for each in the row, with a table that holds their boxes
pub record IsLent (d : LentDay) (row : List ℕ) : Type 0 where
  pub windows : HasWindows d
  pub given : Given d.trains d.width d.boxes.now row

abbrev pub boxes_of : LentDay → ℕ → ℕ → ℕ
boxes_of d = cell d.width d.boxes.now

-- ---- first come

abbrev pub open_to : LentDay → List ℕ → ℕ → ℕ → Bool
open_to d row i t = in_time d.first.now d.last.now i t && track_free d.trains d.tracks row t

abbrev pub earliest_of : LentDay → List ℕ → ℕ → ℕ
earliest_of d = earliest d.trains d.tracks d.slots d.first.now d.last.now

-- the row once all trains have come
abbrev pub come : LentDay → List ℕ
come d = come_to d.trains d.tracks d.slots d.first.now d.last.now d.trains

-- ---- myopic

abbrev pub priority_of : LentDay → List ℕ → ℕ → ℕ → ℕ
priority_of d = priority d.trains d.revisit d.split (boxes_of d)

abbrev pub select_of : LentDay → List ℕ → ℕ → ℕ → ℕ
select_of d = select d.trains d.revisit d.split (boxes_of d) d.first.now d.last.now

abbrev pub filled_of : LentDay → ℕ → List ℕ → ℕ → List ℕ
filled_of d = fill_to d.trains d.revisit d.split (boxes_of d) d.first.now d.last.now

-- the row once all slots are filled
abbrev pub served : LentDay → List ℕ
served d = served_to d.trains d.revisit d.split (boxes_of d) d.first.now d.last.now d.tracks d.slots
