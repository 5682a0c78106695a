-- What the functions over the boxes are given: at most 12 trains, and a square table of boxes that holds them.
-- Assumes nothing.
use Rattle.std.specs.Prelude.{ℕ, ◌*◌, ◌≤◌, ◌<◌, length}
use Rattle.std.proofs.Common.{arith}
use Rattle.model.specs.Model.{cell}
use Rattle.model.specs.Cells.{InTable}
use Rattle.tables.specs.declared.Supplies.{Supplies}

-- the boxes that each train receives from each
abbrev pub boxes_of : Supplies → ℕ → ℕ → ℕ
boxes_of s = cell s.width s.boxes.now

pub record Given (s : Supplies) : Type 0 where
  pub few : s.trains ≤ 12
  pub narrow : s.trains ≤ s.width
  pub whole : s.width * s.width ≤ length s.boxes.now

-- the boxes of two trains are in it
pub given_pair : {s : Supplies} {i j : ℕ} → Given s → i < s.trains → j < s.trains → InTable s.width s.boxes.now i j
given_pair g a b =
    let narrow = g.narrow in
    record { row = omega arith; column = omega arith; whole = g.whole }
