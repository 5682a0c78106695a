-- What the functions over slices are given: n trains, at most 64, a table of boxes that holds them, and a slot for each.
-- Assumes nothing.
use Rattle.std.specs.Prelude.{List, ℕ, ◌*◌, ◌≤◌, ◌<◌, length}
use Rattle.std.proofs.Common.{arith}
use Rattle.model.specs.Cells.{InTable}

pub record Given (n width : ℕ) (boxes row : List ℕ) : Type 0 where
  pub few : n ≤ 64
  pub narrow : n ≤ width
  pub whole : width * width ≤ length boxes
  pub long : n ≤ length row

-- of two trains
pub record GivenPair (width : ℕ) (boxes row : List ℕ) (i j : ℕ) : Type 0 where
  pub table : InTable width boxes i j
  pub to : i < length row
  pub from : j < length row

pub given_pair : {n width : ℕ} {boxes row : List ℕ} {i j : ℕ} → Given n width boxes row → i < n → j < n → GivenPair width boxes row i j
given_pair g a b =
    let few = g.narrow in
    let long = g.long in
    record { table = record { row = omega arith; column = omega arith; whole = g.whole }; to = omega arith; from = omega arith }
