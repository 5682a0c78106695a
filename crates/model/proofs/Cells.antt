-- Laws of Cells.antt of specs/.
-- A square table that is stored row after row: where an entry stands.
-- Assumes nothing.
use Rattle.std.specs.Prelude.{List, ℕ, ◌+◌, ◌*◌, ◌<◌, length}
use Rattle.std.proofs.Common.{arith}
use Rattle.std.proofs.Math.Arith.{digits_lt}
use Rattle.model.specs.Cells.{InTable}

pub cell_index : {width : ℕ} {table : List ℕ} {i j : ℕ} → InTable width table i j → i * width + j < length table
cell_index {width} {table} {i} {j} t = let h = digits_lt {q = i} {m = width} {r = j} {c = width} t.row t.column in omega arith
