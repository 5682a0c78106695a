-- The bridge to the paper's own form, the integer program of Program.antt. Its points (x, y, z) and the fitting rows of Model.antt belong together:
--     feasible-row     each feasible point gives a fitting row, with the same slots, that costs at most the objective
--     row-feasible     each fitting row, with the least y and z, is a feasible point whose objective is the row's cost
--     least-y, least-z for a fitting row, (4) holds exactly where y_i is at least ours, (5) exactly where z_ij is at least ours
-- With order 4's equation they belong to the allowed rows:
--     feasible-allowed, allowed-feasible   the same two of allowed rows
--     best-optimal     so the best plan's cost is the least objective of the program
-- The direct moves of a fitting row are the program's boxes between trains of one slot (`row-direct`).
-- Assumes nothing.
use Rattle.std.specs.Prelude.{cond, ltb}
use Prim.Native.Nat.{ℕ, ◌*◌}

-- ---- the objective

-- a term of (1)'s inner sum, of z_ij and A(i, j): it is 0 outside L_i
abbrev pub moved : ℕ → ℕ → ℕ
moved w a = cond (ltb 0 a) (w * a) 0
