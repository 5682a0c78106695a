-- The row that the choices in a workspace give. `row_in c n m N` is a function of the workspace alone, so that a call over it can promise
-- it; `Leads` says that following the choices passes through the sets of a row. Once the two loops of Layers.antt are through
-- (`Solved`), with all positions wanted at the first stage, the choices lead to the best row (`solved_leads`, `solved_best`), if there is
-- one.
-- Assumes nothing.
use Rattle.std.specs.Prelude.{◌≡◌, leb, length, drop}
use Rattle.std.proofs.Math.Path.{refl, sym, ap, ap₂}
use Rattle.std.proofs.Common.{◌∙◌, subst}
use mathlib.Core.List.{List, [], ◌∷◌}
use Prim.Native.Nat.{ℕ, zero, suc, ◌+◌, ◌-◌, ◌*◌, ◌^◌, ◌≤◌, ◌<◌}
use native.Mathlib.Omega.{arith}
use Rattle.std.proofs.Math.Pow.{pow_pos}
use Rattle.fold.specs.Listed.{listed}
use Rattle.sets.specs.Mask.{mask_lt}
use Rattle.optimum.specs.Workspace.{at}
use Rattle.sets.specs.Rest.{full}
use Rattle.optimum.specs.Schedules.{Test, Contribution}
use Rattle.optimum.specs.Stages.{tab, choice, follow}
use Rattle.optimum.specs.Layers.{Closed, Solved}
use Rattle.optimum.specs.Rows.{stage_set, remaining, Row, BestRow, row_of}
use Rattle.optimum.specs.Best.{optimum, plan}

-- ---- definitions

-- the sets that the choices in c give, for k stages from stage j + 1 on
unfoldable pub follow_in : List ℕ → ℕ → ℕ → ℕ → ℕ → List ℕ
follow_in c N zero j r = []
follow_in c N (suc k) j r = at c (j * N + r) ∷ follow_in c N k (suc j) (r - at c (j * N + r))

-- the row of n positions over m stages
unfoldable pub row_in : List ℕ → ℕ → ℕ → ℕ → List ℕ
row_in c n m N = row_of n (follow_in c N m 0 (N - 1))

pub record Leads (c : List ℕ) (n m N : ℕ) (row : List ℕ) : Type 0 where
  pub long : length row ≡ n
  pub staged : (i : ℕ) → i < n → (1 ≤ at row i) × (at row i ≤ m)
  pub chosen : (j : ℕ) → j < m → at c (j * N + remaining n row (suc j)) ≡ stage_set n row (suc j)
