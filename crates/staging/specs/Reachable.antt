-- What can remain of all trains when j slots are passed: before the first slot all of them, and later at least as many as are left when
-- each slot has served one train to a track. The staged choices come by no other set (`reachable_closed`), so no other has a cell.
-- Assumes nothing.
use Rattle.std.specs.Prelude.{◌≡◌, refl, ℕ, suc, ◌+◌, ◌-◌, ◌*◌, ◌≤◌}
use Rattle.std.proofs.Common.{arith}
use Rattle.std.specs.Int.Count.{ones}
use Rattle.sets.specs.Subset.{Sub, ones_rest}
use Rattle.model.specs.Model.{Yard}
use Rattle.optimum.specs.Layers.{Closed}
use Rattle.staging.specs.Tables.{servable}

-- of N sets, the last of which holds all trains
pub record Reachable (N tracks j r : ℕ) : Type 0 where
  pub first : j ≡ 0 → r ≡ N - 1
  pub enough : ones (N - 1) ≤ ones r + j * tracks
