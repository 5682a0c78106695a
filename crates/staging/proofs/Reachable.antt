-- Laws of Reachable.antt of specs/.
-- What can remain of all trains when j slots are passed: before the first slot all of them, and later at least as many as are left when
-- each slot has served one train to a track. The staged choices come by no other set (`reachable_closed`), so no other has a cell.
-- Assumes nothing.
use Rattle.std.specs.Prelude.{◌≡◌, refl, ℕ, suc, ◌+◌, ◌-◌, ◌*◌, ◌≤◌}
use Rattle.std.proofs.Common.{arith}
use Rattle.std.specs.Int.Count.{ones}
use Rattle.sets.specs.Subset.{Sub, ones_rest}
use Rattle.model.specs.Model.{Yard}
use Rattle.optimum.specs.Layers.{Closed}
use Rattle.staging.specs.Tables.{servable}
use Rattle.staging.proofs.Serving.{servable_is}
use Rattle.staging.specs.Reachable.{Reachable}

pub reachable_all : (N tracks : ℕ) → Reachable N tracks 0 (N - 1)
reachable_all N tracks = record { first = λ e. refl; enough = omega arith }

pub reachable_next : {N tracks j r : ℕ} (s : ℕ) → Reachable N tracks j r → Sub s r → ones s ≤ tracks → Reachable N tracks (suc j) (r - s)
reachable_next {r = r} s h hs l = record { first = λ e. absurd (omega arith); enough = omega (arith, h.enough, ones_rest s r hs) }

pub reachable_closed : (y : Yard) (N : ℕ) → Closed (servable y) (Reachable N y.tracks)
reachable_closed y N j r s h hs may =
    reachable_next s h hs (servable_is y (suc j) r s may).room
