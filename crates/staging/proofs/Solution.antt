-- Behind the loops over stages and sets, solved for what can remain of the day's trains: where a value below `inf` stands for all trains, it
-- is that of the best plan, to which the choices lead (`solution_best`); where none does, and every cost fits 32 bits, no row is
-- allowed (`solution_none`).
-- Assumes nothing.
use Rattle.std.specs.Prelude.{◌≡◌, List, ℕ, ◌-◌, ◌^◌, ◌≤◌, ◌<◌, get_or}
use Rattle.std.proofs.Common.{ap, subst, arith}
use Rattle.sets.specs.Rest.{full}
use Rattle.model.specs.Model.{Yard, cost, Best, NoRow}
use Rattle.optimum.specs.Layers.{Closed, Solved}
use Rattle.optimum.specs.Best.{optimum}
use Rattle.optimum.proofs.Best.{optimum_lower}
use Rattle.optimum.specs.Chosen.{row_in, Leads}
use Rattle.optimum.proofs.Chosen.{solved_value, solved_leads, solved_best}
use Rattle.staging.specs.Tables.{servable, keys_below, stage_key}
use Rattle.staging.specs.Reachable.{Reachable}
use Rattle.staging.proofs.Reachable.{reachable_all, reachable_closed}
use Rattle.staging.proofs.AllowedRows.{allowed-row}
use Rattle.staging.specs.KeyBySlot.{Few}
use Rattle.staging.proofs.KeyBySlot.{key_low}
use Rattle.staging.proofs.BestPlan.{day_key, best_plan_lem}

module _ (y : Yard) (few : Few y) {a₀ c₀ a c : List ℕ} {inf N : ℕ} (size : N ≡ 2 ^ y.trains)
    (solved : Solved (servable y) (stage_key y) inf (Reachable N y.tracks) N y.slots 0 a₀ c₀ a c) where
  closed : Closed (servable y) (Reachable N y.tracks)
  closed = reachable_closed y N

  top : Reachable N y.tracks 0 (full y.trains)
  top = subst (Reachable N y.tracks 0) (ap (λ x. x - 1) size) (reachable_all N y.tracks)

  value : get_or a (N - 1) 0 ≡ optimum (servable y) (stage_key y) inf y.trains y.slots
  value = solved_value y.trains size closed top solved

  module _ (found : get_or a (N - 1) 0 < inf) where
    some : optimum (servable y) (stage_key y) inf y.trains y.slots < inf
    some = omega (arith, value)

    pub solution_leads : Leads c y.trains y.slots N (row_in c y.trains y.slots N)
    solution_leads = solved_leads y.trains size closed top solved some

    pub solution_best : Best y (row_in c y.trains y.slots N)
    solution_best = best_plan_lem y few (row_in c y.trains y.slots N) (solved_best y.trains size closed top solved some)

  pub solution_none : ((row : List ℕ) → cost y row < 2 ^ 32) → keys_below ≤ inf → inf ≤ get_or a (N - 1) 0 → NoRow y
  solution_none cheap high missing row h =
      let o = allowed-row y row h in
      omega (arith, value, optimum_lower (servable y) (stage_key y) inf y.trains y.slots row o, day_key y o, key_low y few row o.staged (cheap row))
