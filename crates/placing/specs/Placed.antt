-- The best row behind the solved table, and what placing leaves in lent memory.
-- Assumes nothing.
use Rattle.std.specs.Prelude.{◌≡◌, Bool, true, false, List, ℕ, ◌-◌, ◌*◌, ◌^◌, ◌≤◌, ◌<◌, T, get_or, take, drop}
use Rattle.std.proofs.Math.Option.{some}
use Rattle.std.proofs.Common.{arith}
use Rattle.model.specs.Model.{Yard, NoRow}
use Rattle.model.specs.BestOf.{best_of}
use Rattle.model.proofs.BestOf.{best_is}
use Rattle.day.specs.Sound.{day_limits, sound}
use Rattle.day.specs.SoundLaws.{sound_is}
use Rattle.day.specs.Most.{cost-most}
use Rattle.optimum.specs.Layers.{Solved}
use Rattle.optimum.specs.Chosen.{row_in, Leads}
use Rattle.staging.specs.Tables.{servable, stage_key, no_cost}
use Rattle.staging.specs.Reachable.{Reachable}
use Rattle.staging.specs.KeyBySlot.{Few}
use Rattle.staging.proofs.Solution.{solution_leads, solution_best, solution_none}

-- where a row is allowed: the best one is in the first n bytes of the row, which is otherwise unchanged; of the areas only the words of the sets are used
pub record Placed (y : Yard) (size : ℕ) (cost₀ choice₀ row₀ cost choice row : List ℕ) : Type 0 where
  pub best : best_of y ≡ some (take y.trains row)
  pub rest : drop y.trains row ≡ drop y.trains row₀
  pub costs : drop size cost ≡ drop size cost₀
  pub choices : drop (y.slots * size) choice ≡ drop (y.slots * size) choice₀

-- where none is: the row is unchanged
pub record Unplaced (y : Yard) (size : ℕ) (cost₀ choice₀ row₀ cost choice row : List ℕ) : Type 0 where
  pub nowhere : NoRow y
  pub same : row ≡ row₀
  pub costs : drop size cost ≡ drop size cost₀
  pub choices : drop (y.slots * size) choice ≡ drop (y.slots * size) choice₀

abbrev pub Places : Yard → ℕ → List ℕ → List ℕ → List ℕ → List ℕ → List ℕ → List ℕ → Bool → Type 0
Places y size cost₀ choice₀ row₀ cost choice row true = Placed y size cost₀ choice₀ row₀ cost choice row
Places y size cost₀ choice₀ row₀ cost choice row false = Unplaced y size cost₀ choice₀ row₀ cost choice row

module _ {y : Yard} {size : ℕ} {cost₀ choice₀ row₀ cost choice row : List ℕ} where
  pub is_placed : (r : Bool) → Places y size cost₀ choice₀ row₀ cost choice row r → r ≡ true → Placed y size cost₀ choice₀ row₀ cost choice row
  is_placed true h e = h
  is_placed false h e = absurd (let z : ◌≡◌ {A = ℕ} 0 1 = cc in omega arith)

  pub is_unplaced : (r : Bool) → Places y size cost₀ choice₀ row₀ cost choice row r → r ≡ false → Unplaced y size cost₀ choice₀ row₀ cost choice row
  is_unplaced true h e = absurd (let z : ◌≡◌ {A = ℕ} 0 1 = cc in omega arith)
  is_unplaced false h e = h

-- ---- the value that stands for all trains decides

module _ (y : Yard) {N : ℕ} {a₀ c₀ a c : List ℕ} (s : T (sound day_limits y)) (size : N ≡ 2 ^ y.trains)
    (solved : Solved (servable y) (stage_key y) no_cost (Reachable N y.tracks) N y.slots 0 a₀ c₀ a c) where
  few : Few y
  few = let h = sound_is day_limits y s in record { trains = h.trains.1; slots = h.slots.1 }

  pub leads : get_or a (N - 1) 0 < no_cost → Leads c y.trains y.slots N (row_in c y.trains y.slots N)
  leads = solution_leads y few size solved

  pub best-found : get_or a (N - 1) 0 < no_cost → best_of y ≡ some (row_in c y.trains y.slots N)
  best-found found = best_is y (row_in c y.trains y.slots N) (solution_best y few size solved found)

  pub none_found : no_cost ≤ get_or a (N - 1) 0 → NoRow y
  none_found = solution_none y few size solved (λ row. omega (arith, cost-most y row s)) (omega arith)
