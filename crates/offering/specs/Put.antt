-- A plan put at a place of the array, after those from there on have moved up.
-- Assumes nothing.
use Rattle.std.specs.Prelude.{◌≡◌, List, ℕ, suc, ◌≤◌, ◌<◌, length}
use Rattle.held_plans.specs.declared.HeldPlan.{HeldPlan}
use Rattle.held_plans.specs.Words.{plan_at}

-- those from there up to the place `upto` stand one further
pub record Put (x : HeldPlan) (a b : List HeldPlan) (place upto : ℕ) : Type 0 where
  pub long : length b ≡ length a
  pub low : (k : ℕ) → k < place → plan_at b k ≡ plan_at a k
  pub here : plan_at b place ≡ x
  pub moved : (k : ℕ) → place ≤ k → k < upto → plan_at b (suc k) ≡ plan_at a k
  pub high : (k : ℕ) → upto < k → plan_at b k ≡ plan_at a k
