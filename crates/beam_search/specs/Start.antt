-- The plan that serves nobody: the one kept before the first slot.
-- Assumes nothing.
use Rattle.std.specs.Prelude.{◌≡◌, ◌≢◌, refl, Bool, true, false, cond, ℕ, zero, suc, ◌-◌, ◌≤◌, ◌<◌, T, eqb, length, get_or}
use Rattle.std.proofs.Common.{sym, ◌∙◌, subst, ⊎_elim, arith}
use Rattle.std.proofs.Math.Path.{ap}
use mathlib.Core.List.{[], ◌∷◌}
use Rattle.std.proofs.Math.ListN.{take}
use Rattle.std.proofs.Math.Seq.{take_all}
use Rattle.fold.specs.Counting.{same_or}
use Rattle.fold.specs.Test.{is_false}
use Rattle.sets.specs.Rest.{full}
use Rattle.model.specs.Model.{Yard}
use Rattle.feasibility.specs.Bound.{Windows, Spacious}
use Rattle.feasibility.proofs.RowExists.{row_exists}
use Rattle.beam.specs.Beam.{rest, cost_so_far, revisits_so_far, slots_so_far, set_in, discarded, remained, kept}
use Rattle.beam.proofs.RowPlans.{start_kept}
use Rattle.beam.specs.Words.{word_of}
use Rattle.beam.specs.HeldWords.{held_word, Holds}
use Rattle.held_plans.specs.declared.Held.{Held}
use Rattle.held_plans.specs.declared.HeldPlan.{HeldPlan}
use Rattle.held_plans.specs.Words.{word, slot_word, plan_at, words}
use Rattle.gathering.specs.Each.{Each}
use Rattle.gathering.specs.Gathering.{Words}
use Rattle.candidates.specs.Words.{LowPlan}
use Rattle.slot_serving.specs.Serving.{HoldsKept}

-- no cost, no revisits, no slots; no train in a slot, and all remain
pub record StartPlan (all : ℕ) (w : HeldPlan) : Type 0 where
  pub costs : w.cost ≡ 0
  pub revisits : w.revisits ≡ 0
  pub slots : w.slot_sum ≡ 0
  pub sets : (j : ℕ) → j < 12 → get_or w.unserved j 0 ≡ all
  pub remaining : w.rest ≡ all

-- what is held before the first slot
pub record Starts (all : ℕ) (h : Held) : Type 0 where
  pub one : h.count ≡ 1
  pub first : StartPlan all (plan_at h.plans 0)

start_words : (y : Yard) (w : HeldPlan) → StartPlan (full y.trains) w → Words y [] w
unfolding held_word word_of rest cost_so_far revisits_so_far slots_so_far set_in
start_words y w s zero m = s.costs
start_words y w s (suc zero) m = s.revisits
start_words y w s (suc (suc zero)) m = s.slots
start_words y w s (suc (suc (suc j))) m = word_is ∙ sym (same (eqb (suc (suc (suc j))) 15))
  where
    same : (b : Bool) → cond b (full y.trains) (full y.trains - 0) ≡ full y.trains
    same true = refl
    same false = omega arith

    word_is : word w (suc (suc (suc j))) ≡ full y.trains
    word_is =
        ⊎_elim (λ (last : j ≡ 12). subst (λ k. word w (suc (suc (suc k))) ≡ full y.trains) (sym last) s.remaining)
        (λ (slot : j ≢ 12). slot_word w j (omega arith) ∙ s.sets j (omega arith)) (same_or j 12)

low_plan : (n : ℕ) (w : HeldPlan) → StartPlan (full n) w → LowPlan n 0 w
low_plan n w s = record {
  low_cost = omega (arith, s.costs);
  few_revisits = omega (arith, s.revisits);
  low_sum = omega (arith, s.slots);
  sets = λ j l. omega (arith, s.sets j l);
  remaining = omega (arith, s.remaining);
}

pub start_low : (n : ℕ) (h : Held) → Starts (full n) h → Each (LowPlan n 0) h.plans h.count
start_low n h s k l =
    let first : 0 ≡ k = omega (arith, s.one) in
    subst (λ i. LowPlan n 0 (plan_at h.plans i)) first (low_plan n (plan_at h.plans 0) s.first)

module _ (y : Yard) (windows : Windows y) (spacious : Spacious y) (width : ℕ) (wide : 1 ≤ width) where
  pub start_keeps : T (discarded y 0 (full y.trains)) → ⊥
  start_keeps = let (row, ok) = row_exists y windows spacious in start_kept y row ok

  kept_start : kept y width 0 ≡ [] ∷ []
  unfolding kept remained
  kept_start = ap (λ b. take width (cond b [] ([] ∷ []))) (is_false (discarded y 0 (full y.trains)) start_keeps) ∙ take_all width ([] ∷ []) wide

  pub start_holds : (h : Held) → Starts (full y.trains) h → HoldsKept y width 0 h
  start_holds h s = record {
    many = s.one ∙ sym (ap length kept_start);
    holds = subst (Holds y (words h.plans)) (sym kept_start) only;
  }
    where
      only : Holds y (words h.plans) ([] ∷ [])
      only zero c l m = start_words y (plan_at h.plans 0) s.first c m
      only (suc k) c l m = absurd (omega arith)
