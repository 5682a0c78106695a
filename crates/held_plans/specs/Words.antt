-- The words of a partial plan as it is held (beam, HeldWords.antt), and those of the plans at the places of an array.
-- Assumes nothing.
use Rattle.std.specs.Prelude.{◌≡◌, List, [], cond, ℕ, zero, suc, ◌≤◌, ◌<◌, eqb, get_or}
use Rattle.std.proofs.Common.{sym, ap, ◌∙◌, arith, ne_eqb}
use Rattle.held_plans.specs.declared.HeldPlan.{HeldPlan}

abbrev pub word : HeldPlan → ℕ → ℕ
word p zero = p.cost
word p (suc zero) = p.revisits
word p (suc (suc zero)) = p.slot_sum
word p (suc (suc (suc j))) = cond (eqb j 12) p.rest (get_or p.unserved j 0)

-- a word of a slot
pub slot_word : (p : HeldPlan) (j : ℕ) → j < 12 → word p (suc (suc (suc j))) ≡ get_or p.unserved j 0
slot_word p j l = ap (λ b. cond b p.rest (get_or p.unserved j 0)) (ne_eqb j 12 (λ e. omega arith))

-- what stands behind the end of an array
abbrev pub no_plan : HeldPlan
no_plan = record { cost = 0; revisits = 0; slot_sum = 0; unserved = []; rest = 0 }

abbrev pub plan_at : List HeldPlan → ℕ → HeldPlan
plan_at a k = get_or a k no_plan

abbrev pub words : List HeldPlan → ℕ → ℕ → ℕ
words a k = word (plan_at a k)

-- ---- plans that agree in their first words

module _ (p q : HeldPlan) (costs : p.cost ≡ q.cost) where
  pub same_costs : (u : ℕ) → u < 1 → word p u ≡ word q u
  same_costs zero h = costs
  same_costs (suc u) h = absurd (omega arith)

  module _ (revisits : p.revisits ≡ q.revisits) where
    pub same_revisits : (u : ℕ) → u < 2 → word p u ≡ word q u
    same_revisits zero h = costs
    same_revisits (suc zero) h = revisits
    same_revisits (suc (suc u)) h = absurd (omega arith)

    -- and those of the first n slots
    pub same_slots : (n : ℕ) → p.slot_sum ≡ q.slot_sum → n ≤ 12 → ((u : ℕ) → u < n → get_or p.unserved u 0 ≡ get_or q.unserved u 0)
        → (u : ℕ) → u < suc (suc (suc n)) → word p u ≡ word q u
    same_slots n sums few same zero h = costs
    same_slots n sums few same (suc zero) h = revisits
    same_slots n sums few same (suc (suc zero)) h = sums
    same_slots n sums few same (suc (suc (suc j))) h = slot_word p j (omega arith) ∙ same j (omega arith) ∙ sym (slot_word q j (omega arith))
