-- The walk through the sets of one plan, from the plan: where it begins, its next set, its end. And the plans of one slot, one
-- after another.
-- Assumes nothing.
use Rattle.std.specs.Prelude.{◌≡◌, ℕ, suc, ◌+◌, ◌≤◌, ◌<◌, ltb, length}
use Rattle.std.proofs.Common.{sym, ap₂, subst, add-one, arith}
use Rattle.std.specs.Int.Bits.{bit_and}
use Rattle.sets.specs.Subset.{Sub, walk, sub_trans, sub_and}
use Rattle.sets.specs.Rest.{meet_left}
use Rattle.model.specs.Model.{Yard}
use Rattle.staging.specs.Tables.{open_in}
use Rattle.beam.specs.Beam.{remained, kept}
use Rattle.beam.specs.Gathering.{from, And}
use Rattle.set_costs.specs.Sets.{Trimmed}
use Rattle.held_plans.specs.declared.Held.{Held}
use Rattle.held_plans.specs.declared.HeldPlan.{HeldPlan}
use Rattle.held_plans.specs.Words.{plan_at}
use Rattle.gathering.specs.Gathering.{Gathers, Before, Passed, gathering_kept}
use Rattle.gathering.specs.Walking.{ready, walk_begins, walk_goes_on, walk_ends}
use Rattle.set_serving.specs.Serving.{PlanAt}
use Rattle.slot_serving.specs.Serving.{HoldsKept}
use Rattle.set_serving.specs.Turns.{rest-word}

module _ (y : Yard) (width t k : ℕ) (w : HeldPlan) (plan : PlanAt y width t k w) (now : ℕ) (now-is : now ≡ open_in y.trains y.first y.last (suc t)) where
  -- the trains that the plan can serve
  can_is : bit_and w.rest now ≡ ready y width t k
  can_is = ap₂ bit_and (rest-word y (from y width t k) w plan.words) now-is

  pub in_windows : (s : ℕ) → Sub s (bit_and w.rest now) → Sub s (open_in y.trains y.first y.last (suc t))
  in_windows s within = subst (Sub s) now-is (sub_trans s (bit_and w.rest now) now within (sub_and w.rest now))

  module _ {h : Held} (s : ℕ) where
    pub sets_begin : Trimmed y.tracks (bit_and w.rest now) s → Gathers y width t (Before k) h → Gathers y width t (Passed k s) h
    sets_begin trim g = walk_begins y width t k s (subst (λ c. Trimmed y.tracks c s) can_is trim) g

    pub sets_go_on : (next : ℕ) → Sub s (bit_and w.rest now) → Trimmed y.tracks (walk s (bit_and w.rest now)) next
        → Gathers y width t (And y width t (Passed k s) k s) h → Gathers y width t (Passed k next) h
    sets_go_on next within trim g =
        walk_goes_on y width t k s next (subst (Sub s) can_is within) (subst (λ c. Trimmed y.tracks (walk s c) next) can_is trim) g

    pub sets_end : s ≡ 0 → Gathers y width t (And y width t (Passed k s) k s) h → Gathers y width t (Before (suc k)) h
    sets_end e g = walk_ends y width t k s e g

-- a subset of what the plan can serve is one of what remains
pub of_rest : (s r now : ℕ) → Sub s (bit_and r now) → Sub s r
of_rest s r now within = sub_trans s (bit_and r now) r within (meet_left r now)

-- ---- the plans of a slot

-- the plan at place k of those held
pub is_plan_at : (y : Yard) (width t k : ℕ) (h : Held) → HoldsKept y width t h → k < h.count → PlanAt y width t k (plan_at h.plans k)
is_plan_at y width t k h holds l =
    let inside : k < length (kept y width t) = omega (arith, holds.many) in
    record { inside = inside; words = λ c m. holds.holds k c inside m }

-- as the loop counts
pub plans_go_on : {y : Yard} {width t : ℕ} {h : Held} (k : ℕ) → Gathers y width t (Before (suc k)) h → Gathers y width t (Before (k + 1)) h
plans_go_on {y} {width} {t} {h} k g = subst (λ i. Gathers y width t (Before i) h) (sym (add-one k)) g

-- all are done
pub slot_ends : (y : Yard) (width t k : ℕ) (h : Held) {h' : Held} → HoldsKept y width t h → suc t ≤ y.slots → h.count ≤ k
    → Gathers y width t (Before k) h' → HoldsKept y width (suc t) h' × (h'.dropped ≡ ltb width (length (remained y width (suc t))))
slot_ends y width t k h holds slot all g =
    let (next, many, flag) = gathering_kept y width t g slot (λ i s l. omega (arith, holds.many)) in
    (record { many = many; holds = next }, flag)
