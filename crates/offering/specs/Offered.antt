-- What comes of a plan that is offered to those that are held in the array.
-- Assumes nothing.
use Rattle.std.specs.Prelude.{◌≡◌, Bool, true, List, ℕ, ◌+◌, ◌-◌, ◌≤◌, ◌<◌, eqb}
use Rattle.std.proofs.Common.{subst, subst₂, arith}
use Rattle.fold.specs.Fold.{lowest_le}
use Rattle.beam.specs.HeldWords.{held_before}
use Rattle.held_plans.specs.declared.Held.{Held}
use Rattle.held_plans.specs.declared.HeldPlan.{HeldPlan}
use Rattle.held_plans.specs.Words.{word, plan_at, words}
use Rattle.held_plans.specs.Placed.{rest_place, plan_place}
use Rattle.offering.specs.Put.{Put}

-- of the plans a, the count and the flag before, and those after
pub data Offered (x : HeldPlan) (a : List HeldPlan) (count : ℕ) (dropped : Bool) (width slots : ℕ) : List HeldPlan → ℕ → Bool → Type 0 where
  -- one that leaves the same stands earlier
  stays : rest_place a count x.rest < plan_place slots a count x → Offered x a count dropped width slots a count dropped
  -- one that leaves the same stands later, or here: it goes
  replaces : {b : List HeldPlan} → plan_place slots a count x ≤ rest_place a count x.rest → rest_place a count x.rest < count
      → Put x a b (plan_place slots a count x) (rest_place a count x.rest) → Offered x a count dropped width slots b count dropped
  -- none leaves the same: there is room; or the last one is dropped; or the plan itself is
  joins : {b : List HeldPlan} → rest_place a count x.rest ≡ count → count < width
      → Put x a b (plan_place slots a count x) count → Offered x a count dropped width slots b (count + 1) dropped
  pushes : {b : List HeldPlan} → rest_place a count x.rest ≡ count → width ≤ count → plan_place slots a count x < count
      → Put x a b (plan_place slots a count x) (count - 1) → Offered x a count dropped width slots b count true
  drops : rest_place a count x.rest ≡ count → width ≤ count → plan_place slots a count x ≡ count → Offered x a count dropped width slots a count true

abbrev pub Offers : HeldPlan → Held → ℕ → ℕ → Held → Type 0
Offers x h width slots h' = Offered x h.plans h.count h.dropped width slots h'.plans h'.count h'.dropped

-- ---- from the places that code finds

-- a place is no further than the end
at_end : (a : List HeldPlan) (count r same : ℕ) → same ≡ rest_place a count r → count ≤ same → rest_place a count r ≡ count
at_end a count r same e l = omega (arith, lowest_le count (λ k. eqb (plan_at a k).rest r))

module _ {x : HeldPlan} {a : List HeldPlan} {count : ℕ} {dropped : Bool} {width slots same place : ℕ}
    (e : same ≡ rest_place a count x.rest) (f : place ≡ plan_place slots a count x) where
  pub offered_stays : same < place → Offered x a count dropped width slots a count dropped
  offered_stays l = stays (omega arith)

  pub offered_replaces : {b : List HeldPlan} → place ≤ same → same < count → Put x a b place same → Offered x a count dropped width slots b count dropped
  offered_replaces {b} l h p = replaces (omega arith) (omega arith) (subst₂ (Put x a b) f e p)

  pub offered_joins : {b : List HeldPlan} → count ≤ same → count < width → Put x a b place count → Offered x a count dropped width slots b (count + 1) dropped
  offered_joins {b} l h p = joins (at_end a count x.rest same e l) h (subst (λ k. Put x a b k count) f p)

  pub offered_pushes : {b : List HeldPlan} → count ≤ same → width ≤ count → place < count → Put x a b place (count - 1) → Offered x a count dropped width slots b count true
  offered_pushes {b} l h m p = pushes (at_end a count x.rest same e l) h (omega arith) (subst (λ k. Put x a b k (count - 1)) f p)

  pub offered_drops : count ≤ same → width ≤ count → count ≤ place → Offered x a count dropped width slots a count true
  offered_drops l h m = drops (at_end a count x.rest same e l) h (omega (arith, lowest_le count (held_before slots (word x) (words a))))
