-- The state of the loop through the successors of one slot, (`Gathering`): the array, the count and the flag are what came of the
-- successors that are done. Its turns: the plan is offered, or there is no room and it comes before none, or it may not be served; and the end
-- of the slot.
-- Assumes nothing.
use Rattle.std.specs.Prelude.{◌≡◌, refl, Bool, true, false, ◌⊎◌, ℕ, suc, ◌-◌, ◌≤◌, ◌<◌, T, ltb, length}
use Rattle.std.proofs.Math.Path.{sym}
use Rattle.std.proofs.Common.{ap, ◌∙◌, subst, subst₂}
use Rattle.std.proofs.Math.Logic.{⊎_elim}
use mathlib.Core.List.{List, [], ◌∷◌, Memᴰ}
use native.Mathlib.Omega.{arith}
use Rattle.std.proofs.Math.ListN.{get_or}
use Rattle.fold.specs.Test.{of_false}
use Rattle.sets.specs.Subset.{Sub}
use Rattle.model.specs.Model.{Yard}
use Rattle.model.proofs.Order.{key_cases}
use Rattle.merging.proofs.Streaming.{last_decides}
use Rattle.beam.specs.Beam.{Plan, rest, cost_so_far, comes_before, may_serve, remained, kept}
use Rattle.beam.specs.Paths.{Path}
use Rattle.beam.proofs.Paths.{set_le}
use Rattle.beam.proofs.Successors.{plans_order, kept_of, remained_path}
use Rattle.beam.specs.Words.{word_of, OfTrains}
use Rattle.beam.proofs.Words.{of_trains_next}
use Rattle.beam.specs.HeldWords.{held_word, Holds, held_before}
use Rattle.beam.proofs.HeldWords.{held_before_lem}
use Rattle.beam.specs.Gathering.{from, Gathered, And}
use Rattle.beam.proofs.Gathering.{at_place, gathered_none, gathered_skip, gathered_add, gathered_reject, gathered_kept}
use Rattle.held_plans.specs.declared.Held.{Held}
use Rattle.held_plans.specs.declared.HeldPlan.{HeldPlan}
use Rattle.held_plans.specs.Words.{word, plan_at, words}
use Rattle.offering.specs.Offered.{Offered}
use Rattle.gathering.specs.Kept.{next_path, gathered_ordered, gathered_few, gathered_path}
use Rattle.gathering.specs.Joining.{offered_is}

pub record Gathering (y : Yard) (width t : ℕ) (done : ℕ → ℕ → Type 0) (a : List HeldPlan) (count : ℕ) (dropped : Bool) : Type 0 where
  pub plans : List Plan
  pub many : length plans ≡ count
  pub holds : Holds y (words a) plans
  pub gathered : Gathered y width t done plans dropped

-- what is held is so
abbrev pub Gathers : Yard → ℕ → ℕ → (ℕ → ℕ → Type 0) → Held → Type 0
Gathers y width t done h = Gathering y width t done h.plans h.count h.dropped

-- all sets of the plans before place k are done
abbrev pub Before : ℕ → ℕ → ℕ → Type 0
Before k k' s' = k' < k

-- and those above s of the plan at place k
abbrev pub Passed : ℕ → ℕ → ℕ → ℕ → Type 0
Passed k s k' s' = (k' < k) ⊎ ((k' ≡ k) × (s < s'))

-- w has the words of a plan
abbrev pub Words : Yard → Plan → HeldPlan → Type 0
Words y p w = (c : ℕ) → c < 16 → word w c ≡ held_word y p c

module _ (y : Yard) (width t : ℕ) where
  pub gathering_none : (a : List HeldPlan) → Gathering y width t (Before 0) a 0 false
  gathering_none a = record { plans = []; many = refl; holds = λ k c m n. absurd (omega arith); gathered = gathered_none y width t (Before 0) (λ k s d. omega arith) }

  module _ {done : ℕ → ℕ → Type 0} {a : List HeldPlan} {count : ℕ} {dropped : Bool} (g : Gathering y width t done a count dropped) where
    pub gathering_also : (done' : ℕ → ℕ → Type 0) → ((k s : ℕ) → k < length (kept y width t) → done' k s → T (may_serve y (suc t) (rest y (from y width t k)) s) → done k s)
        → Gathering y width t done' a count dropped
    gathering_also done' before = record { plans = g.plans; many = g.many; holds = g.holds; gathered = gathered_skip y width t done done' g.plans dropped before g.gathered }

    -- the plans that are held are of sets of the day's trains
    trains : (k : ℕ) → k < length g.plans → OfTrains y (get_or g.plans k [])
    trains k m = set_le y (get_or g.plans k []) (gathered_path y width t g.gathered (get_or g.plans k []) (at_place g.plans [] k m))

    -- the set s after the plan at place k of those kept
    module _ (k s : ℕ) (inside : k < length (kept y width t)) where
      abbrev p : Plan
      p = from y width t k

      among : Memᴰ p (kept y width t)
      among = at_place (kept y width t) [] k inside

      -- no room, one was dropped, and the plan does not come before the last one held
      rejected : dropped ≡ true → count ≡ width → 1 ≤ width → (T (comes_before y (s ∷ p) (get_or g.plans (count - 1) [])) → ⊥) → Gathering y width t (And y width t done k s) a count dropped
      rejected full long wide later = record {
        plans = g.plans;
        many = g.many;
        holds = g.holds;
        gathered =
            gathered_reject y width t done g.plans dropped k s inside g.gathered full (g.many ∙ long)
            (last_decides (rest y) (comes_before y) (plans_order y) (s ∷ p) [] g.plans (count - 1) (gathered_ordered y width t g.gathered) (omega (arith, g.many)) later);
      }

      -- it costs more than that one
      pub gathering_dearer : dropped ≡ true → count ≡ width → 1 ≤ width → (plan_at a (count - 1)).cost < cost_so_far y (s ∷ p) → Gathering y width t (And y width t done k s) a count dropped
      unfolding held_word word_of comes_before
      gathering_dearer full long wide dearer =
          let last : (plan_at a (count - 1)).cost ≡ cost_so_far y (get_or g.plans (count - 1) []) = g.holds (count - 1) 0 (omega (arith, g.many)) (omega arith) in
          let less : cost_so_far y (get_or g.plans (count - 1) []) < cost_so_far y (s ∷ p) = omega (arith, dearer, last) in
          rejected full long wide
          (λ t. ⊎_elim (λ l. omega arith) (λ e. let same = e.0 in omega arith) (key_cases (cost_so_far y) _ (s ∷ p) (get_or g.plans (count - 1) []) t))

      -- w has the words of the plan with the set
      module _ (few : y.slots ≤ 12) (w : HeldPlan) (own : Words y (s ∷ from y width t k) w) where
        pub gathering_offered : {b : List HeldPlan} {count' : ℕ} {dropped' : Bool} → T (may_serve y (suc t) (rest y p) s)
            → Offered w a count dropped width y.slots b count' dropped' → Gathering y width t (And y width t done k s) b count' dropped'
        gathering_offered {b} {count'} {dropped'} may o =
            let path : Path y (s ∷ p) = next_path y width t p s among may in
            let now : Offered w a (length g.plans) dropped width y.slots b count' dropped' =
            subst (λ n. Offered w a n dropped width y.slots b count' dropped') (sym g.many) o in
            let j =
            offered_is y few width g.plans (gathered_ordered y width t g.gathered) (gathered_few y width t g.gathered) trains a g.holds
            (s ∷ p) w own (set_le y (s ∷ p) path) dropped b count' dropped' now in
            record {
              plans = _;
              many = j.many;
              holds = j.holds;
              gathered = subst (Gathered y width t (And y width t done k s) _) j.flag (gathered_add y width t done g.plans dropped k s inside g.gathered may);
            }

        pub gathering_later : dropped ≡ true → count ≡ width → 1 ≤ width → Sub s (rest y p) → held_before y.slots (word w) (words a) (count - 1) ≡ false
            → Gathering y width t (And y width t done k s) a count dropped
        gathering_later full long wide within later =
            let path = (remained_path y width t p (kept_of y width t p among)).0 in
            let last : held_before y.slots (word w) (words a) (count - 1) ≡ comes_before y (s ∷ p) (get_or g.plans (count - 1) []) =
            held_before_lem y (words a) g.plans g.holds (word w) (s ∷ p) own few (of_trains_next y p s path within) trains (count - 1) (omega (arith, g.many)) in
            rejected full long wide (of_false (sym last ∙ later))

    pub gathering_barred : (k s : ℕ) → (T (may_serve y (suc t) (rest y (from y width t k)) s) → ⊥) → Gathering y width t (And y width t done k s) a count dropped
    gathering_barred k s bar =
        gathering_also (And y width t done k s)
        (λ k' s' m d may. ⊎_elim (λ e. e) (λ e. absurd (bar (subst₂ (λ a b. T (may_serve y (suc t) (rest y (from y width t a)) b)) e.0 e.1 may))) d)

    -- when all plans are done
    pub gathering_kept : suc t ≤ y.slots → ((k s : ℕ) → k < length (kept y width t) → done k s)
        → Holds y (words a) (kept y width (suc t)) × (count ≡ length (kept y width (suc t))) × (dropped ≡ ltb width (length (remained y width (suc t))))
    gathering_kept h every =
        let (is, flag) = gathered_kept y width t done g.plans dropped h (λ k s m may. every k s m) g.gathered in
        (subst (Holds y (words a)) is g.holds, sym g.many ∙ ap length is, flag)
