-- The loop through the slots: the plans kept after the slots passed are held, and the slots after which more remained are counted.
-- Assumes nothing.
use Rattle.std.specs.Prelude.{◌≡◌, ℕ, suc, ◌+◌, ◌≤◌, ◌<◌, ltb, length}
use Rattle.std.proofs.Common.{sym, ap, subst, add-one, le_antisymm, arith}
use mathlib.Core.List.Memᴰ
use mathlib.Core.List.{List, [], ◌∷◌, Memᴰ}
use Rattle.fold.specs.Fold.{bit, count, count_none, count_next}
use Rattle.model.specs.Model.{Yard}
use Rattle.feasibility.specs.Bound.{Windows, Spacious}
use Rattle.beam.specs.Beam.{Plan, remained, kept, full_slots}
use Rattle.beam.proofs.Result.{some-kept}
use Rattle.candidates.specs.declared.DayTables.{DayTables}
use Rattle.candidates.specs.Given.{Trains, yard_in}
use Rattle.held_plans.specs.declared.Held.{Held}
use Rattle.held_plans.specs.declared.HeldPlan.{HeldPlan}
use Rattle.held_plans.specs.Words.{plan_at}
use Rattle.set_serving.specs.Serving.{Right, PlanAt}
use Rattle.slot_serving.specs.Serving.{HoldsKept}
use Rattle.beam_search.specs.Start.{start_keeps}

-- after t slots
pub record After (y : Yard) (width t : ℕ) (h : Held) (full-slots : ℕ) : Type 0 where
  pub plans : HoldsKept y width t h
  pub full : full-slots ≡ count t λ u. ltb width (length (remained y width (suc u)))

module _ (y : Yard) (width : ℕ) where
  pub after_none : (h : Held) → HoldsKept y width 0 h → After y width 0 h 0
  after_none h holds = record { plans = holds; full = sym (count_none λ u. ltb width (length (remained y width (suc u)))) }

  pub after_next : (t : ℕ) {h h' : Held} {f f' : ℕ} → After y width t h f → f' ≡ f + bit h'.dropped
      → HoldsKept y width (suc t) h' × (h'.dropped ≡ ltb width (length (remained y width (suc t)))) → After y width (t + 1) h' f'
  after_next t {h} {h'} {f} {f'} before e next = record {
    plans = subst (λ k. HoldsKept y width k h') (sym (add-one t)) next.0;
    full = omega (arith, e, before.full, ap bit next.1, count_next t (λ u. ltb width (length (remained y width (suc u)))));
  }

-- what the search finds: the first plan after the last slot, and the count
pub record Finds (y : Yard) (width : ℕ) (w : HeldPlan) (full-slots : ℕ) : Type 0 where
  pub plan : PlanAt y width y.slots 0 w
  pub full : full-slots ≡ full_slots y width

pub after_all : (y : Yard) → Windows y → Spacious y → (width : ℕ) → 1 ≤ width → (t : ℕ) (h : Held) (full-slots : ℕ) → t ≤ y.slots → y.slots ≤ t
    → After y width t h full-slots → Finds y width (plan_at h.plans 0) full-slots
unfolding full_slots
after_all y windows spacious width wide t h full-slots l m after =
    let (p, at) = some-kept y width windows wide (start_keeps y windows spacious width wide) y.slots (omega arith) in
    let now : After y width y.slots h full-slots = subst (λ k. After y width k h full-slots) (le_antisymm l m) after in
    let inside : 0 < length (kept y width y.slots) = some-length (kept y width y.slots) p at in
    record { plan = record { inside = inside; words = λ c n. now.plans.holds 0 c inside n }; full = now.full }
  where
    some-length : (l : List Plan) (p : Plan) → Memᴰ p l → 0 < length l
    some-length [] p at = absurd (Memᴰ.not-nil at)
    some-length (q ∷ l) p at = omega arith

-- ---- for every day of these windows, numbers, boxes and tables

-- what the search does not read of a day
pub record Labels : Type 0 where
  pub numbers : List ℕ
  pub groups : List ℕ

abbrev pub trains_of : Labels → List ℕ → List ℕ → Trains
trains_of labels first last = record { numbers = labels.numbers; groups = labels.groups; first = first; last = last }

abbrev pub day_in : DayTables → Labels → List ℕ → List ℕ → Yard
day_in f labels first last = yard_in f (trains_of labels first last)

abbrev pub SearchAfter : DayTables → List ℕ → List ℕ → ℕ → Held → ℕ → Type 0
SearchAfter f first last t h full-slots =
    (labels : Labels) → Right f (trains_of labels first last) → Windows (day_in f labels first last)
    → After (day_in f labels first last) f.sizes.width t h full-slots

abbrev pub SearchFinds : DayTables → List ℕ → List ℕ → HeldPlan → ℕ → Type 0
SearchFinds f first last w full-slots =
    (labels : Labels) → Right f (trains_of labels first last) → Windows (day_in f labels first last)
    → Finds (day_in f labels first last) f.sizes.width w full-slots
