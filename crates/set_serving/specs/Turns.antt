-- One set of one plan: it costs too much or comes too late, or what it leaves is discarded, or it is offered.
-- Assumes nothing.
use Rattle.std.specs.Prelude.{◌≡◌, Bool, true, false, List, ◌∷◌, ℕ, suc, ◌+◌, ◌-◌, ◌*◌, ◌^◌, ◌≤◌, ◌<◌, T, ltb, length}
use Rattle.std.proofs.Common.{sym, ap, ◌∙◌, subst, subst₂, add-one, arith}
use Rattle.std.proofs.Math.Path.{ap₂}
use Rattle.std.specs.Int.Bits.{bit_and}
use Rattle.std.specs.Int.Count.{ones}
use Rattle.fold.specs.Fold as Fold
use Rattle.fold.specs.Sums.{some_ext}
use Rattle.fold.specs.Test.{of_true, of_false}
use Rattle.sets.specs.Subset.{Sub}
use Rattle.model.specs.Model.{Yard}
use Rattle.optimum.specs.Workspace.{at}
use Rattle.staging.specs.Tables.{open_in, slot_cost}
use Rattle.beam.specs.Beam.{Plan, rest, cost_so_far, discarded, may_serve, kept}
use Rattle.beam.proofs.Paths.{rest_lt, is_fits, may_serve_lem, serves}
use Rattle.beam.specs.Words.{word_of}
use Rattle.beam.specs.HeldWords.{held_word, held_before}
use Rattle.beam.specs.Shortcuts.{ends_by}
use Rattle.beam.proofs.Shortcuts.{discarded_is}
use Rattle.beam.specs.Gathering.{from, And}
use Rattle.beam.proofs.Gathering.{at_place}
use Rattle.beam.proofs.Successors.{kept_of, remained_path}
use Rattle.held_plans.specs.declared.Held.{Held}
use Rattle.held_plans.specs.declared.HeldPlan.{HeldPlan}
use Rattle.held_plans.specs.Words.{word, plan_at, words}
use Rattle.offering.specs.Offered.{Offers}
use Rattle.gathering.specs.Gathering.{Gathers, Passed, Words, gathering_dearer, gathering_offered, gathering_later, gathering_barred}
use Rattle.candidates.specs.declared.Sizes.{Sizes}
use Rattle.candidates.specs.declared.DayTables.{DayTables}
use Rattle.candidates.specs.Given.{Trains, yard_in, late_of, price_of}
use Rattle.candidates.specs.Words.{WithSet, with_words}
use Rattle.set_serving.specs.Serving.{Right, PlanAt, IsFull}

-- what code tests: for some slot from t on, too many of r end by it
abbrev pub crowded_from : Sizes → List ℕ → ℕ → ℕ → Bool
crowded_from z ends t r = Fold.some (suc (z.slots - t)) (λ d. ltb (z.tracks * d) (ones (bit_and r (at ends (t + d)))))

-- what remains
pub rest-word : (y : Yard) (p : Plan) (w : HeldPlan) → Words y p w → w.rest ≡ rest y p
unfolding held_word
rest-word y p w own = own 15 (omega arith)

module _ (f : DayTables) (d : Trains) (right : Right f d) where
  abbrev z : Sizes
  z = f.sizes

  abbrev ends : List ℕ
  ends = f.ends.now

  abbrev day : Yard
  day = yard_in f d

  crowded_is : (t r : ℕ) → t ≤ z.slots → r < 2 ^ f.boxes.trains → crowded_from z ends t r ≡ discarded day t r
  crowded_is t r upto small =
      some_ext (suc (z.slots - t)) (λ d. ltb (z.tracks * d) (ones (bit_and r (at ends (t + d))))) (λ d. ltb (z.tracks * d) (ones (bit_and r (ends_by day (t + d)))))
      (λ d l. ap (λ m. ltb (z.tracks * d) (ones (bit_and r m))) (right.ends_is (t + d) (omega arith)))
      ∙ sym (discarded_is day r small right.spacious t upto)

  module _ (t k s : ℕ) (w : HeldPlan) (plan : PlanAt day z.width t k w) (slot : t < z.slots) (within : Sub s w.rest) where
    abbrev p : Plan
    p = from day z.width t k

    left_is : w.rest ≡ rest day p
    left_is = rest-word day p w plan.words

    long : length p ≡ t
    long = (remained_path day z.width t p (kept_of day z.width t p (at_place (kept day z.width t) _ k plan.inside))).1

    -- the cost of the plan with the set
    cost_is : w.cost + price_of f w.rest s ≡ cost_so_far day (s ∷ p)
    unfolding cost_so_far held_word word_of
    cost_is = ap₂ (λ c r. c + slot_cost day (suc (length p)) r s) (plan.words 0 (omega arith)) left_is

    -- what code tests is whether what s leaves is discarded
    test_is : crowded_from z ends (t + 1) (w.rest - s) ≡ discarded day (suc t) (rest day p - s)
    test_is =
        crowded_is (t + 1) (w.rest - s) (omega arith) (omega (arith, left_is, rest_lt day p))
        ∙ ap₂ (λ n r. discarded day n (r - s)) (add-one t) left_is

    module _ {h : Held} (g : Gathers day z.width t (Passed k s) h) where
      abbrev After : Held → Type 0
      After = Gathers day z.width t (And day z.width t (Passed k s) k s)

      pub turn_dearer : IsFull h z.width → 1 ≤ z.width → (plan_at h.plans (h.count - 1)).cost < w.cost + price_of f w.rest s → After h
      turn_dearer full wide dearer =
          gathering_dearer day z.width t g k s plan.inside full.dropped full.many wide (subst (λ v. (plan_at h.plans (h.count - 1)).cost < v) cost_is dearer)

      pub turn_discarded : crowded_from z ends (t + 1) (w.rest - s) ≡ true → After h
      turn_discarded bad =
          gathering_barred day z.width t g k s
          (λ may. (may_serve_lem day (suc t) (rest day p) s may).2 (of_true (sym test_is ∙ bad)))

      -- x has the words of the plan with the set
      module _ (few : z.slots ≤ 12) (all : ℕ) (all_is : all ≡ 2 ^ f.boxes.trains - 1) (x : HeldPlan)
          (e : WithSet t s (late_of f w.rest s) (price_of f w.rest s) all w x) where
        own : Words day (s ∷ p) x
        own =
            with_words day p s t w x long (omega arith) plan.words
            (subst₂ (λ r a. WithSet t s (late_of f r s) (price_of f r s) a w x) left_is all_is e)

        pub turn_later : IsFull h z.width → 1 ≤ z.width → held_before z.slots (word x) (words h.plans) (h.count - 1) ≡ false → After h
        turn_later full wide later = gathering_later day z.width t g k s plan.inside few x own full.dropped full.many wide (subst (Sub s) left_is within) later

        pub turn_offered : {h' : Held} → Sub s (open_in f.boxes.trains d.first d.last (suc t)) → ones s ≤ z.tracks
            → crowded_from z ends (t + 1) (w.rest - s) ≡ false → Offers x h z.width z.slots h' → After h'
        turn_offered windows fit keep o =
            let may : T (may_serve day (suc t) (rest day p) s) =
            serves day (suc t) (rest day p) s (subst (Sub s) left_is within) (is_fits day (suc t) s windows fit) (of_false (sym test_is ∙ keep)) in
            gathering_offered day z.width t g k s plan.inside few x own may o
