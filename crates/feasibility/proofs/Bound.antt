-- Laws of Bound.antt of specs/.
-- The trains bound inside an interval, one train after another, and the test of an overbooked interval as statements: 1 ≤ a ≤ b ≤ T,
-- and more trains bound inside than its slots have tracks.
-- Assumes nothing.
use Rattle.std.specs.Prelude.{◌≡◌, Bool, ◌&&◌, List, ℕ, ◌+◌, ◌-◌, ◌*◌, ◌≤◌, ◌<◌, T, get_or}
use Rattle.std.proofs.Common.{⊎_elim, lt→ltb, le→leb}
use Rattle.std.proofs.Math.Dec.{leb, ltb→lt}
use Rattle.fold.specs.Test.{both, both_of}
use Rattle.fold.specs.Fold.{bit, count_next}
use Rattle.fold.specs.Counting.{le_or_lt}
use Rattle.model.specs.Model.{Yard, first_slot, last_slot, bound, bound_inside, exceeds, overbooked}
use Rattle.feasibility.specs.Bound.{is_bound, Windows, Spacious, places}

-- one train more
pub bound-next : (k : ℕ) (first last : List ℕ) (a b : ℕ)
    → bound (k + 1) first last a b ≡ bound k first last a b + bit (leb a (get_or first k 0) && leb (get_or last k 0) b)
unfolding bound
bound-next k first last a b = count_next k λ i. leb a (get_or first i 0) && leb (get_or last i 0) b

module _ (y : Yard) (a b : ℕ) where
  pub over_exceeds : T (overbooked y a b) → (places y a b) < bound_inside y a b
  unfolding overbooked exceeds
  over_exceeds t = ltb→lt (places y a b) (bound_inside y a b) (both_of (leb 1 a && leb a b && leb b y.slots) (exceeds y a b) t).1

  pub exceeds_over : 1 ≤ a → a ≤ b → b ≤ y.slots → (places y a b) < bound_inside y a b → T (overbooked y a b)
  unfolding overbooked exceeds
  exceeds_over from order upto more =
      both (leb 1 a && leb a b && leb b y.slots) (exceeds y a b)
      (both (leb 1 a && leb a b) (leb b y.slots) (both (leb 1 a) (leb a b) (le→leb 1 a from) (le→leb a b order)) (le→leb b y.slots upto))
      (lt→ltb (places y a b) (bound_inside y a b) more)

  -- where no interval is overbooked each holds the trains bound inside
  pub spacious_holds : Spacious y → 1 ≤ a → a ≤ b → b ≤ y.slots → bound_inside y a b ≤ (places y a b)
  spacious_holds spacious from order upto =
      ⊎_elim (λ fits. fits) (λ more. absurd (spacious a b (exceeds_over from order upto more))) (le_or_lt (bound_inside y a b) (places y a b))
