-- Laws of Search.antt of specs/.
-- The answer of the search for the first overbooked interval, and what its two loops know of the intervals passed.
-- Assumes nothing.
use Rattle.std.specs.Prelude.{◌≡◌, List, [], ℕ, ◌+◌, ◌≤◌, ◌<◌, T, Option, Some, None}
use Rattle.std.proofs.Math.Option.{none, some}
use Rattle.std.proofs.Common.{⊎_elim, arith}
use Rattle.fold.specs.Fold.{below_suc}
use Rattle.fold.specs.Counting.{le_or_lt}
use Rattle.model.specs.Model.{Yard, bound_inside, exceeds, overbooked}
use Rattle.model.specs.Overbooked.{first_overbooked, overbooked_from, overbooked_first, overbooked_last}
use Rattle.model.proofs.Overbooked.{overbooked-range, first_is}
use Rattle.feasibility.proofs.RowOrNone.{spacious_none}
use Rattle.feasibility.specs.declared.Overbooked.{Overbooked}
use Rattle.feasibility.specs.Search.{Finds, windows_only, NoneBefore, NoneFrom}

-- nothing else of a day counts: an answer for its windows is one for the day
pub finds_day : (y : Yard) (r : Option Overbooked) → Finds (windows_only y.trains y.tracks y.slots y.first y.last) r → Finds y r
unfolding first_overbooked overbooked_first overbooked_last overbooked_from overbooked exceeds
finds_day y None h = h
finds_day y (Some o) h = h

module _ (y : Yard) where
  pub none_before_start : (NoneBefore y) 1
  none_before_start x h z t = omega (arith, overbooked-range y x z t)

  pub none_from_start : (a : ℕ) → (NoneFrom y) a a
  none_from_start a z h t = omega (arith, overbooked-range y a z t)

  pub none_from_next : (a b : ℕ) → (NoneFrom y) a b → (T (overbooked y a b) → ⊥) → (NoneFrom y) a (b + 1)
  none_from_next a b all here z h = below_suc (λ z. T (overbooked y a z) → ⊥) b all here z (omega arith)

  pub none_before-next : (a b : ℕ) → y.slots < b → (NoneBefore y) a → (NoneFrom y) a b → (NoneBefore y) (a + 1)
  none_before-next a b past all here x h =
      below_suc (λ x. (z : ℕ) → T (overbooked y x z) → ⊥) a all (λ z t. here z (omega (arith, overbooked-range y a z t)) t) x (omega arith)

  pub finds_none : (a : ℕ) → y.slots < a → (NoneBefore y) a → first_overbooked y ≡ none
  finds_none a past all = spacious_none y (λ x z t. all x (omega (arith, overbooked-range y x z t)) z t)

  pub finds_first : (a b : ℕ) → (NoneBefore y) a → (NoneFrom y) a b → T (overbooked y a b) → first_overbooked y ≡ some (record { first = a; last = b })
  finds_first a b before shorter over =
      first_is y a b
      (record {
        is_over = over;
        smallest_first = λ x z t. ⊎_elim (λ (h : a ≤ x). h) (λ (h : x < a). absurd (before x h z t)) (le_or_lt a x);
        smallest_last = λ z t. ⊎_elim (λ (h : b ≤ z). h) (λ (h : z < b). absurd (shorter z h t)) (le_or_lt b z);
      })
