-- A partial plan as words, for code that holds the plans in one array: cost, revisits and sum of slots so far, then for each slot the trains that
-- are not in its set. Order 5 is then the order of the words, the smaller at the first place where they differ (`before_words`): one loop
-- compares two plans.
-- Assumes nothing.
use Rattle.std.specs.Prelude.{◌≡◌, refl, Bool, true, false, cond, ◌&&◌, ◌∷◌, ◌≢◌, ℕ, zero, suc, ◌-◌, ◌≤◌, ◌<◌, T, ltb, eqb, length}
use Rattle.std.proofs.Common.{sym, ap₂, ◌∙◌, subst, ⊎_elim, eq-or-lt_of_le, arith, eqb→eq, ltb→lt, lt→ltb, eq-eqb}
use Rattle.fold.specs.Test.{of_true, same_test_lem, both, both_of}
use Rattle.fold.specs.Fold.{each, some, some_at, some_of, each_at, each_i, none_i}
use Rattle.fold.specs.Counting.{le_or_lt}
use Rattle.fold.specs.Sums.{some_ext, each_ext}
use Rattle.sets.specs.Subset.{Sub, sub_le}
use Rattle.sets.specs.Rest.{full}
use Rattle.model.specs.Model.{Yard, lower}
use Rattle.model.proofs.Order.{lower_cons}
use Rattle.beam.specs.Beam.{Plan, rest, cost_so_far, revisits_so_far, slots_so_far, set_in, earlier, comes_before}
use Rattle.beam.specs.Paths.{Path}

unfoldable pub word_of : Yard → Plan → ℕ → ℕ
word_of y p zero = cost_so_far y p
word_of y p (suc zero) = revisits_so_far y p
word_of y p (suc (suc zero)) = slots_so_far p
word_of y p (suc (suc (suc j))) = full y.trains - set_in p j

-- its sets are sets of the day's trains: so it is for a plan of the search, and for one with a set more of the trains that remain, though that
-- may have to be discarded
abbrev pub OfTrains : Yard → Plan → Type 0
OfTrains y p = (j : ℕ) → set_in p j ≤ full y.trains
