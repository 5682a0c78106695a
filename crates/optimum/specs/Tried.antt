-- A loop over the subsets of m, from m down by `s = (s - 1) & m`, that finds the table's cell of r: what the code does at a turn, and what
-- it has at the end. m may be r itself, or a part of r outside which no set passes the test. `tail` reads the values of the next stage.
-- Assumes nothing.
use Rattle.std.specs.Prelude.{◌≡◌, true, ℕ, suc, ◌+◌, ◌-◌, ◌≤◌, ◌<◌, T}
use Rattle.std.proofs.Common.{sym, ap, ◌∙◌, subst, subst₂, ⊎_elim, le_antisymm, arith}
use Rattle.std.specs.Int.Bits.{bit_and}
use Rattle.fold.specs.Test.{test}
use Rattle.fold.specs.Counting.{le_or_lt}
use Rattle.sets.specs.Subset.{Sub, walk}
use Rattle.sets.specs.Rest.{meet_left, sub_meet}
use Rattle.optimum.specs.Least.{Least}
use Rattle.optimum.specs.Offers.{offer}
use Rattle.optimum.specs.Schedules.{Test, Contribution}
use Rattle.optimum.specs.Stages.{candidate, cell}

-- at stage t, where r remains, the subsets of m from s up are tried: b is the least that they offer, c the largest that offers it
pub record Tried (ok : Test) (w : Contribution) (inf : ℕ) (tail : ℕ → ℕ) (t r m s b c : ℕ) : Type 0 where
  pub by : Least inf (candidate ok w inf tail t r) m s b c
