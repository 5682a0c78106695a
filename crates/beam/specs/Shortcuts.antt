-- What code may use in place of the definitions: a day that overbooks an interval has no row that the search could find (`beam_none`); on a
-- day without one, a set is discarded exactly where for some slot too many of its trains end by it (`discarded_is`).
-- Assumes nothing.
use Rattle.std.specs.Prelude.{◌≡◌, refl, Bool, List, ℕ, suc, ◌+◌, ◌-◌, ◌*◌, ◌^◌, ◌≤◌, ◌<◌, T, ltb}
use Rattle.std.proofs.Math.Path.{sym, ap}
use Rattle.std.proofs.Common.{◌∙◌, ⊎_elim, arith, ltb→lt, lt→ltb}
use Rattle.std.proofs.Math.Option.{Option, none, some}
use Rattle.std.specs.Int.Bits.{bit_and}
use Rattle.std.specs.Int.Count.{ones}
use Rattle.std.proofs.Math.Dec.{leb}
use Rattle.fold.specs.Test.{same_test_lem, test}
use Rattle.fold.specs.Fold
use Rattle.fold.specs.Fold.{count, some_at, some_of}
use Rattle.fold.specs.Counting.{le_or_lt}
use Rattle.sets.specs.Mask.{has, mask, mask_and, mask-has, ones_mask}
use Rattle.model.specs.Model.{Yard, last_slot}
use Rattle.model.specs.Overbooked.{Interval, first_overbooked}
use Rattle.feasibility.specs.Bound.{Windows, Spacious}
use Rattle.feasibility.proofs.NoRow.{none_fits}
use Rattle.feasibility.proofs.RowOrNone.{some_over}
use Rattle.beam.specs.Beam.{discarded, beam_row}
use Rattle.beam.specs.Discards.{ending}
use Rattle.beam.specs.Result.{Says}

-- ---- discards by counting

-- the trains whose last slot is at most b
unfoldable pub ends_by : Yard → ℕ → ℕ
ends_by y b = mask y.trains λ i. leb (last_slot y i) b

module _ (y : Yard) (r : ℕ) (small : r < 2 ^ y.trains) where
  -- the slot t + d is one by which too many trains of r end
  abbrev pub crowded : ℕ → ℕ → Bool
  crowded t d = ltb (y.tracks * d) (ones (bit_and r (ends_by y (t + d))))
