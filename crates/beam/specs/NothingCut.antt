-- Where no slot had more merged partial plans than the width, nothing was cut: each plan of the search has one that stands for it
-- (`stands`), since equal trains served next keep the order of two plans that leave the same trains (`same_set-before`). So the search gives
-- the best of all rows that fit, in order 5 (`beam_best`).
-- Assumes nothing.
use Rattle.std.specs.Prelude.{◌≡◌, Bool, ◌&&◌, ◌≢◌}
use Rattle.std.proofs.Math.Path.{refl, sym, ap, subst}
use Rattle.std.proofs.Common.{◌∙◌, subst₂, lt→ltb, eqb→eq, eq-eqb, ne_eqb}
use Rattle.std.proofs.Math.Bool.{true, false, cond}
use Rattle.std.proofs.Math.Logic.{⊎_elim}
use mathlib.Core.List.Memᴰ
use mathlib.Core.List.{List, [], ◌∷◌, Memᴰ}
use Rattle.std.proofs.Math.Option.{Option, none, some}
use Prim.Native.Nat.{ℕ, zero, suc, ◌+◌, ◌-◌, ◌*◌, ◌≤◌, ◌<◌}
use native.Mathlib.Omega.{arith}
use Rattle.std.specs.Int.Count.{ones}
use Rattle.std.proofs.Math.Dec.{T, ltb, eqb, ltb→lt}
use Rattle.std.proofs.Math.ListN.{length}
use Rattle.std.proofs.Math.Seq.{take_all}
use Rattle.fold.specs.Test.{of_true, both, both_of}
use Rattle.fold.specs.Fold.{each, some_at, some_of, each_at, each_i}
use Rattle.fold.specs.Counting.{same_or, le_or_lt, zero_count}
use Rattle.sets.specs.Rest.{full}
use Rattle.model.specs.Model.{Yard, lower, by_key}
use Rattle.model.proofs.Order.{key_cases, key_less, key_same, irrefl}
use Rattle.feasibility.specs.Bound.{Windows}
use Rattle.staging.specs.Tables.{late_trains, slot_cost}
use Rattle.merging.specs.Merging.{StandsFor, InOrder}
use Rattle.beam.specs.Beam.{Plan, rest, cost_so_far, revisits_so_far, slots_so_far, set_in, row_of, earlier, comes_before, discarded, may_serve, remained, kept, full_slots, first_row, beam_row}
use Rattle.beam.specs.Paths.{Path}
use Rattle.beam.specs.RowPlans.{plan_of}
use Rattle.beam.specs.Result.{BestFitting, NoneFits}

-- what an answer says where nothing was cut: none where no row fits, otherwise the best of those that do
abbrev pub SaysBest : Yard → Option (List ℕ) → Type 0
SaysBest y none = NoneFits y
SaysBest y (some row) = BestFitting y row
