-- What the search gives (document 02, order 9): a row that fits, or none exactly where none does (`beam_says`); and where no slot was full
-- the best row of all in order 5 (`beam_best`). A whole plan's cost so far is its row's cost (`whole-cost`).
-- Assumes nothing.
use Rattle.std.specs.Prelude.{◌≡◌, length}
use Rattle.std.proofs.Math.Path.{refl}
use Rattle.std.proofs.Common.{sym, ap, ◌∙◌, subst, arith}
use mathlib.Core.List.Memᴰ
use mathlib.Core.List.{List, [], ◌∷◌, Memᴰ}
use Rattle.std.proofs.Math.Option.{Option, none, some}
use Prim.Native.Nat.{ℕ, zero, suc, ◌≤◌}
use Rattle.std.proofs.Math.Dec.{T}
use Rattle.sets.specs.Rest.{full}
use Rattle.model.specs.Model.{Yard, received, revisits, cost, fitting, allowed, precedes, Best}
use Rattle.model.proofs.Order.{key_not}
use Rattle.model.proofs.Rows.{fitting_is}
use Rattle.model.specs.BestOf.{better}
use Rattle.feasibility.specs.Bound.{Windows}
use Rattle.optimum.proofs.Rows.{remaining_none}
use Rattle.merging.proofs.First.{take-some}
use Rattle.beam.specs.Beam.{Plan, rest, cost_so_far, revisits_so_far, row_of, discarded, may_serve, remained, kept, first_row, beam_row}
use Rattle.beam.specs.Paths.{Path}
use Rattle.beam.specs.RowPlans.{plan_of}

-- the best of the rows that fit: no other one is better, that is cheaper, or as cheap and before it in order 5
pub record BestFitting (y : Yard) (row : List ℕ) : Type 0 where
  pub fits : T (fitting y row)
  pub none_better : (other : List ℕ) → T (fitting y other) → T (better y other row) → ⊥

-- no row fits
abbrev pub NoneFits : Yard → Type 0
NoneFits y = (row : List ℕ) → T (fitting y row) → ⊥

-- what an answer says: none where no row fits, otherwise a row that does
abbrev pub Says : Yard → Option (List ℕ) → Type 0
Says y none = NoneFits y
Says y (some row) = T (fitting y row)
