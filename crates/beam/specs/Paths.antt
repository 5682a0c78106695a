-- The partial plans that the search can come to, kept or cut (`Path`): each set may be served where the sets before it leave off. Their sets,
-- what remains and the slots of the trains say the same thing: train i is in the set of slot t exactly where its slot is t, and it remains
-- exactly where it has none.
-- Assumes nothing.
use Rattle.std.specs.Prelude.{◌≡◌, Bool, not, ◌&&◌, leb}
use Rattle.std.proofs.Math.Path.{refl, sym, subst}
use Rattle.std.proofs.Common.{ap, ◌∙◌, le→leb, pow_pos}
use Rattle.std.proofs.Math.Bool.{true, false, cond}
use mathlib.Core.List.{[], ◌∷◌}
use Prim.Native.Nat.{ℕ, zero, suc, ◌+◌, ◌-◌, ◌^◌, ◌≤◌, ◌<◌, zero-le}
use native.Mathlib.Omega.{arith}
use Rattle.std.specs.Int.Count.{ones, ones-le}
use Rattle.std.proofs.Math.Dec.{T, eqb, eqb→eq, leb→le, not_T}
use Rattle.std.proofs.Math.ListN.{length}
use borrow.Author.Tests.{eq-eqb, ne_eqb, eqb-true, eqb-false}
use Rattle.fold.specs.Test.{of_true, both, both_of, not_of}
use Rattle.fold.specs.Fold.{bit}
use Rattle.fold.specs.Listed.{listed_at}
use Rattle.sets.specs.Mask.{has, mask_ext, mask-has}
use Rattle.sets.specs.Subset.{Sub, subset, sub_le, sub_zero}
use Rattle.sets.specs.Rest.{full, has_none, has-full, sub-has, rest-bit}
use Rattle.model.specs.Model.{Yard, first_slot, last_slot, slot_of, load}
use Rattle.model.proofs.Rows.{both_le}
use Rattle.optimum.specs.Rows.{stage_set}
use Rattle.staging.specs.Tables.{open_in}
use Rattle.staging.specs.AllowedRows.{InWindow}
use Rattle.staging.proofs.AllowedRows.{has_open, open_lt, stage_ones}
use Rattle.feasibility.specs.Bound.{Spacious}
use Rattle.beam.specs.Beam.{Plan, rest, set_in, slot_in, row_of, discarded, fits_slot, may_serve}

abbrev pub Path : Yard → Plan → Type 0
Path y [] = T (discarded y 0 (full y.trains)) → ⊥
Path y (s ∷ p) = T (may_serve y (suc (length p)) (rest y p) s) × Path y p
