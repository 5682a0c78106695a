-- The way back: stage after stage, the set that the choices give for what remains is written into the row, position by position.
-- `Traced` is the loop over the stages, `Tracing` the loop over the positions; the row to be written is `best`, to which the choices lead.
-- Assumes nothing.
use Rattle.std.specs.Prelude.{◌≡◌, ◌≢◌, List, ℕ, suc, ◌+◌, ◌-◌, ◌*◌, ◌/◌, ◌^◌, ◌≤◌, ◌<◌, leb, eqb, length, set, take}
use Rattle.std.proofs.Common.{sym, ap, ap₂, ◌∙◌, ⊎_elim, arith, eq-or-lt_of_le, get_or-set_other, get_or-take, length-take-le, ext_get_or, eq-eqb, eqb-true}
use Rattle.std.specs.Int.Bits.{bit_and}
use Rattle.sets.specs.Mask.{has, has-mask, mask_lt}
use Rattle.sets.specs.Subset.{sub_le}
use Rattle.sets.specs.Rest.{full, bit_test}
use Rattle.optimum.specs.Workspace.{at, Kept}
use Rattle.optimum.specs.Rows.{stage_set, remaining}
use Rattle.optimum.specs.Chosen.{Leads}

-- the first j stages are written, and r remains
pub record Traced (n j r : ℕ) (best row₀ row : List ℕ) : Type 0 where
  pub left : r ≡ remaining n best (suc j)
  pub kept : Kept n row₀ row
  pub done : (i : ℕ) → i < n → at best i ≤ j → at row i ≡ at best i

-- so are, of stage j + 1, the positions below p
pub record Tracing (n j p : ℕ) (best row₀ row : List ℕ) : Type 0 where
  pub kept : Kept n row₀ row
  pub done : (i : ℕ) → i < n → at best i ≤ j → at row i ≡ at best i
  pub part : (i : ℕ) → i < p → at best i ≡ suc j → at row i ≡ at best i
