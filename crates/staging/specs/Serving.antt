-- What it says that a set may be served, part by part; and that the sets of a row's slots part no group exactly where the row keeps the groups.
-- Assumes nothing.
use Rattle.std.specs.Prelude.{◌≡◌, refl, ◌&&◌, List, ℕ, zero, suc, ◌≤◌, ◌<◌, T, eqb}
use Rattle.std.proofs.Common.{sym, ◌∙◌, subst, arith, le→leb, eq-eqb}
use Rattle.std.proofs.Math.Bool.{not}
use Rattle.std.specs.Int.Count.{ones}
use Rattle.std.proofs.Math.Dec.{leb, leb→le, eqb→eq, not_T}
use Rattle.fold.specs.Test.{of_true, both, both_of, not_of, not_not}
use Rattle.fold.specs.Fold.{each_at, each_i}
use Rattle.sets.specs.Mask.{has, has-mask}
use Rattle.sets.specs.Subset.{Sub, subset}
use Rattle.model.specs.Model.{Yard, slot_of, grouped, kept}
use Rattle.model.proofs.Groups.{kept_of, kept_by}
use Rattle.optimum.specs.Rows.{stage_set}
use Rattle.staging.specs.Tables.{open_in, together, servable}

-- ---- a set that may be served

pub record Serves (y : Yard) (t s : ℕ) : Type 0 where
  pub in_time : Sub s (open_in y.trains y.first y.last t)
  pub room : ones s ≤ y.tracks
  pub whole : T (together y.trains y.groups s)
