-- The lists that the search goes by: what is among the successors of some partial plans, and that all merged plans are plans of the search
-- with one set for each slot (`remained_path`).
-- Assumes nothing.
use Rattle.std.specs.Prelude.{◌≡◌, Bool, cond, T}
use Rattle.std.proofs.Math.Path.{refl, sym, ap}
use Rattle.std.proofs.Common.{◌∙◌, subst, arith}
use Rattle.std.proofs.Math.Bool.{true, false}
use Rattle.std.proofs.Math.Logic.{⊎_elim}
use mathlib.Core.List.Memᴰ
use mathlib.Core.List.{List, [], ◌∷◌, Memᴰ}
use Prim.Native.Nat.{ℕ, zero, suc, ◌<◌}
use Rattle.std.proofs.Math.ListN.{length}
use Rattle.fold.specs.Test.{of_true, of_false}
use Rattle.sets.specs.Subset.{sub_le}
use Rattle.sets.specs.Rest.{full}
use Rattle.model.specs.Model.{Yard}
use Rattle.model.specs.Order.{Order}
use Rattle.model.proofs.Order.{key_order, converse, along, lower_order}
use Rattle.model.specs.Model.{lower}
use Rattle.merging.proofs.First.{take_of}
use Rattle.merging.specs.Merging.{Merged}
use Rattle.merging.proofs.Merging.{is_merged}
use Rattle.beam.specs.Beam.{Plan, rest, cost_so_far, revisits_so_far, slots_so_far, set_in, earlier, comes_before, discarded, may_serve, passing, extensions, successors, remained, kept}
use Rattle.beam.specs.Paths.{Path}

-- ---- successors

module _ (y : Yard) (t : ℕ) where
  -- q is one of the partial plans of l with one slot more
  pub record Extends (l : List Plan) (q : Plan) : Type 0 where
    pub before : Plan
    pub served : ℕ
    pub among : Memᴰ before l
    pub is : q ≡ served ∷ before
    pub may : T (may_serve y t (rest y before) served)
