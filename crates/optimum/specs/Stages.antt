-- The table of staged choices, for any test `ok` and any contribution `w`. `tab k t r` is the least value of the schedules that use up r
-- in k stages from stage t on, `inf` where none is below that; `choice k t r` is the largest first set of one of least value, and
-- `follow k t r` the schedule that the choices give. `tab_cheapest`: it is one, no other has a smaller value, and of those of equal
-- value it comes first. `tab_small`: where no contribution is above x, no value of k stages is above k times x, but for inf.
-- Assumes nothing.
use Rattle.std.specs.Prelude.{◌≡◌, T, eqb, length}
use Rattle.std.proofs.Math.Path.{refl, sym, ap}
use Rattle.std.proofs.Common.{◌∙◌, subst, ⊎_elim, arith, eq-zero-or-pos, ne_eqb}
use Rattle.std.proofs.Math.Bool.{cond}
use mathlib.Core.List.{List, [], ◌∷◌}
use Prim.Native.Nat.{ℕ, zero, suc, ◌+◌, ◌-◌, ◌*◌, ◌≤◌, ◌<◌}
use Rattle.sets.specs.Subset.{Sub}
use Rattle.optimum.specs.Workspace.{at}
use Rattle.optimum.specs.Least.{Least, Cell, best}
use Rattle.optimum.specs.Offers.{offer}
use Rattle.optimum.specs.Schedules.{Test, Contribution, Schedule, value, Ahead}

module _ (ok : Test) (w : Contribution) (inf : ℕ) where
  -- ---- definitions

  -- what the set s offers at stage t, where r remains; `tail` gives the values of the next stage
  abbrev pub candidate : (ℕ → ℕ) → ℕ → ℕ → ℕ → ℕ
  candidate tail t r s = offer inf (ok t r s) (tail (r - s)) (w t r s)

  -- the least of what the subsets of r offer, and the largest subset that offers it
  unfoldable pub cell : (ℕ → ℕ) → ℕ → ℕ → Cell
  cell tail t r = best inf (candidate tail t r) r

  -- with k stages left, from stage t on, where r remains
  unfoldable pub tab : ℕ → ℕ → ℕ → ℕ
  tab zero t r = cond (eqb r 0) 0 inf
  tab (suc k) t r = (cell (tab k (suc t)) t r).value

  unfoldable pub choice : ℕ → ℕ → ℕ → ℕ
  choice zero t r = 0
  choice (suc k) t r = (cell (tab k (suc t)) t r).set

  unfoldable pub follow : ℕ → ℕ → ℕ → List ℕ
  follow zero t r = []
  follow (suc k) t r = choice (suc k) t r ∷ follow k (suc t) (r - choice (suc k) t r)

  -- p is a schedule of k sets with the value v, none has a smaller one, and of those with the same it comes first
  pub record Cheapest (k t r v : ℕ) (p : List ℕ) : Type 0 where
    pub long : length p ≡ k
    pub allowed : Schedule ok t r p
    pub valued : value w t r p ≡ v
    pub least : (q : List ℕ) → length q ≡ k → Schedule ok t r q → v ≤ value w t r q
    pub first : (q : List ℕ) → length q ≡ k → Schedule ok t r q → value w t r q ≡ v → Ahead k (at p) (at q)
