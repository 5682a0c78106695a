-- Rows and schedules. A row gives each of n positions one of the stages 1 to m; the positions of a stage are its set, those of the stage
-- and of later ones are what remains there. The sets of a row are a schedule of all positions (`row_schedule`) with the row's worth as its
-- value (`row-value`); each such schedule is that of a row (`schedule_row`, `sets_row`), and that row alone (`same_sets`, `row_again`).
-- `BestRow` says what the best row is, for any test `ok` and any contribution `w`.
-- Assumes nothing.
use Rattle.std.specs.Prelude.{◌≡◌, refl, not, ◌&&◌, ◌≢◌, List, [], ◌∷◌, leb, length}
use Rattle.std.proofs.Common.{sym, ◌∙◌, subst₂, leb→le, le→leb, eqb→eq, ext_get_or, le-leb, eq-eqb, eqb-true}
use Rattle.std.proofs.Math.Path.{ap, subst}
use Prim.Native.Nat.{ℕ, zero, suc, ◌+◌, ◌-◌, ◌^◌, ◌≤◌, ◌<◌}
use native.Mathlib.Omega.{arith}
use Rattle.std.proofs.Math.Dec.{T, eqb, not_T}
use Rattle.std.proofs.Math.Pow.{pow_pos}
use Rattle.std.proofs.lemmas.Bool.{lt-leb}
use Rattle.fold.specs.Test.{of_true, same_test_lem, both, both_of, not_of}
use Rattle.fold.specs.Fold.{bit, sum, lowest}
use Rattle.fold.specs.Sums.{sum_ext, sum_cons}
use Rattle.fold.specs.Listed.{listed, length-listed, listed_at, listed_ext, listed_all}
use Rattle.sets.specs.Mask.{has, mask, mask_ext, mask_same, mask-has, mask_empty, mask_full}
use Rattle.sets.specs.Subset.{Sub, sub_le, sub-mask}
use Rattle.optimum.specs.Workspace.{at}
use Rattle.sets.specs.Rest.{full, mask-rest, has_none, has-full, rest-bit, lowest_only}
use Rattle.optimum.specs.Schedules.{Test, Contribution, Schedule, value, Ahead}

-- ---- definitions

-- the positions of stage t
abbrev pub stage_set : ℕ → List ℕ → ℕ → ℕ
stage_set n row t = mask n λ i. eqb (at row i) t

-- the positions of stage t and of later ones
abbrev pub remaining : ℕ → List ℕ → ℕ → ℕ
remaining n row t = mask n λ i. leb t (at row i)

-- what the stages contribute
unfoldable pub worth : Contribution → ℕ → ℕ → List ℕ → ℕ
worth w n m row = sum m λ j. w (suc j) (remaining n row (suc j)) (stage_set n row (suc j))

-- an allowed row: a stage of 1 to m for each of n positions, and the set of each stage passes the test
pub record Row (ok : Test) (n m : ℕ) (row : List ℕ) : Type 0 where
  pub long : length row ≡ n
  pub staged : (i : ℕ) → i < n → (1 ≤ at row i) × (at row i ≤ m)
  pub passes : (j : ℕ) → j < m → T (ok (suc j) (remaining n row (suc j)) (stage_set n row (suc j)))

-- the best row: allowed, no allowed row is worth less, and none of equal worth has the larger set at the lowest stage where they differ
pub record BestRow (ok : Test) (w : Contribution) (n m : ℕ) (row : List ℕ) : Type 0 where
  pub allowed : Row ok n m row
  pub least : (other : List ℕ) → Row ok n m other → worth w n m row ≤ worth w n m other
  pub first : (other : List ℕ) → Row ok n m other → worth w n m other ≡ worth w n m row
      → Ahead m (λ j. stage_set n row (suc j)) (λ j. stage_set n other (suc j))

-- the sets of the stages 1 to m, as a schedule
abbrev pub sets_of : ℕ → ℕ → List ℕ → List ℕ
sets_of n m row = listed m λ j. stage_set n row (suc j)

-- the row of a schedule: each position has the first stage whose set holds it
unfoldable pub row_of : ℕ → List ℕ → List ℕ
row_of n p = listed n λ i. suc (lowest (length p) λ j. has (at p j) i)
