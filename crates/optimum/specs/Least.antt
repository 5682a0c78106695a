-- The least candidate over the subsets of a set r. The subsets are tried from the largest down, and one replaces what was found only
-- where its candidate is strictly smaller: of equal candidates the larger set stands. `candidate u` is any number; `inf` stands for
-- none, and a candidate of inf or more counts for nothing.
-- `Least inf candidate r s b c` is what a loop knows that has tried the subsets from s up. `best` computes the end of that loop, and
-- at its end there is no other pair.
-- Assumes nothing.
use Rattle.std.specs.Prelude.{◌≡◌, refl, Bool, true, false, cond, ◌&&◌, ltb}
use Rattle.std.proofs.Common.{sym, ap, ◌∙◌, subst, ⊎_elim, arith, eq-or-lt_of_le, le_antisymm, ltb-true, ltb-false, eqb-true}
use Prim.Native.Nat.{ℕ, zero, suc, ◌+◌, ◌≤◌, ◌<◌}
use Rattle.std.proofs.lemmas.Bool.{eqb-false}
use Rattle.fold.specs.Counting.{le_or_lt}
use Rattle.sets.specs.Subset.{Sub, subset, walk, sub_le, sub_trans, walk_lt, walk-next}

-- ---- definitions

-- b is the least candidate of the subsets of r from s up, inf where none is smaller; c is the largest of those that have it, else 0
pub record Least (inf : ℕ) (candidate : ℕ → ℕ) (r s b c : ℕ) : Type 0 where
  pub capped : b ≤ inf
  pub nothing : b ≡ inf → c ≡ 0
  pub within : b < inf → Sub c r
  pub tried : b < inf → s ≤ c
  pub reached : b < inf → candidate c ≡ b
  pub least : (u : ℕ) → Sub u r → s ≤ u → b ≤ candidate u
  pub largest : (u : ℕ) → Sub u r → s ≤ u → candidate u ≡ b → b < inf → u ≤ c

-- a least candidate and the set that has it
pub record Cell : Type 0 where
  pub value : ℕ
  pub set : ℕ

-- u replaces what was found where it is a subset with a smaller candidate
abbrev pub attempt : (ℕ → ℕ) → ℕ → ℕ → Cell → Cell
attempt candidate r u x = cond (subset u r && ltb (candidate u) x.value) (record { value = candidate u; set = u }) x

-- every number from n down to 0 is tried; one that is no subset is passed over
unfoldable pub scan : (ℕ → ℕ) → ℕ → ℕ → Cell → Cell
scan candidate r zero x = attempt candidate r 0 x
scan candidate r (suc n) x = scan candidate r n (attempt candidate r (suc n) x)

unfoldable pub best : ℕ → (ℕ → ℕ) → ℕ → Cell
best inf candidate r = scan candidate r r (record { value = inf; set = 0 })

-- ---- the computation finds it

abbrev pub LeastIn : ℕ → (ℕ → ℕ) → ℕ → ℕ → Cell → Type 0
LeastIn inf candidate r s x = Least inf candidate r s x.value x.set
