-- The table in one workspace of N words, N the number of sets. The table of the next stage is turned into this stage's in place, from the
-- last set down to the empty one: a cell reads at what remains, which is no larger than its own set, so it reads what is still old. In a
-- second workspace, of m * N words for m stages, the choices of all stages are kept, those of stage j + 1 from the word j * N on.
-- `Solved` is the loop over the stages, `Stage` the loop over the sets.
-- Not every cell need be filled: `wanted j r` says which are, where j stages are passed and r remains. What the choices of a wanted cell
-- leave must be wanted (`Closed`); the words of the other cells may hold anything. Where all are wanted (`Every`) this is the whole table.
-- Assumes nothing.
use Rattle.std.specs.Prelude.{◌≡◌, List, ℕ, suc, ◌+◌, ◌-◌, ◌*◌, ◌/◌, ◌%◌, ◌≤◌, ◌<◌, T, length, set}
use Rattle.std.proofs.Common.{sym, ap, ap₂, ◌∙◌, subst, subst₂, ⊎_elim, arith, get_or-set_other}
use Rattle.std.proofs.Math.Arith.{digits_lt, digits_div, digits_mod}
use Rattle.fold.specs.Counting.{le_or_lt}
use Rattle.sets.specs.Subset.{Sub}
use Rattle.optimum.specs.Workspace.{at, Kept}
use Rattle.optimum.specs.Schedules.{Test, Contribution}
use Rattle.optimum.specs.Stages.{cell, tab, choice}

-- ---- definitions

-- the choices from a wanted cell lead to wanted cells
abbrev pub Closed : Test → (ℕ → ℕ → Type 0) → Type 0
Closed ok wanted = (j r s : ℕ) → wanted j r → Sub s r → T (ok (suc j) r s) → wanted (suc j) (r - s)

-- all cells are wanted
abbrev pub Every : ℕ → ℕ → Type 0
Every j r = Unit {0}

module _ (ok : Test) (w : Contribution) (inf : ℕ) where
  -- the choice that is kept in the word y: of stage y / N + 1, for the set y % N
  abbrev pub choice_at : ℕ → ℕ → ℕ → ℕ
  choice_at N m y = choice ok w inf (m - y / N) (suc (y / N)) (y % N)

module _ (ok : Test) (w : Contribution) (inf : ℕ) (wanted : ℕ → ℕ → Type 0) where
  -- the workspace holds the table of k stages behind the first j, for the sets below x
  pub record Table (x k j : ℕ) (a : List ℕ) : Type 0 where
    pub holds : (i : ℕ) → i < x → wanted j i → at a i ≡ tab ok w inf k (suc j) i

  -- the choices from the word y on are written
  pub record Choices (N m y : ℕ) (c₀ c : List ℕ) : Type 0 where
    pub kept : Kept (m * N) c₀ c
    pub done : (i : ℕ) → y ≤ i → i < m * N → wanted (i / N) (i % N) → at c i ≡ choice_at ok w inf N m i

  -- the loop over the stages, from the last down: those from j + 1 on are done
  pub record Solved (N m j : ℕ) (a₀ c₀ a c : List ℕ) : Type 0 where
    pub within : j ≤ m
    pub kept : Kept N a₀ a
    pub table : Table N (m - j) j a
    pub choices : Choices N m (j * N) c₀ c

  -- the loop over the sets at stage j + 1, from the last down: those from x on are done; a₀ and c₀ are what it began with
  pub record Stage (N m j x : ℕ) (a₀ c₀ a c : List ℕ) : Type 0 where
    pub within : x ≤ N
    pub kept : Kept N a₀ a
    pub new : (i : ℕ) → x ≤ i → i < N → wanted j i → at a i ≡ tab ok w inf (m - j) (suc j) i
    pub choices : Choices N m (j * N + x) c₀ c
