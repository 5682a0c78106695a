-- The invariant of the loop through the successors of one slot (`Gathered`): the plans l and the flag are what came of the successors seen so far,
-- and those that are done are among them. Each turn is one of three: the set may not be served (`gathered_skip`), the plan joins (`gathered_add`),
-- or there is no room and it comes before none that is held (`gathered_reject`); this needs no test whether it would be discarded. When all are
-- done, the plans are those that are kept and the flag says that more remained (`gathered_kept`).
-- Assumes nothing.
use Rattle.std.specs.Prelude.{◌≡◌, refl, Bool, true, false, ◌||◌, ◌⊎◌, ℕ, zero, suc, ◌≤◌, ◌<◌, T, length, get_or}
use Rattle.std.proofs.Common.{sym, ◌∙◌, subst, subst₂, inl, inr, le_of_suc-le-suc, arith}
use Rattle.std.proofs.Math.Path.{ap}
use Rattle.std.proofs.Math.Logic.{⊎_elim}
use mathlib.Core.List.Memᴰ
use mathlib.Core.List.{List, [], ◌∷◌, Memᴰ}
use Rattle.std.proofs.Math.Dec.{ltb}
use Rattle.std.proofs.Math.ListN.{take}
use Rattle.fold.specs.Test.{test}
use Rattle.model.specs.Model.{Yard}
use Rattle.merging.specs.Merging.{add}
use Rattle.merging.specs.Streaming.{Held, streamed}
use Rattle.merging.proofs.Streaming.{rejected}
use Rattle.beam.specs.Beam.{Plan, rest, comes_before, may_serve, successors, remained, kept}

module _ (y : Yard) (width t : ℕ) where
  -- the plan at place k of those that are kept after slot t
  abbrev pub from : ℕ → Plan
  from k = get_or (kept y width t) k []

  -- what came of the plans that were seen
  abbrev pub held_of : List Plan → Held Plan
  held_of seen = streamed (rest y) (comes_before y) width seen

  -- done k s: the loop has come by the set s for the plan at place k
  pub record Gathered (done : ℕ → ℕ → Type 0) (l : List Plan) (dropped : Bool) : Type 0 where
    pub seen : List Plan
    pub values : (held_of seen).values ≡ l
    pub flag : (held_of seen).dropped ≡ dropped
    pub only : (q : Plan) → Memᴰ q seen → Memᴰ q (successors y (suc t) (kept y width t))
    pub all : (k s : ℕ) → k < length (kept y width t) → done k s → T (may_serve y (suc t) (rest y (from k)) s) → Memᴰ (s ∷ from k) seen

  -- the set s for the plan at place k, and what was done before
  abbrev pub And : (ℕ → ℕ → Type 0) → ℕ → ℕ → ℕ → ℕ → Type 0
  And done k s k' s' = done k' s' ⊎ ((k' ≡ k) × (s' ≡ s))
