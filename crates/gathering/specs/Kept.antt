-- What is known of the plans that a loop through the successors of one slot holds: they stand in order, they are no more than the width, and
-- each is a plan of the search.
-- Assumes nothing.
use Rattle.std.specs.Prelude.{◌≡◌, Bool, ℕ, suc, ◌≤◌, T, length, take}
use Rattle.std.proofs.Common.{sym, ap, ◌∙◌, subst, arith, length-take}
use mathlib.Core.List.{List, Memᴰ}
use Rattle.model.specs.Model.{Yard}
use Rattle.merging.proofs.First.{take_of}
use Rattle.merging.specs.Merging.{InOrder, merged}
use Rattle.merging.proofs.Merging.{is_merged}
use Rattle.merging.specs.Streaming.{Held}
use Rattle.merging.proofs.Streaming.{take_ordered, streamed_is}
use Rattle.beam.specs.Beam.{Plan, rest, comes_before, may_serve, kept}
use Rattle.beam.specs.Paths.{Path}
use Rattle.beam.proofs.Successors.{successor_of, plans_order, kept_of, remained_path}
use Rattle.beam.specs.Gathering.{Gathered}

module _ (y : Yard) (width t : ℕ) where
  -- a plan with a set more that may be served is one of the search
  pub next_path : (p : Plan) (s : ℕ) → Memᴰ p (kept y width t) → T (may_serve y (suc t) (rest y p) s) → T (may_serve y (suc (length p)) (rest y p) s) × Path y p
  next_path p s among may =
      let (path, long) = remained_path y width t p (kept_of y width t p among) in
      (subst (λ k. T (may_serve y (suc k) (rest y p) s)) (sym long) may, path)

  module _ {done : ℕ → ℕ → Type 0} {l : List Plan} {dropped : Bool} (g : Gathered y width t done l dropped) where
    is_first : l ≡ take width (merged (rest y) (comes_before y) g.seen)
    is_first = sym g.values ∙ ap (λ (h : Held Plan). h.values) (streamed_is (rest y) (comes_before y) (plans_order y) width g.seen)

    pub gathered_ordered : InOrder (rest y) (comes_before y) l
    gathered_ordered =
        subst (InOrder (rest y) (comes_before y)) (sym is_first)
        (take_ordered (rest y) (comes_before y) (plans_order y) width (merged (rest y) (comes_before y) g.seen) (is_merged (rest y) (comes_before y) (plans_order y) g.seen).ordered)

    pub gathered_few : length l ≤ width
    gathered_few = omega (arith, ap length is_first, length-take width (merged (rest y) (comes_before y) g.seen))

    pub gathered_path : (q : Plan) → Memᴰ q l → Path y q
    gathered_path q at =
        let among = take_of width (merged (rest y) (comes_before y) g.seen) q (subst (Memᴰ q) is_first at) in
        let x = successor_of y (suc t) (kept y width t) q (g.only q ((is_merged (rest y) (comes_before y) (plans_order y) g.seen).only q among)) in
        subst (Path y) (sym x.is) (next_path x.before x.served x.among x.may)
