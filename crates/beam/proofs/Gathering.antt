-- Laws of Gathering.antt of specs/.
-- The invariant of the loop through the successors of one slot (`Gathered`): the plans l and the flag are what came of the successors seen so far,
-- and those that are done are among them. Each turn is one of three: the set may not be served (`gathered_skip`), the plan joins (`gathered_add`),
-- or there is no room and it comes before none that is held (`gathered_reject`); this needs no test whether it would be discarded. When all are
-- done, the plans are those that are kept and the flag says that more remained (`gathered_kept`).
-- Assumes nothing.
use Rattle.std.specs.Prelude.{◌≡◌, refl, Bool, true, false, ◌||◌, ◌⊎◌, ℕ, zero, suc, ◌≤◌, ◌<◌, T, length, get_or}
use Rattle.std.proofs.Common.{sym, ◌∙◌, subst, subst₂, inl, inr, le_of_suc-le-suc, arith}
use Rattle.std.proofs.Math.Path.{ap}
use Rattle.std.proofs.Math.Logic.{⊎_elim}
use mathlib.Core.List.Memᴰ
use mathlib.Core.List.{List, [], ◌∷◌, Memᴰ}
use Rattle.std.proofs.Math.Dec.{ltb}
use Rattle.std.proofs.Math.ListN.{take}
use Rattle.fold.specs.Test.{test}
use Rattle.model.specs.Model.{Yard}
use Rattle.merging.specs.Merging.{add}
use Rattle.merging.specs.Streaming.{Held, streamed}
use Rattle.merging.proofs.Streaming.{rejected}
use Rattle.beam.specs.Beam.{Plan, rest, comes_before, may_serve, successors, remained, kept}
use Rattle.beam.proofs.Successors.{successor_of, successor_at, plans_order}
use Rattle.beam.proofs.Loop.{slot_done}
use Rattle.beam.specs.Gathering.{from, held_of, Gathered, And}

-- ---- places in a list

place_of_lem : {X : Type 0} (l : List X) (none x : X) → Memᴰ x l → (k : ℕ) × (k < length l) × (get_or l k none ≡ x)
place_of_lem [] none x at = absurd (Memᴰ.not-nil at)
place_of_lem (z ∷ l) none x at =
    ⊎_elim (λ (q : x ≡ z). (0, omega arith, sym q)) (λ a. let (k, h, e) = place_of_lem l none x a in (suc k, omega arith, e)) (Memᴰ.cases_cons at)

pub at_place : {X : Type 0} (l : List X) (none : X) (k : ℕ) → k < length l → Memᴰ (get_or l k none) l
at_place [] none k h = absurd (omega arith)
at_place (z ∷ l) none zero h = Memᴰ.head refl
at_place (z ∷ l) none (suc k) h = Memᴰ.tail (at_place l none k (le_of_suc-le-suc h))

module _ (y : Yard) (width t : ℕ) where
  pub gathered_none : (done : ℕ → ℕ → Type 0) → ((k s : ℕ) → done k s → ⊥) → (Gathered y width t) done [] false
  unfolding streamed
  gathered_none done no_one = record {
    seen = [];
    values = refl;
    flag = refl;
    only = λ q at. absurd (Memᴰ.not-nil at);
    all = λ k s l d. absurd (no_one k s d);
  }

  -- more is done that may not be served, or that was done before
  pub gathered_skip : (done done' : ℕ → ℕ → Type 0) (l : List Plan) (dropped : Bool)
      → ((k s : ℕ) → k < length (kept y width t) → done' k s → T (may_serve y (suc t) (rest y ((from y width t) k)) s) → done k s) → (Gathered y width t) done l dropped → (Gathered y width t) done' l dropped
  gathered_skip done done' l dropped before g =
      record { seen = g.seen; values = g.values; flag = g.flag; only = g.only; all = λ k s h d may. g.all k s h (before k s h d may) may }

  module _ (done : ℕ → ℕ → Type 0) (l : List Plan) (dropped : Bool) (k s : ℕ) (h : k < length (kept y width t)) (g : (Gathered y width t) done l dropped) where
    -- the plan is seen
    more : List Plan
    more = (s ∷ (from y width t) k) ∷ g.seen

    more_all : (k' s' : ℕ) → k' < length (kept y width t) → (And y width t) done k s k' s' → T (may_serve y (suc t) (rest y ((from y width t) k')) s') → Memᴰ (s' ∷ (from y width t) k') more
    unfolding more
    more_all k' s' h' (inl d) may = Memᴰ.tail (g.all k' s' h' d may)
    more_all k' s' h' (inr e) may = Memᴰ.head (λ i. e.1 i ∷ (from y width t) (e.0 i))

    more_only : T (may_serve y (suc t) (rest y ((from y width t) k)) s) → (q : Plan) → Memᴰ q more → Memᴰ q (successors y (suc t) (kept y width t))
    unfolding more
    more_only may q at =
        ⊎_elim (λ (e : q ≡ s ∷ (from y width t) k). Memᴰ.cast e (successor_at y (suc t) (kept y width t) ((from y width t) k) s (at_place (kept y width t) [] k h) may))
        (λ a. g.only q a) (Memᴰ.cases_cons at)

    pub gathered_add : T (may_serve y (suc t) (rest y ((from y width t) k)) s)
        → (Gathered y width t) ((And y width t) done k s) (take width (add (rest y) (comes_before y) (s ∷ (from y width t) k) l)) (dropped || ltb width (length (add (rest y) (comes_before y) (s ∷ (from y width t) k) l)))
    unfolding more streamed
    gathered_add may = record {
      seen = more;
      values = ap (λ (r : List Plan). take width (add (rest y) (comes_before y) (s ∷ (from y width t) k) r)) g.values;
      flag = λ i. g.flag i || ltb width (length (add (rest y) (comes_before y) (s ∷ (from y width t) k) (g.values i)));
      only = more_only may;
      all = more_all;
    }

    pub gathered_reject : dropped ≡ true → length l ≡ width → ((z : Plan) → Memᴰ z l → T (comes_before y (s ∷ (from y width t) k) z) → ⊥) → (Gathered y width t) ((And y width t) done k s) l dropped
    gathered_reject full long later =
        ⊎_elim
        (λ may.
        let x : Plan = s ∷ (from y width t) k in
        let same : take width (add (rest y) (comes_before y) (s ∷ (from y width t) k) l) ≡ l =
        subst (λ w. take w (add (rest y) (comes_before y) (s ∷ (from y width t) k) l) ≡ l) long (rejected (rest y) (comes_before y) (plans_order y) (s ∷ (from y width t) k) l later) in
        let still : (dropped || ltb width (length (add (rest y) (comes_before y) (s ∷ (from y width t) k) l))) ≡ dropped =
        ap (λ b. b || ltb width (length (add (rest y) (comes_before y) (s ∷ (from y width t) k) l))) full ∙ sym full in
        subst₂ ((Gathered y width t) ((And y width t) done k s)) same still (gathered_add may))
        (λ (not-may : T (may_serve y (suc t) (rest y ((from y width t) k)) s) → ⊥).
        gathered_skip done ((And y width t) done k s) l dropped (λ k' s' h' d may. ⊎_elim (λ e. e) (λ e. absurd (not-may (subst₂ (λ a b. T (may_serve y (suc t) (rest y ((from y width t) a)) b)) e.0 e.1 may))) d) g)
        (test (may_serve y (suc t) (rest y ((from y width t) k)) s))

  pub gathered_kept : (done : ℕ → ℕ → Type 0) (l : List Plan) (dropped : Bool) → suc t ≤ y.slots → ((k s : ℕ) → k < length (kept y width t) → T (may_serve y (suc t) (rest y ((from y width t) k)) s) → done k s)
      → (Gathered y width t) done l dropped → (l ≡ kept y width (suc t)) × (dropped ≡ ltb width (length (remained y width (suc t))))
  gathered_kept done l dropped h every g =
      let e = slot_done y width t g.seen h g.only every_seen in
      (sym g.values ∙ ap (λ (r : Held Plan). r.values) e, sym g.flag ∙ ap (λ (r : Held Plan). r.dropped) e)
    where
      every_seen : (q : Plan) → Memᴰ q (successors y (suc t) (kept y width t)) → Memᴰ q g.seen
      every_seen q at =
          let x = successor_of y (suc t) (kept y width t) q at in
          let (k, l, e) = place_of_lem (kept y width t) [] x.before x.among in
          let may : T (may_serve y (suc t) (rest y ((from y width t) k)) x.served) = subst (λ p. T (may_serve y (suc t) (rest y p) x.served)) (sym e) x.may in
          Memᴰ.cast (x.is ∙ ap (λ (p : Plan). x.served ∷ p) (sym e)) (g.all k x.served l (every k x.served l may) may)
