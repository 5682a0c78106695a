-- One slot of the search as a loop does it: whichever way it comes by the successors, the `width` plans that it holds at the end are those that
-- are kept, and its flag says that more remained (`slot_done`). For the order tells partial plans apart (`plans_apart`).
-- Assumes nothing.
use Rattle.std.specs.Prelude.{◌≡◌, refl, Bool, cond, T}
use Rattle.std.proofs.Math.Path.{sym, ap}
use Rattle.std.proofs.Common.{ap₂, ◌∙◌, le_antisymm, arith, eq-eqb, ne_eqb}
use mathlib.Core.List.{List, [], ◌∷◌, Memᴰ}
use Prim.Native.Nat.{ℕ, suc, ◌≤◌, ◌<◌}
use Rattle.std.proofs.Math.Dec.{ltb}
use Rattle.std.proofs.Math.ListN.{length, take}
use Rattle.model.specs.Model.{Yard, by_key}
use Rattle.model.proofs.Order.{key_not, lower_same}
use Rattle.beam.specs.Beam.{Plan, rest, cost_so_far, revisits_so_far, slots_so_far, set_in, earlier, comes_before, successors, remained, kept}
use Rattle.merging.specs.Merging.{merged}
use Rattle.merging.proofs.Merging.{is_merged}
use Rattle.merging.specs.Streaming.{streamed}
use Rattle.merging.proofs.Streaming.{streamed_is}
use Rattle.merging.proofs.OneMerged.{merged_unique}
use Rattle.beam.proofs.Successors.{successor_of, plans_order, kept_of, remained_merged, remained_path}

-- plans with the same sets are equal
same_plan : (p q : Plan) → length p ≡ length q → ((j : ℕ) → j < length p → set_in p j ≡ set_in q j) → p ≡ q
unfolding set_in
same_plan [] [] e h = refl
same_plan [] (u ∷ q) e h = absurd (omega arith)
same_plan (s ∷ p) [] e h = absurd (omega arith)
same_plan (s ∷ p) (u ∷ q) e h =
    let long : length p ≡ length q = omega arith in
    ap₂ (λ (x : ℕ) (r : Plan). x ∷ r)
    (sym (ap (λ b. cond b s (set_in p (length p))) (eq-eqb (length p) (length p) refl)) ∙ h (length p) (omega arith)
    ∙ ap (λ b. cond b u (set_in q (length p))) (eq-eqb (length p) (length q) long))
    (same_plan p q long
    (λ j l.
    sym (ap (λ b. cond b s (set_in p j)) (ne_eqb j (length p) (λ e. omega arith))) ∙ h j (omega arith)
    ∙ ap (λ b. cond b u (set_in q j)) (ne_eqb j (length q) (λ e. omega arith))))

-- not before either way: equal keys, and neither is before in the order
key_both : {X : Type 0} (key : X → ℕ) (before : X → X → Bool) (r s : X) → (T (by_key key before r s) → ⊥) → (T (by_key key before s r) → ⊥)
    → (T (before r s) → ⊥) × (T (before s r) → ⊥)
key_both key before r s a b =
    let p = key_not key before r s a in
    let q = key_not key before s r b in
    let e : key r ≡ key s = le_antisymm q.0 p.0 in
    (p.1 e, q.1 (sym e))

module _ (y : Yard) where
  pub plans_apart : (p q : Plan) → length p ≡ length q → length p ≤ y.slots → (T (comes_before y p q) → ⊥) → (T (comes_before y q p) → ⊥) → p ≡ q
  unfolding comes_before earlier
  plans_apart p q e h a b =
      let cost = key_both (cost_so_far y) _ p q a b in
      let revisits = key_both (revisits_so_far y) _ p q cost.0 cost.1 in
      let slots = key_both slots_so_far _ p q revisits.0 revisits.1 in
      same_plan p q e (λ j l. lower_same y.slots (set_in p) (set_in q) slots.1 slots.0 j (omega arith))

  -- seen: the successors that the loop came by, each once or more
  pub slot_done : (width t : ℕ) (seen : List Plan) → suc t ≤ y.slots
      → ((q : Plan) → Memᴰ q seen → Memᴰ q (successors y (suc t) (kept y width t)))
      → ((q : Plan) → Memᴰ q (successors y (suc t) (kept y width t)) → Memᴰ q seen)
      → streamed (rest y) (comes_before y) width seen
      ≡ record { values = kept y width (suc t); dropped = ltb width (length (remained y width (suc t))) }
  unfolding kept
  slot_done width t seen h only all =
      streamed_is (rest y) (comes_before y) (plans_order y) width seen
      ∙ ap (λ (l : List Plan). record { values = take width l; dropped = ltb width (length l) })
      (merged_unique (rest y) (comes_before y) (plans_order y) seen (successors y (suc t) (kept y width t)) (merged (rest y) (comes_before y) seen) (remained y width (suc t))
      (λ p q a b. plans_apart p q (long p (only p a) ∙ sym (long q (only q b))) (let e = long p (only p a) in omega arith)) only all
      (is_merged (rest y) (comes_before y) (plans_order y) seen) (remained_merged y width t))
    where
      long : (q : Plan) → Memᴰ q (successors y (suc t) (kept y width t)) → length q ≡ suc t
      long q at =
          let x = successor_of y (suc t) (kept y width t) q at in
          ap length x.is ∙ ap suc (remained_path y width t x.before (kept_of y width t x.before x.among)).1
