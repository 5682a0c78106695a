-- Laws of Successors.antt of specs/.
-- The lists that the search goes by: what is among the successors of some partial plans, and that all merged plans are plans of the search
-- with one set for each slot (`remained_path`).
-- Assumes nothing.
use Rattle.std.specs.Prelude.{◌≡◌, Bool, cond, T}
use Rattle.std.proofs.Math.Path.{refl, sym, ap}
use Rattle.std.proofs.Common.{◌∙◌, subst, arith}
use Rattle.std.proofs.Math.Bool.{true, false}
use Rattle.std.proofs.Math.Logic.{⊎_elim}
use mathlib.Core.List.Memᴰ
use mathlib.Core.List.{List, [], ◌∷◌, Memᴰ}
use Prim.Native.Nat.{ℕ, zero, suc, ◌<◌}
use Rattle.std.proofs.Math.ListN.{length}
use Rattle.fold.specs.Test.{of_true, of_false}
use Rattle.sets.specs.Subset.{sub_le}
use Rattle.sets.specs.Rest.{full}
use Rattle.model.specs.Model.{Yard}
use Rattle.model.specs.Order.{Order}
use Rattle.model.proofs.Order.{key_order, converse, along, lower_order}
use Rattle.model.specs.Model.{lower}
use Rattle.merging.proofs.First.{take_of}
use Rattle.beam.proofs.Listing.{passing_of, passing-at}
use Rattle.merging.specs.Merging.{Merged}
use Rattle.merging.proofs.Merging.{is_merged}
use Rattle.beam.specs.Beam.{Plan, rest, cost_so_far, revisits_so_far, slots_so_far, set_in, earlier, comes_before, discarded, may_serve, passing, extensions, successors, remained, kept}
use Rattle.beam.specs.Paths.{Path}
use Rattle.beam.proofs.Paths.{may_serve_lem}
use Rattle.beam.specs.Successors.{Extends}

module _ (y : Yard) (t : ℕ) where
  pub successor_of : (l : List Plan) (q : Plan) → Memᴰ q (successors y t l) → (Extends y t) l q
  unfolding successors extensions
  successor_of [] q at = absurd (Memᴰ.not-nil at)
  successor_of (p ∷ l) q at =
      ⊎_elim
      (λ a.
      let (s, in_List, e) = Memᴰ.of_map (λ s. s ∷ p) (passing (suc (rest y p)) (may_serve y t (rest y p))) a in
      record { before = p; served = s; among = Memᴰ.head refl; is = sym e; may = passing_of (suc (rest y p)) (may_serve y t (rest y p)) s in_List })
      (λ a.
      let x = successor_of l q a in
      record { before = x.before; served = x.served; among = Memᴰ.tail x.among; is = x.is; may = x.may })
      (Memᴰ.append_cases (extensions y t p) at)

  pub successor_at : (l : List Plan) (p : Plan) (s : ℕ) → Memᴰ p l → T (may_serve y t (rest y p) s) → Memᴰ (s ∷ p) (successors y t l)
  unfolding successors extensions
  successor_at [] p s at may = absurd (Memᴰ.not-nil at)
  successor_at (w ∷ l) p s at may =
      ⊎_elim
      (λ (e : p ≡ w).
      let small : s < suc (rest y p) = omega (arith, sub_le s (rest y p) (may_serve_lem y t (rest y p) s may).0) in
      Memᴰ.append_left (successors y t l)
      (subst (λ z. Memᴰ (s ∷ p) (extensions y t z)) e (Memᴰ.map (λ s. s ∷ p) (passing-at (suc (rest y p)) (may_serve y t (rest y p)) s small may))))
      (λ a. Memᴰ.append_right (extensions y t w) (successor_at l p s a may))
      (Memᴰ.cases_cons at)

-- ---- the order of partial plans, and what remains merged

pub plans_order : (y : Yard) → Order (comes_before y)
unfolding comes_before earlier
plans_order y =
    key_order (cost_so_far y) _
    (key_order (revisits_so_far y) _
    (key_order slots_so_far _ (along (λ f g. lower y.slots g f) (converse (lower y.slots) (lower_order y.slots)) set_in)))

module _ (y : Yard) (width : ℕ) where
  pub remained_merged : (t : ℕ) → Merged (rest y) (comes_before y) (successors y (suc t) (kept y width t)) (remained y width (suc t))
  unfolding remained kept
  remained_merged t = is_merged (rest y) (comes_before y) (plans_order y) (successors y (suc t) (kept y width t))

  start_of : (p : Plan) → Memᴰ p (remained y width 0) → Path y p × (length p ≡ 0)
  unfolding remained
  start_of p = go (discarded y 0 (full y.trains)) refl
    where
      go : (b : Bool) → discarded y 0 (full y.trains) ≡ b → Memᴰ p (cond b [] ([] ∷ [])) → Path y p × (length p ≡ 0)
      go true e at = absurd (Memᴰ.not-nil at)
      go false e at =
          ⊎_elim (λ (q : p ≡ []). (subst (Path y) (sym q) (of_false e), ap length q)) (λ a. absurd (Memᴰ.not-nil a)) (Memᴰ.cases_cons at)

  pub start_at : (p : Plan) → p ≡ [] → (T (discarded y 0 (full y.trains)) → ⊥) → Memᴰ p (remained y width 0)
  unfolding remained
  start_at p q keep = go (discarded y 0 (full y.trains)) refl
    where
      go : (b : Bool) → discarded y 0 (full y.trains) ≡ b → Memᴰ p (cond b [] ([] ∷ []))
      go true e = absurd (keep (of_true e))
      go false e = Memᴰ.head q

  pub kept_of : (t : ℕ) (p : Plan) → Memᴰ p (kept y width t) → Memᴰ p (remained y width t)
  unfolding kept
  kept_of t p at = take_of width (remained y width t) p at

  pub remained_path : (t : ℕ) (p : Plan) → Memᴰ p (remained y width t) → Path y p × (length p ≡ t)
  remained_path zero p at = start_of p at
  remained_path (suc t) p at =
      let x = successor_of y (suc t) (kept y width t) p ((remained_merged t).only p at) in
      let (path, long) = remained_path t x.before (kept_of t x.before x.among) in (
        subst (Path y) (sym x.is) (subst (λ k. T (may_serve y (suc k) (rest y x.before) x.served)) (sym long) x.may, path),
        ap length x.is ∙ ap suc long,
      )
