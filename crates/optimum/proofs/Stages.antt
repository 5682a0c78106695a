-- Laws of Stages.antt of specs/.
-- The table of staged choices, for any test `ok` and any contribution `w`. `tab k t r` is the least value of the schedules that use up r
-- in k stages from stage t on, `inf` where none is below that; `choice k t r` is the largest first set of one of least value, and
-- `follow k t r` the schedule that the choices give. `tab_cheapest`: it is one, no other has a smaller value, and of those of equal
-- value it comes first. `tab_small`: where no contribution is above x, no value of k stages is above k times x, but for inf.
-- Assumes nothing.
use Rattle.std.specs.Prelude.{◌≡◌, T, eqb, length}
use Rattle.std.proofs.Math.Path.{refl, sym, ap}
use Rattle.std.proofs.Common.{◌∙◌, subst, ⊎_elim, arith, eq-zero-or-pos, ne_eqb}
use Rattle.std.proofs.Math.Bool.{cond}
use mathlib.Core.List.{List, [], ◌∷◌}
use Prim.Native.Nat.{ℕ, zero, suc, ◌+◌, ◌-◌, ◌*◌, ◌≤◌, ◌<◌}
use Rattle.sets.specs.Subset.{Sub}
use Rattle.optimum.specs.Workspace.{at}
use Rattle.optimum.specs.Least.{Least, Cell, best}
use Rattle.optimum.proofs.Least.{best_least, least_best, least_same}
use Rattle.optimum.specs.Offers.{offer}
use Rattle.optimum.proofs.Offers.{offer_yes, offer_same, offer_lt, offer_le}
use Rattle.optimum.specs.Schedules.{Test, Contribution, Schedule, value, Ahead}
use Rattle.optimum.proofs.Schedules.{ahead_cons}
use Rattle.optimum.specs.Stages.{candidate, cell, tab, choice, follow, Cheapest}

module _ (ok : Test) (w : Contribution) (inf : ℕ) where
  -- ---- one stage

  pub cell_least : (tail : ℕ → ℕ) (t r : ℕ) → Least inf ((candidate ok w inf) tail t r) r 0 ((cell ok w inf) tail t r).value ((cell ok w inf) tail t r).set
  unfolding cell
  cell_least tail t r = best_least inf ((candidate ok w inf) tail t r) r

  -- a loop that has tried every subset has found the cell
  pub cell-found : (tail : ℕ → ℕ) (t r : ℕ) {b c : ℕ} → Least inf ((candidate ok w inf) tail t r) r 0 b c → (b ≡ ((cell ok w inf) tail t r).value) × (c ≡ ((cell ok w inf) tail t r).set)
  unfolding cell
  cell-found tail t r h = least_best h

  -- it depends on the values of what its choices leave alone
  pub cell_reads : (tail tail' : ℕ → ℕ) (t r : ℕ) → ((s : ℕ) → Sub s r → T (ok t r s) → tail (r - s) ≡ tail' (r - s))
      → (((cell ok w inf) tail t r).value ≡ ((cell ok w inf) tail' t r).value) × (((cell ok w inf) tail t r).set ≡ ((cell ok w inf) tail' t r).set)
  cell_reads tail tail' t r e =
      cell-found tail' t r
      (least_same ((candidate ok w inf) tail' t r) (λ u hu. offer_same inf (ok t r u) (tail (r - u)) (tail' (r - u)) (w t r u) (e u hu)) (cell_least tail t r))

  pub tab_least : (k t r : ℕ) → Least inf ((candidate ok w inf) ((tab ok w inf) k (suc t)) t r) r 0 ((tab ok w inf) (suc k) t r) ((choice ok w inf) (suc k) t r)
  unfolding tab choice
  tab_least k t r = cell_least ((tab ok w inf) k (suc t)) t r

  -- where no stage is left, nothing may remain
  pub tab_done : (t r : ℕ) → r ≡ 0 → (tab ok w inf) 0 t r ≡ 0
  unfolding tab
  tab_done t r e = rw e

  pub tab_over : (t r : ℕ) → 0 < r → (tab ok w inf) 0 t r ≡ inf
  unfolding tab
  tab_over t r l = ap (λ b. cond b 0 inf) (ne_eqb r 0 (λ e. omega arith))

  tab_end : (t r : ℕ) → (tab ok w inf) 0 t r < inf → r ≡ 0
  tab_end t r l = ⊎_elim (λ (e : r ≡ 0). e) (λ (p : 0 < r). absurd (omega (arith, tab_over t r p))) (eq-zero-or-pos r)

  pub tab_capped : (k t r : ℕ) → (tab ok w inf) k t r ≤ inf
  tab_capped zero t r = ⊎_elim (λ (e : r ≡ 0). omega (arith, tab_done t r e)) (λ (p : 0 < r). omega (arith, tab_over t r p)) (eq-zero-or-pos r)
  tab_capped (suc k) t r = (tab_least k t r).capped

  -- ---- no schedule has a smaller value

  pub tab_lower : (k t r : ℕ) (q : List ℕ) → length q ≡ k → Schedule ok t r q → (tab ok w inf) k t r ≤ value w t r q
  tab_lower zero t r [] l h = omega (arith, tab_done t r h)
  tab_lower zero t r (s ∷ q) l h = absurd (omega arith)
  tab_lower (suc k) t r [] l h = absurd (omega arith)
  tab_lower (suc k) t r (s ∷ q) l h =
      omega (
        arith,
        (tab_least k t r).least s h.0 (omega arith),
        offer_le inf (ok t r s) ((tab ok w inf) k (suc t) (r - s)) (w t r s) (value w (suc t) (r - s) q) h.1 (tab_lower k (suc t) (r - s) q (omega arith) h.2),
      )

  -- ---- the schedule that the choices give

  -- a choice may be made, and leaves what has a schedule
  pub choice_lt : (k t r : ℕ) → (tab ok w inf) (suc k) t r < inf → T (ok t r ((choice ok w inf) (suc k) t r)) × ((tab ok w inf) k (suc t) (r - (choice ok w inf) (suc k) t r) < inf)
  choice_lt k t r l =
      let c = (choice ok w inf) (suc k) t r in
      offer_lt inf (ok t r c) ((tab ok w inf) k (suc t) (r - c)) (w t r c) (omega (arith, (tab_least k t r).reached l))

  pub choice_value : (k t r : ℕ) → (tab ok w inf) (suc k) t r < inf → (tab ok w inf) (suc k) t r ≡ (tab ok w inf) k (suc t) (r - (choice ok w inf) (suc k) t r) + w t r ((choice ok w inf) (suc k) t r)
  choice_value k t r l =
      let c = (choice ok w inf) (suc k) t r in
      sym ((tab_least k t r).reached l) ∙ offer_yes inf (ok t r c) ((tab ok w inf) k (suc t) (r - c)) (w t r c) (choice_lt k t r l).0 (choice_lt k t r l).1

  pub follow_length : (k t r : ℕ) → length ((follow ok w inf) k t r) ≡ k
  unfolding follow
  follow_length zero t r = refl
  follow_length (suc k) t r = ap suc (follow_length k (suc t) (r - (choice ok w inf) (suc k) t r))

  pub follow_schedule : (k t r : ℕ) → (tab ok w inf) k t r < inf → Schedule ok t r ((follow ok w inf) k t r)
  unfolding follow
  follow_schedule zero t r l = tab_end t r l
  follow_schedule (suc k) t r l =
      ((tab_least k t r).within l, (choice_lt k t r l).0, follow_schedule k (suc t) (r - (choice ok w inf) (suc k) t r) (choice_lt k t r l).1)

  pub follow_value : (k t r : ℕ) → (tab ok w inf) k t r < inf → value w t r ((follow ok w inf) k t r) ≡ (tab ok w inf) k t r
  unfolding follow
  follow_value zero t r l = sym (tab_done t r (tab_end t r l))
  follow_value (suc k) t r l = omega (arith, choice_value k t r l, follow_value k (suc t) (r - (choice ok w inf) (suc k) t r) (choice_lt k t r l).1)

  -- ---- schedules of least value, by their first set: it offers what the table says, and one of least value comes behind it

  pub cheapest_split : (k t r s : ℕ) (q : List ℕ) → length q ≡ k → (tab ok w inf) (suc k) t r < inf → Schedule ok t r (s ∷ q) → value w t r (s ∷ q) ≡ (tab ok w inf) (suc k) t r
      → ((candidate ok w inf) ((tab ok w inf) k (suc t)) t r s ≡ (tab ok w inf) (suc k) t r) × ((tab ok w inf) k (suc t) (r - s) < inf) × (value w (suc t) (r - s) q ≡ (tab ok w inf) k (suc t) (r - s))
  cheapest_split k t r s q n l h e =
      let low : (tab ok w inf) k (suc t) (r - s) ≤ value w (suc t) (r - s) q = tab_lower k (suc t) (r - s) q n h.2 in
      let v : (tab ok w inf) k (suc t) (r - s) < inf = omega arith in
      let c : (candidate ok w inf) ((tab ok w inf) k (suc t)) t r s ≡ (tab ok w inf) k (suc t) (r - s) + w t r s = offer_yes inf (ok t r s) ((tab ok w inf) k (suc t) (r - s)) (w t r s) h.1 v in
      let b : (tab ok w inf) (suc k) t r ≤ (candidate ok w inf) ((tab ok w inf) k (suc t)) t r s = (tab_least k t r).least s h.0 (omega arith) in
      (omega arith, v, omega arith)

  -- ---- the whole

  follow_first : (k t r : ℕ) → (tab ok w inf) k t r < inf → (q : List ℕ) → length q ≡ k → Schedule ok t r q → value w t r q ≡ (tab ok w inf) k t r
      → Ahead k (at ((follow ok w inf) k t r)) (at q)
  unfolding follow
  follow_first zero t r l q n h e = λ j m. absurd (omega arith)
  follow_first (suc k) t r l [] n h e = absurd (omega arith)
  follow_first (suc k) t r l (s ∷ q) n h e =
      let c = (choice ok w inf) (suc k) t r in
      let p = cheapest_split k t r s q (omega arith) l h e in
      ahead_cons k (at (c ∷ (follow ok w inf) k (suc t) (r - c))) (at (s ∷ q)) ((tab_least k t r).largest s h.0 (omega arith) p.0 l)
      (λ (i : c ≡ s).
      follow_first k (suc t) (r - c) (choice_lt k t r l).1 q (omega arith) (subst (λ x. Schedule ok (suc t) (r - x) q) (sym i) h.2)
      (subst (λ x. value w (suc t) (r - x) q ≡ (tab ok w inf) k (suc t) (r - x)) (sym i) p.2))

  pub tab_cheapest : (k t r : ℕ) → (tab ok w inf) k t r < inf → (Cheapest ok w inf) k t r ((tab ok w inf) k t r) ((follow ok w inf) k t r)
  tab_cheapest k t r l =
      record {
        long = follow_length k t r;
        allowed = follow_schedule k t r l;
        valued = follow_value k t r l;
        least = tab_lower k t r;
        first = follow_first k t r l;
      }

  -- ---- bounds: at stages below `top` and for sets up to `cap` no contribution is above x

  module _ (top cap x : ℕ) (small : (t r s : ℕ) → t < top → r ≤ cap → Sub s r → T (ok t r s) → w t r s ≤ x) where
    pub value_le : (t r : ℕ) (p : List ℕ) → t + length p ≤ top → r ≤ cap → Schedule ok t r p → value w t r p ≤ length p * x
    value_le t r [] b c h = omega arith
    value_le t r (s ∷ p) b c h = omega (arith, value_le (suc t) (r - s) p (omega arith) (omega arith) h.2, small t r s (omega arith) c h.0 h.1)

    -- a value in the table is inf or at most k x: with a contribution more it still fits
    pub tab_small : (k t r : ℕ) → t + k ≤ top → r ≤ cap → (tab ok w inf) k t r < inf → (tab ok w inf) k t r ≤ k * x
    tab_small k t r b c l =
        let v = value_le t r ((follow ok w inf) k t r) (omega (arith, follow_length k t r)) c (follow_schedule k t r l) in
        omega (arith, v, ap (λ n. n * x) (follow_length k t r), follow_value k t r l)
