-- Cells that are known without trying the subsets. At the last stage only the whole of what remains can be chosen, since nothing may be
-- left: its cell is that choice (`last_whole`) or none (`last_none`). Where no choice has more than g positions, a set of more than g for
-- each stage that is left has no schedule (`crowded_none`); nor has a set with a position that no choice of these stages has
-- (`outside_none`).
-- Assumes nothing.
use Rattle.std.specs.Prelude.{◌≡◌, refl, List, [], ◌∷◌, T, length}
use Rattle.std.proofs.Math.Path.{sym}
use Rattle.std.proofs.Common.{ap, ◌∙◌, subst, ⊎_elim, eq-or-lt_of_le, le_antisymm}
use Prim.Native.Nat.{ℕ, zero, suc, ◌+◌, ◌-◌, ◌*◌, ◌≤◌, ◌<◌, min}
use native.Mathlib.Omega.{arith}
use Rattle.std.specs.Int.Count.{ones}
use Rattle.std.proofs.lemmas.Nat.{ones-le}
use Rattle.fold.specs.Counting.{le_or_lt}
use Rattle.sets.specs.Subset.{Sub, sub_le, sub_refl, sub_zero, sub_parts, ones_rest}
use Rattle.optimum.proofs.Offers.{offer_yes, offer_no}
use Rattle.optimum.specs.Schedules.{Test, Contribution, Schedule}
use Rattle.optimum.specs.Stages.{candidate, tab, choice, follow}
use Rattle.optimum.proofs.Stages.{cell-found, tab_least, tab_done, tab_over, tab_capped, follow_length, follow_schedule}

module _ (ok : Test) (w : Contribution) (inf : ℕ) where
  -- ---- the last stage

  module _ (t r : ℕ) where
    offers : ℕ → ℕ
    offers = candidate ok w inf (tab ok w inf 0 (suc t)) t r

    -- a part of r leaves something, and no stage is left for it
    part_none : (u : ℕ) → u < r → offers u ≡ inf
    unfolding offers
    part_none u l = offer_no inf (ok t r u) (tab ok w inf 0 (suc t) (r - u)) (w t r u) (λ m. omega (arith, tab_over ok w inf (suc t) (r - u) (omega arith)))

    -- so no choice offers less than r does, or they offer inf
    whole_least : (u : ℕ) → Sub u r → min (offers r) inf ≤ offers u
    whole_least u hu = ⊎_elim (λ (e : u ≡ r). omega (arith, ap offers e)) (λ (m : u < r). omega (arith, part_none u m)) (eq-or-lt_of_le (sub_le u r hu))

    -- r leaves nothing
    whole_offers : T (ok t r r) → w t r r < inf → offers r ≡ w t r r
    unfolding offers
    whole_offers may l =
        let e : tab ok w inf 0 (suc t) (r - r) ≡ 0 = tab_done ok w inf (suc t) (r - r) (omega arith) in
        offer_yes inf (ok t r r) (tab ok w inf 0 (suc t) (r - r)) (w t r r) may (omega arith) ∙ omega arith

    pub last_whole : T (ok t r r) → w t r r < inf → (w t r r ≡ tab ok w inf 1 t r) × (r ≡ choice ok w inf 1 t r)
    unfolding tab choice offers
    last_whole may l =
        let whole = whole_offers may l in
        cell-found ok w inf (tab ok w inf 0 (suc t)) t r
        (record {
          capped = omega arith;
          nothing = λ e. absurd (omega arith);
          within = λ q. sub_refl r;
          tried = λ q. omega arith;
          reached = λ q. whole;
          least = λ u hu k. omega (arith, whole, whole_least u hu);
          largest = λ u hu k e q. sub_le u r hu;
        })

    pub last_none : (T (ok t r r) → ⊥) → (inf ≡ tab ok w inf 1 t r) × (0 ≡ choice ok w inf 1 t r)
    unfolding tab choice offers
    last_none not =
        let whole : offers r ≡ inf = offer_no inf (ok t r r) (tab ok w inf 0 (suc t) (r - r)) (w t r r) (λ m. absurd (not m)) in
        cell-found ok w inf (tab ok w inf 0 (suc t)) t r
        (record {
          capped = omega arith;
          nothing = λ e. refl;
          within = λ q. absurd (omega arith);
          tried = λ q. absurd (omega arith);
          reached = λ q. absurd (omega arith);
          least = λ u hu k. omega (arith, whole, whole_least u hu);
          largest = λ u hu k e q. absurd (omega arith);
        })

  -- ---- what no schedule uses up

  no_schedule : (k t r : ℕ) → ((p : List ℕ) → length p ≡ k → Schedule ok t r p → ⊥) → inf ≡ tab ok w inf k t r
  no_schedule k t r none =
      ⊎_elim (λ (m : inf ≤ tab ok w inf k t r). le_antisymm m (tab_capped ok w inf k t r))
      (λ (m : tab ok w inf k t r < inf). absurd (none (follow ok w inf k t r) (follow_length ok w inf k t r) (follow_schedule ok w inf k t r m)))
      (le_or_lt inf (tab ok w inf k t r))

  none_cell : (k t r : ℕ) → ((p : List ℕ) → length p ≡ k → Schedule ok t r p → ⊥) → (inf ≡ tab ok w inf k t r) × (0 ≡ choice ok w inf k t r)
  unfolding choice
  none_cell zero t r none = (no_schedule 0 t r none, refl)
  none_cell (suc k) t r none = let e = no_schedule (suc k) t r none in (e, sym ((tab_least ok w inf k t r).nothing (sym e)))

  -- no choice from a set up to `cap` has more than g positions
  module _ (cap g : ℕ) (few : (t r s : ℕ) → r ≤ cap → Sub s r → T (ok t r s) → ones s ≤ g) where
    schedule_ones : (t r : ℕ) (p : List ℕ) → r ≤ cap → Schedule ok t r p → ones r ≤ length p * g
    schedule_ones t r [] c h = omega (arith, ap ones h, ones-le 0 0 (omega arith))
    schedule_ones t r (s ∷ p) c h =
        omega (arith, schedule_ones (suc t) (r - s) p (omega arith) h.2, few t r s c h.0 h.1, ones_rest s r h.0)

    pub crowded_none : (k t r : ℕ) → r ≤ cap → k * g < ones r → (inf ≡ tab ok w inf k t r) × (0 ≡ choice ok w inf k t r)
    crowded_none k t r c l = none_cell k t r (λ p n h. omega (arith, schedule_ones t r p c h, ap (λ x. x * g) n))

  -- no choice of the stages from `first` on, below `top`, has a position outside u
  module _ (first top u : ℕ) (inside : (t r s : ℕ) → first ≤ t → t < top → T (ok t r s) → Sub s u) where
    schedule_inside : (t r : ℕ) (p : List ℕ) → first ≤ t → t + length p ≤ top → Schedule ok t r p → Sub r u
    schedule_inside t r [] a b h = subst (λ x. Sub x u) (sym h) (sub_zero u)
    schedule_inside t r (s ∷ p) a b h =
        sub_parts s r u h.0 (inside t r s a (omega arith) h.1) (schedule_inside (suc t) (r - s) p (omega arith) (omega arith) h.2)

    pub outside_none : (k t r : ℕ) → first ≤ t → t + k ≤ top → (Sub r u → ⊥) → (inf ≡ tab ok w inf k t r) × (0 ≡ choice ok w inf k t r)
    outside_none k t r a b not = none_cell k t r (λ p n h. not (schedule_inside t r p a (omega arith) h))
