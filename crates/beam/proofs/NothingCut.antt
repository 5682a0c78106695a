-- Laws of NothingCut.antt of specs/.
-- Where no slot had more merged partial plans than the width, nothing was cut: each plan of the search has one that stands for it
-- (`stands`), since equal trains served next keep the order of two plans that leave the same trains (`same_set-before`). So the search gives
-- the best of all rows that fit, in order 5 (`beam_best`).
-- Assumes nothing.
use Rattle.std.specs.Prelude.{◌≡◌, Bool, ◌&&◌, ◌≢◌}
use Rattle.std.proofs.Math.Path.{refl, sym, ap, subst}
use Rattle.std.proofs.Common.{◌∙◌, subst₂, lt→ltb, eqb→eq, eq-eqb, ne_eqb}
use Rattle.std.proofs.Math.Bool.{true, false, cond}
use Rattle.std.proofs.Math.Logic.{⊎_elim}
use mathlib.Core.List.Memᴰ
use mathlib.Core.List.{List, [], ◌∷◌, Memᴰ}
use Rattle.std.proofs.Math.Option.{Option, none, some}
use Prim.Native.Nat.{ℕ, zero, suc, ◌+◌, ◌-◌, ◌*◌, ◌≤◌, ◌<◌}
use native.Mathlib.Omega.{arith}
use Rattle.std.specs.Int.Count.{ones}
use Rattle.std.proofs.Math.Dec.{T, ltb, eqb, ltb→lt}
use Rattle.std.proofs.Math.ListN.{length}
use Rattle.std.proofs.Math.Seq.{take_all}
use Rattle.fold.specs.Test.{of_true, both, both_of}
use Rattle.fold.specs.Fold.{each, some_at, some_of, each_at, each_i}
use Rattle.fold.specs.Counting.{same_or, le_or_lt, zero_count}
use Rattle.sets.specs.Rest.{full}
use Rattle.model.specs.Model.{Yard, lower, by_key}
use Rattle.model.proofs.Order.{key_cases, key_less, key_same, irrefl}
use Rattle.feasibility.specs.Bound.{Windows}
use Rattle.staging.specs.Tables.{late_trains, slot_cost}
use Rattle.merging.specs.Merging.{StandsFor, InOrder}
use Rattle.beam.specs.Beam.{Plan, rest, cost_so_far, revisits_so_far, slots_so_far, set_in, row_of, earlier, comes_before, discarded, may_serve, remained, kept, full_slots, first_row, beam_row}
use Rattle.beam.specs.Paths.{Path}
use Rattle.beam.proofs.Completing.{whole_fits}
use Rattle.beam.specs.RowPlans.{plan_of}
use Rattle.beam.proofs.RowPlans.{plan_length, plan_path, same_order}
use Rattle.beam.proofs.Successors.{successor_at, plans_order, start_at, remained_merged, remained_path}
use Rattle.beam.specs.Result.{BestFitting, NoneFits}
use Rattle.beam.proofs.Result.{whole_plan, whole-rest}
use Rattle.beam.specs.NothingCut.{SaysBest}

-- ---- the same set served next keeps the order

-- a smaller key at the same step more was a smaller key
key_before : {X : Type 0} (key : X → ℕ) (before : X → X → Bool) (r s r' s' : X) (d : ℕ) → key r' ≡ key r + d → key s' ≡ key s + d
    → (T (before r' s') → T (before r s)) → T (by_key key before r' s') → T (by_key key before r s)
key_before key before r s r' s' d e q h t =
    ⊎_elim (λ l. key_less key before r s (omega arith)) (λ w. let same = w.0 in key_same key before r s (omega arith) (h w.1)) (key_cases key before r' s' t)

-- a slot to come has no set
set_none : (p : Plan) (j : ℕ) → length p ≤ j → set_in p j ≡ 0
unfolding set_in
set_none [] j h = refl
set_none (s ∷ p) j h = ap (λ b. cond b s (set_in p j)) (ne_eqb j (length p) (λ e. omega arith)) ∙ set_none p j (omega arith)

module _ (y : Yard) (s : ℕ) (p q : Plan) (long : length p ≡ length q) where
  here : (p : Plan) (j : ℕ) → j ≡ length p → set_in (s ∷ p) j ≡ s
  unfolding set_in
  here p j e = ap (λ b. cond b s (set_in p j)) (eq-eqb j (length p) e)

  there : (p : Plan) (j : ℕ) → j ≢ length p → set_in (s ∷ p) j ≡ set_in p j
  unfolding set_in
  there p j d = ap (λ b. cond b s (set_in p j)) (ne_eqb j (length p) d)

  earlier-before : T (earlier y (s ∷ p) (s ∷ q)) → T (earlier y p q)
  unfolding earlier lower
  earlier-before t =
      let (j, l, w) = some_of y.slots (λ t. ltb (set_in (s ∷ q) t) (set_in (s ∷ p) t) && each t λ u. eqb (set_in (s ∷ q) u) (set_in (s ∷ p) u)) t in
      let (less, same) = both_of (ltb (set_in (s ∷ q) j) (set_in (s ∷ p) j)) (each j λ u. eqb (set_in (s ∷ q) u) (set_in (s ∷ p) u)) w in
      let smaller : set_in (s ∷ q) j < set_in (s ∷ p) j = ltb→lt (set_in (s ∷ q) j) (set_in (s ∷ p) j) less in
      ⊎_elim
      (λ (e : j ≡ length p). absurd (omega (arith, here p j e, here q j (e ∙ long))))
      (λ (d : j ≢ length p).
      some_at y.slots (λ t. ltb (set_in q t) (set_in p t) && each t λ u. eqb (set_in q u) (set_in p u)) j l
      (both (ltb (set_in q j) (set_in p j)) (each j λ u. eqb (set_in q u) (set_in p u))
      (lt→ltb (set_in q j) (set_in p j) (omega (arith, there p j d, there q j (λ e. d (e ∙ sym long)))))
      (each_i j (λ u. eqb (set_in q u) (set_in p u))
      (λ u m. of_true (eq-eqb (set_in q u) (set_in p u) (agree u (eqb→eq (set_in (s ∷ q) u) (set_in (s ∷ p) u) (each_at j (λ u. eqb (set_in (s ∷ q) u) (set_in (s ∷ p) u)) same u m))))))))
      (same_or j (length p))
    where
      agree : (u : ℕ) → set_in (s ∷ q) u ≡ set_in (s ∷ p) u → set_in q u ≡ set_in p u
      agree u e =
          ⊎_elim (λ (k : u ≡ length p). set_none q u (omega arith) ∙ sym (set_none p u (omega arith)))
          (λ d. sym (there q u (λ z. d (z ∙ sym long))) ∙ e ∙ there p u d) (same_or u (length p))

  -- of two plans that leave the same trains
  pub same_set-before : rest y p ≡ rest y q → T (comes_before y (s ∷ p) (s ∷ q)) → T (comes_before y p q)
  unfolding comes_before cost_so_far revisits_so_far slots_so_far
  same_set-before same =
      key_before (cost_so_far y) _ p q (s ∷ p) (s ∷ q) (slot_cost y (suc (length p)) (rest y p) s) refl
      (ap (λ r. cost_so_far y q + slot_cost y (suc (length p)) r s) (sym same))
      (key_before (revisits_so_far y) _ p q (s ∷ p) (s ∷ q) (late_trains y (rest y p) s) refl (ap (λ r. revisits_so_far y q + late_trains y r s) (sym same))
      (key_before slots_so_far _ p q (s ∷ p) (s ∷ q) (suc (length p) * ones s) refl (ap (λ k. slots_so_far q + suc k * ones s) (sym long)) earlier-before))

-- p stands for q, and m for p with the set s: then m stands for q with s
stands_next : (y : Yard) (s : ℕ) (p q m : Plan) → length q ≡ length p → StandsFor (rest y) (comes_before y) q p → StandsFor (rest y) (comes_before y) (s ∷ p) m
    → StandsFor (rest y) (comes_before y) (s ∷ q) m
unfolding rest
stands_next y s p q m long a b = record {
  same = b.same ∙ ap (λ r. r - s) a.same;
  first = (plans_order y).through (s ∷ q) (s ∷ p) m (λ t. a.first (same_set-before y s q p long (sym a.same) t)) b.first;
}

-- ---- nothing was cut

module _ (y : Yard) (width : ℕ) (wide : 1 ≤ width) (uncut : full_slots y width ≡ 0) where
  start_short : length (remained y width 0) ≤ 1
  unfolding remained
  start_short = go (discarded y 0 (full y.trains))
    where
      go : (b : Bool) → length {A = Plan} (cond b [] ([] ∷ [])) ≤ 1
      go true = omega arith
      go false = omega arith

  short : (t : ℕ) → t ≤ y.slots → length (remained y width t) ≤ width
  unfolding full_slots
  short zero h = omega (arith, start_short)
  short (suc t) h =
      ⊎_elim (λ k. k)
      (λ (k : width < length (remained y width (suc t))).
      absurd (zero_count (λ t. ltb width (length (remained y width (suc t)))) y.slots (omega arith) t h (lt→ltb width (length (remained y width (suc t))) k)))
      (le_or_lt (length (remained y width (suc t))) width)

  all_kept : (t : ℕ) → t ≤ y.slots → kept y width t ≡ remained y width t
  unfolding kept
  all_kept t h = take_all width (remained y width t) (short t h)

  -- every plan of the search has one that stands for it
  stands : (t : ℕ) → t ≤ y.slots → (q : Plan) → Path y q → length q ≡ t → (m : Plan) × Memᴰ m (remained y width t) × StandsFor (rest y) (comes_before y) q m
  stands zero h [] path e = ([], start_at y width [] refl path, record { same = refl; first = irrefl (comes_before y) (plans_order y) [] })
  stands zero h (s ∷ q) path e = absurd (omega arith)
  stands (suc t) h [] path e = absurd (omega arith)
  stands (suc t) h (s ∷ q) path e =
      let (p, among, for) = stands t (omega arith) q path.1 (omega arith) in
      let (of-search, long) = remained_path y width t p among in
      let equal : length q ≡ t = omega arith in
      let may : T (may_serve y (suc t) (rest y p) s) = subst₂ (λ k r. T (may_serve y (suc k) r s)) equal (sym for.same) path.0 in
      let next = successor_at y (suc t) (kept y width t) p s (subst (Memᴰ p) (sym (all_kept t (omega arith))) among) may in
      let (m, in-next, chosen) = (remained_merged y width t).all (s ∷ p) next in
      (m, in-next, stands_next y s p q m (equal ∙ sym long) for chosen)

  remained_ordered : (t : ℕ) → InOrder (rest y) (comes_before y) (remained y width t)
  unfolding remained
  remained_ordered zero = go (discarded y 0 (full y.trains))
    where
      go : (b : Bool) → InOrder (rest y) (comes_before y) (cond b [] ([] ∷ []))
      go true = tt
      go false = (λ z at. absurd (Memᴰ.not-nil at), tt)
  remained_ordered (suc t) = (remained_merged y width t).ordered

  -- ---- the answer

  module _ (windows : Windows y) where
    pub beam_best : SaysBest y (beam_row y width)
    unfolding beam_row
    beam_best =
        subst (λ l. SaysBest y (first_row y l)) (sym (all_kept y.slots (omega arith)))
        (go (remained y width y.slots) (remained_path y width y.slots) (remained_ordered y.slots)
        (λ q path e. stands y.slots (omega arith) q path e))
      where
        go : (l : List Plan) → ((p : Plan) → Memᴰ p l → Path y p × (length p ≡ y.slots)) → InOrder (rest y) (comes_before y) l
            → ((q : Plan) → Path y q → length q ≡ y.slots → (m : Plan) × Memᴰ m l × StandsFor (rest y) (comes_before y) q m) → SaysBest y (first_row y l)
        go [] paths order for =
            λ row ok. Memᴰ.not-nil (for (plan_of y row y.slots) (plan_path y row ok y.slots (omega arith)) (plan_length y row y.slots)).1
        go (p ∷ l) paths order for =
            let (path, whole) = paths p (Memᴰ.head refl) in
            let fine = whole_fits y p path windows whole in
            record {
              fits = fine;
              none_better = λ other ok t.
                  let q : Plan = plan_of y other y.slots in
                  let (m, at, stand) = for q (plan_path y other ok y.slots (omega arith)) (plan_length y other y.slots) in
                  -- the plans that are left leave no train, so there is one
                  let only : m ≡ p =
                  ⊎_elim (λ e. e)
                  (λ later. let (path', whole') = paths m at in absurd ((order.0 m later).0 (whole-rest y windows m path' whole' ∙ sym (whole-rest y windows p path whole))))
                  (Memᴰ.cases_cons at) in
                  stand.first
                  (subst T (same_order y other (row_of y p) ok fine ∙ ap (comes_before y q) (whole_plan y windows p path whole ∙ sym only)) t);
            }
