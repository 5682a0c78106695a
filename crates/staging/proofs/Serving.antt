-- Laws of Serving.antt of specs/.
-- What it says that a set may be served, part by part; and that the sets of a row's slots part no group exactly where the row keeps the groups.
-- Assumes nothing.
use Rattle.std.specs.Prelude.{◌≡◌, refl, ◌&&◌, List, ℕ, zero, suc, ◌≤◌, ◌<◌, T, eqb}
use Rattle.std.proofs.Common.{sym, ◌∙◌, subst, arith, le→leb, eq-eqb}
use Rattle.std.proofs.Math.Bool.{not}
use Rattle.std.specs.Int.Count.{ones}
use Rattle.std.proofs.Math.Dec.{leb, leb→le, eqb→eq, not_T}
use Rattle.fold.specs.Test.{of_true, both, both_of, not_of, not_not}
use Rattle.fold.specs.Fold.{each_at, each_i}
use Rattle.sets.specs.Mask.{has, has-mask}
use Rattle.sets.specs.Subset.{Sub, subset}
use Rattle.model.specs.Model.{Yard, slot_of, grouped, kept}
use Rattle.model.proofs.Groups.{kept_of, kept_by}
use Rattle.optimum.specs.Rows.{stage_set}
use Rattle.staging.specs.Tables.{open_in, together, servable}
use Rattle.staging.specs.Serving.{Serves}

module _ (y : Yard) (t r s : ℕ) where
  pub servable_is : T (servable y t r s) → Serves y t s
  unfolding servable
  servable_is h =
      let o = open_in y.trains y.first y.last t in
      let (a, whole) = both_of (subset s o && leb (ones s) y.tracks) (together y.trains y.groups s) h in
      let (b, room) = both_of (subset s o) (leb (ones s) y.tracks) a in
      record { in_time = eqb→eq _ _ b; room = leb→le (ones s) y.tracks room; whole = whole }

  pub is_servable : Serves y t s → T (servable y t r s)
  unfolding servable
  is_servable h =
      let o = open_in y.trains y.first y.last t in
      both (subset s o && leb (ones s) y.tracks) (together y.trains y.groups s)
      (both (subset s o) (leb (ones s) y.tracks) (of_true (eq-eqb _ _ h.in_time)) (le→leb (ones s) y.tracks h.room)) h.whole

-- ---- a set that parts no group: with a member it has all

module _ (n : ℕ) (groups : List ℕ) (s : ℕ) where
  pub together_of : T (together n groups s) → (i j : ℕ) → i < n → j < n → T (grouped groups i j) → T (has s i) → T (has s j)
  unfolding together
  together_of t i j h l g p =
      not_not (has s j)
      (λ q.
      not_of (grouped groups i j && has s i && not (has s j)) (each_at n _ (each_at n _ t i h) j l)
      (both (grouped groups i j && has s i) (not (has s j)) (both (grouped groups i j) (has s i) g p) q))

  pub together_by : ((i j : ℕ) → i < n → j < n → T (grouped groups i j) → T (has s i) → T (has s j)) → T (together n groups s)
  unfolding together
  together_by all =
      each_i n _ (λ i h. each_i n _ (λ j l.
      not_T (grouped groups i j && has s i && not (has s j))
      (λ t.
      let (a, q) = both_of (grouped groups i j && has s i) (not (has s j)) t in
      let (g, p) = both_of (grouped groups i j) (has s i) a in
      not_of (has s j) q (all i j h l g p))))

-- ---- the sets of a row's slots

module _ (n : ℕ) (groups row : List ℕ) where
  in_slot_lem : (t i : ℕ) → i < n → slot_of row i ≡ t → T (has (stage_set n row t) i)
  in_slot_lem t i h e = of_true (has-mask n (λ i. eqb (slot_of row i) t) i h ∙ eq-eqb (slot_of row i) t e)

  slot_in_lem : (t i : ℕ) → i < n → T (has (stage_set n row t) i) → slot_of row i ≡ t
  slot_in_lem t i h p = eqb→eq (slot_of row i) t (subst T (has-mask n (λ i. eqb (slot_of row i) t) i h) p)

  pub kept-together : (t : ℕ) → T (kept n groups row) → T (together n groups (stage_set n row t))
  kept-together t k =
      together_by n groups (stage_set n row t)
      (λ i j h l g p. in_slot_lem t j l (sym (kept_of n groups row k i j h l g) ∙ slot_in_lem t i h p))

  pub together-kept : (slots : ℕ) → ((i : ℕ) → i < n → (1 ≤ slot_of row i) × (slot_of row i ≤ slots))
      → ((j : ℕ) → j < slots → T (together n groups (stage_set n row (suc j)))) → T (kept n groups row)
  together-kept slots staged all = kept_by n groups row (λ i j h l g. at i j h l g (slot_of row i) refl)
    where
      at : (i j : ℕ) → i < n → j < n → T (grouped groups i j) → (t : ℕ) → slot_of row i ≡ t → slot_of row i ≡ slot_of row j
      at i j h l g zero e = absurd (omega (arith, staged i h))
      at i j h l g (suc t) e =
          let whole = all t (omega (arith, staged i h)) in
          e ∙ sym (slot_in_lem (suc t) j l (together_of n groups (stage_set n row (suc t)) whole i j h l g (in_slot_lem (suc t) i h e)))
