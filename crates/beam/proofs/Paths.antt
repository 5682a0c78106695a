-- Laws of Paths.antt of specs/.
-- The partial plans that the search can come to, kept or cut (`Path`): each set may be served where the sets before it leave off. Their sets,
-- what remains and the slots of the trains say the same thing: train i is in the set of slot t exactly where its slot is t, and it remains
-- exactly where it has none.
-- Assumes nothing.
use Rattle.std.specs.Prelude.{◌≡◌, Bool, not, ◌&&◌, leb}
use Rattle.std.proofs.Math.Path.{refl, sym, subst}
use Rattle.std.proofs.Common.{ap, ◌∙◌, le→leb, pow_pos}
use Rattle.std.proofs.Math.Bool.{true, false, cond}
use mathlib.Core.List.{[], ◌∷◌}
use Prim.Native.Nat.{ℕ, zero, suc, ◌+◌, ◌-◌, ◌^◌, ◌≤◌, ◌<◌, zero-le}
use native.Mathlib.Omega.{arith}
use Rattle.std.specs.Int.Count.{ones, ones-le}
use Rattle.std.proofs.Math.Dec.{T, eqb, eqb→eq, leb→le, not_T}
use Rattle.std.proofs.Math.ListN.{length}
use borrow.Author.Tests.{eq-eqb, ne_eqb, eqb-true, eqb-false}
use Rattle.fold.specs.Test.{of_true, both, both_of, not_of}
use Rattle.fold.specs.Fold.{bit}
use Rattle.fold.specs.Listed.{listed_at}
use Rattle.sets.specs.Mask.{has, mask_ext, mask-has}
use Rattle.sets.specs.Subset.{Sub, subset, sub_le, sub_zero}
use Rattle.sets.specs.Rest.{full, has_none, has-full, sub-has, rest-bit}
use Rattle.model.specs.Model.{Yard, first_slot, last_slot, slot_of, load}
use Rattle.model.proofs.Rows.{both_le}
use Rattle.optimum.specs.Rows.{stage_set}
use Rattle.staging.specs.Tables.{open_in}
use Rattle.staging.specs.AllowedRows.{InWindow}
use Rattle.staging.proofs.AllowedRows.{has_open, open_lt, stage_ones}
use Rattle.feasibility.specs.Bound.{Spacious}
use Rattle.beam.proofs.Discards.{start_spacious}
use Rattle.beam.specs.Beam.{Plan, rest, set_in, slot_in, row_of, discarded, fits_slot, may_serve}
use Rattle.beam.specs.Paths.{Path}

-- ---- a set that fits into a slot

module _ (y : Yard) (t s : ℕ) where
  pub fits_is : T (fits_slot y t s) → Sub s (open_in y.trains y.first y.last t) × (ones s ≤ y.tracks)
  unfolding fits_slot
  fits_is h =
      let (inside, few) = both_of (subset s (open_in y.trains y.first y.last t)) (leb (ones s) y.tracks) h in
      (eqb→eq _ _ inside, leb→le (ones s) y.tracks few)

  pub is_fits : Sub s (open_in y.trains y.first y.last t) → ones s ≤ y.tracks → T (fits_slot y t s)
  unfolding fits_slot
  is_fits inside few =
      both (subset s (open_in y.trains y.first y.last t)) (leb (ones s) y.tracks) (of_true (eq-eqb _ _ inside)) (le→leb (ones s) y.tracks few)

-- ---- a set that may be served

module _ (y : Yard) (t r s : ℕ) where
  pub may_serve_lem : T (may_serve y t r s) → Sub s r × T (fits_slot y t s) × (T (discarded y t (r - s)) → ⊥)
  unfolding may_serve
  may_serve_lem h =
      let (a, keeps) = both_of (subset s r && fits_slot y t s) (not (discarded y t (r - s))) h in
      let (within, fit) = both_of (subset s r) (fits_slot y t s) a in
      (eqb→eq _ _ within, fit, not_of (discarded y t (r - s)) keeps)

  pub serves : Sub s r → T (fits_slot y t s) → (T (discarded y t (r - s)) → ⊥) → T (may_serve y t r s)
  unfolding may_serve
  serves within fit keeps =
      both (subset s r && fits_slot y t s) (not (discarded y t (r - s)))
      (both (subset s r) (fits_slot y t s) (of_true (eq-eqb _ _ within)) fit) (not_T (discarded y t (r - s)) keeps)

module _ (y : Yard) where
  -- ---- what remains

  pub rest_le : (p : Plan) → rest y p ≤ full y.trains
  unfolding rest
  rest_le [] = omega arith
  rest_le (s ∷ p) = omega (arith, rest_le p)

  pub rest_lt : (p : Plan) → rest y p < 2 ^ y.trains
  rest_lt p = omega (arith, rest_le p, pow_pos y.trains)

  -- a partial plan of the search is not discarded
  pub path_kept : (p : Plan) → Path y p → T (discarded y (length p) (rest y p)) → ⊥
  unfolding rest
  path_kept [] h = h
  path_kept (s ∷ p) h = (may_serve_lem y (suc (length p)) (rest y p) s h.0).2

  -- and its day overbooks no interval
  pub path_spacious : (p : Plan) → Path y p → Spacious y
  path_spacious [] h = start_spacious y h
  path_spacious (s ∷ p) h = path_spacious p h.1

  -- ---- the slots of the trains

  pub slot_le : (p : Plan) (i : ℕ) → slot_in p i ≤ length p
  unfolding slot_in
  slot_le [] i = zero-le
  slot_le (s ∷ p) i = at (has s i) (slot_le p i)
    where
      at : (b : Bool) → slot_in p i ≤ length p → cond b (suc (length p)) (slot_in p i) ≤ suc (length p)
      at true h = omega arith
      at false h = omega arith

  -- a train remains exactly where it has no slot
  pub rest-slot : (p : Plan) → Path y p → (i : ℕ) → i < y.trains → has (rest y p) i ≡ eqb (slot_in p i) 0
  unfolding rest slot_in
  rest-slot [] h i l = has-full y.trains i l
  rest-slot (s ∷ p) h i l =
      at (has (rest y p - s) i) (has s i) (has (rest y p) i)
      (rest-bit y.trains s (rest y p) (may_serve_lem y (suc (length p)) (rest y p) s h.0).0 (rest_lt p) i l) (rest-slot p h.1 i l)
    where
      at : (a b c : Bool) → bit a + bit b ≡ bit c → c ≡ eqb (slot_in p i) 0 → a ≡ eqb (cond b (suc (length p)) (slot_in p i)) 0
      at true true true e q = absurd (omega arith)
      at true true false e q = absurd (omega arith)
      at false true c e q = sym (ne_eqb (suc (length p)) 0 (λ z. omega arith))
      at true false true e q = q
      at true false false e q = absurd (omega arith)
      at false false true e q = absurd (omega arith)
      at false false false e q = q

  -- it is in the set of slot j + 1 exactly where that is its slot
  pub set-slot : (p : Plan) → Path y p → (i j : ℕ) → i < y.trains → eqb (slot_in p i) (suc j) ≡ has (set_in p j) i
  unfolding slot_in set_in
  set-slot [] h i j l = ne_eqb 0 (suc j) (λ z. omega arith) ∙ sym (has_none i)
  set-slot (s ∷ p) h i j l = at (set-slot p h.1 i j l) (has s i) refl (eqb j (length p)) refl
    where
      -- a train that is served now had no slot
      waited : has s i ≡ true → slot_in p i ≡ 0
      waited e =
          eqb→eq (slot_in p i) 0
          (subst T (rest-slot p h.1 i l) (sub-has y.trains s (rest y p) (may_serve_lem y (suc (length p)) (rest y p) s h.0).0 (rest_lt p) i l (of_true e)))

      at : eqb (slot_in p i) (suc j) ≡ has (set_in p j) i → (a : Bool) → has s i ≡ a → (b : Bool) → eqb j (length p) ≡ b
          → eqb (cond a (suc (length p)) (slot_in p i)) (suc j) ≡ has (cond b s (set_in p j)) i
      at before true e true q = eq-eqb (suc (length p)) (suc j) (ap suc (sym (eqb-true j (length p) q))) ∙ sym e
      at before true e false q =
          ne_eqb (suc (length p)) (suc j) (λ z. eqb-false j (length p) q (omega arith))
          ∙ sym (ne_eqb (slot_in p i) (suc j) (λ z. omega (arith, waited e))) ∙ before
      at before false e true q = ne_eqb (slot_in p i) (suc j) (λ z. omega (arith, slot_le p i, eqb-true j (length p) q)) ∙ sym e
      at before false e false q = before

  -- ---- the sets

  pub set_le : (p : Plan) → Path y p → (j : ℕ) → set_in p j ≤ full y.trains
  unfolding set_in
  set_le [] h j = zero-le
  set_le (s ∷ p) h j = at (eqb j (length p)) (set_le p h.1 j)
    where
      at : (b : Bool) → set_in p j ≤ full y.trains → cond b s (set_in p j) ≤ full y.trains
      at true k = omega (arith, sub_le s (rest y p) (may_serve_lem y (suc (length p)) (rest y p) s h.0).0, rest_le p)
      at false k = k

  -- each fits into its slot
  pub set_fits : (p : Plan) → Path y p → (j : ℕ) → T (fits_slot y (suc j) (set_in p j))
  unfolding set_in
  set_fits [] h j = is_fits y (suc j) 0 (sub_zero (open_in y.trains y.first y.last (suc j))) (omega (arith, ones-le 0 0 (omega arith)))
  set_fits (s ∷ p) h j = at (eqb j (length p)) refl (set_fits p h.1 j)
    where
      at : (b : Bool) → eqb j (length p) ≡ b → T (fits_slot y (suc j) (set_in p j)) → T (fits_slot y (suc j) (cond b s (set_in p j)))
      at true e k = subst (λ x. T (fits_slot y (suc x) s)) (sym (eqb-true j (length p) e)) (may_serve_lem y (suc (length p)) (rest y p) s h.0).1
      at false e k = k

  -- ---- the row so far: 0 where a train remains

  module _ (p : Plan) (h : Path y p) where
    pub row-slot : (i : ℕ) → i < y.trains → slot_of (row_of y p) i ≡ slot_in p i
    unfolding row_of
    row-slot i l = listed_at y.trains (slot_in p) 0 i l

    pub row-set : (j : ℕ) → stage_set y.trains (row_of y p) (suc j) ≡ set_in p j
    row-set j =
        mask_ext y.trains (λ i. eqb (slot_of (row_of y p) i) (suc j)) (has (set_in p j))
        (λ i l. ap (λ x. eqb x (suc j)) (row-slot i l) ∙ set-slot p h i j l)
        ∙ mask-has y.trains (set_in p j) (omega (arith, set_le p h j, pow_pos y.trains))

    -- no slot has more trains than tracks
    pub row-load : (j : ℕ) → load y.trains (row_of y p) (suc j) ≤ y.tracks
    row-load j = omega (arith, stage_ones y (row_of y p) (suc j), ap ones (row-set j), (fits_is y (suc j) (set_in p j) (set_fits p h j)).1)

    -- a slot lies in its train's window
    pub row-window : (i : ℕ) → i < y.trains → 1 ≤ slot_in p i → InWindow y (slot_in p i) i
    row-window i l from = at (slot_in p i) refl from
      where
        at : (t : ℕ) → slot_in p i ≡ t → 1 ≤ t → InWindow y t i
        at zero e k = absurd (omega arith)
        at (suc j) e k =
            let n = y.trains in
            let s = set_in p j in
            let o = open_in n y.first y.last (suc j) in
            let in_set : T (has s i) = subst T (set-slot p h i j l) (of_true (eq-eqb (slot_in p i) (suc j) e)) in
            both_le (first_slot y i) (suc j) (suc j) (last_slot y i)
            (subst T (has_open y (suc j) i l) (sub-has n s o (fits_is y (suc j) s (set_fits p h j)).0 (open_lt y (suc j)) i l in_set))
