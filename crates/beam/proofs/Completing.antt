-- A partial plan that is not discarded can be completed to a row that fits (`completes`, `whole_fits`): it is a row filled up to its last
-- slot as feasibility fills rows (`path_partial`), so slot after slot the trains with the earliest last slots may be served (`next-set`).
-- Assumes nothing.
use Rattle.std.specs.Prelude.{◌≡◌, Bool, true, false, List, [], ◌∷◌, ◌++◌, leb}
use Rattle.std.proofs.Math.Path.{refl, subst}
use Rattle.std.proofs.Common.{sym, ap, ◌∙◌, append_assoc, leb→le, le→leb}
use Rattle.std.proofs.Math.Logic.{⊎_elim}
use Prim.Native.Nat.{ℕ, zero, suc, ◌+◌, ◌-◌, ◌^◌, ◌≤◌, ◌<◌}
use native.Mathlib.Omega.{arith}
use Rattle.std.proofs.Math.Dec.{T, eqb, eqb→eq}
use Rattle.std.proofs.Math.ListN.{length}
use borrow.Author.Tests.{eq-eqb}
use Rattle.fold.specs.Test.{of_true, both, both_of}
use Rattle.fold.specs.Fold.{bit}
use Rattle.fold.specs.Counting.{le_or_lt, zero_count, count_le}
use Rattle.fold.specs.Listed.{length-listed}
use Rattle.sets.specs.Mask.{has, mask-has, has-mask}
use Rattle.sets.specs.Subset.{Sub, sub-mask}
use Rattle.sets.specs.Rest.{rest-bit}
use Rattle.model.specs.Model.{Yard, last_slot, slot_of, load, fitting}
use Rattle.model.proofs.Rows.{is_fitting}
use Rattle.feasibility.specs.Bound.{Windows}
use Rattle.feasibility.specs.Partial.{waiting, waits, Partial}
use Rattle.feasibility.proofs.Partial.{is_waiting, partial_next}
use Rattle.feasibility.specs.RowExists.{Grown}
use Rattle.feasibility.proofs.RowExists.{fill, all_placed}
use Rattle.optimum.specs.Rows.{stage_set}
use Rattle.staging.proofs.AllowedRows.{stage_ones, within_windows}
use Rattle.beam.specs.Beam.{Plan, rest, slot_in, row_of, discarded, fits_slot, may_serve}
use Rattle.beam.specs.Discards.{ending, Fits}
use Rattle.beam.proofs.Discards.{kept_fits, fits_kept}
use Rattle.beam.specs.Paths.{Path}
use Rattle.beam.proofs.Paths.{is_fits, serves, rest_lt, path_kept, path_spacious, slot_le, rest-slot, row-slot, row-load, row-window}

module _ (y : Yard) (p : Plan) (h : Path y p) where
  fits : Fits y (length p) (rest y p)
  fits = kept_fits y (length p) (rest y p) (path_kept y p h)

  -- a train without a slot remains
  remains : (i : ℕ) → i < y.trains → slot_of (row_of y p) i ≡ 0 → T (has (rest y p) i)
  remains i l e = of_true (rest-slot y p h i l ∙ eq-eqb (slot_in p i) 0 (sym (row-slot y p h i l) ∙ e))

  left_over_lem : (upto : length p ≤ y.slots) (i : ℕ) → i < y.trains → slot_of (row_of y p) i ≡ 0 → length p ≤ last_slot y i
  left_over_lem upto i l e =
      ⊎_elim (λ k. k)
      (λ (k : last_slot y i < length p).
      absurd
      (zero_count (ending y (rest y p) (length p)) y.trains (omega (arith, fits (length p) 0 (omega arith) upto)) i l
      (both (has (rest y p) i) (leb (last_slot y i) (length p)) (remains i l e) (le→leb (last_slot y i) (length p) (omega arith)))))
      (le_or_lt (length p) (last_slot y i))

  -- it is a row filled up to its last slot
  pub path_partial : length p ≤ y.slots → Partial y (length p) 0 (row_of y p)
  unfolding row_of
  path_partial upto = record {
    long = length-listed y.trains (slot_in p);
    placed = λ i l k. let e = row-slot y p h i l in let (a, b) = row-window y p h i l (omega arith) in (omega arith, omega arith, omega (arith, slot_le y p i));
    open_yet = left_over_lem upto;
    fits = λ b d e k.
        omega (
          arith,
          fits b d e k,
          count_le (waiting y (row_of y p) b) (ending y (rest y p) b) y.trains
              (λ i l t.
              let (z, ends) = waits (slot_of (row_of y p) i) (last_slot y i) b t in
              both (has (rest y p) i) (leb (last_slot y i) b) (remains i l z) (le→leb (last_slot y i) b ends)),
        );
    room = row-load y p h;
    left = λ from. full (length p) refl from;
  }
    where
      full : (a : ℕ) → length p ≡ a → 1 ≤ a → load y.trains (row_of y p) (length p) + 0 ≤ y.tracks
      full zero e k = absurd (omega arith)
      full (suc j) e k = subst (λ x. load y.trains (row_of y p) x + 0 ≤ y.tracks) (sym e) (omega (arith, row-load y p h j))

  -- after the last slot it is a row that fits
  pub whole_fits : Windows y → length p ≡ y.slots → T (fitting y (row_of y p))
  whole_fits windows e =
      is_fitting y (row_of y p)
      (all_placed y windows (path_spacious y p h) (row_of y p) (subst (λ a. Partial y a 0 (row_of y p)) e (path_partial (omega arith))))

-- ---- one slot more

-- a position of what is left of r without s is one of r and not one of s
left_has : (n s r : ℕ) → Sub s r → r < 2 ^ n → (i : ℕ) → i < n → T (has (r - s) i) → T (has r i) × (T (has s i) → ⊥)
left_has n s r within small i l t = at (has (r - s) i) (has s i) (has r i) (rest-bit n s r within small i l) t
  where
    at : (a b c : Bool) → bit a + bit b ≡ bit c → T a → T c × (T b → ⊥)
    at true true true e t = absurd (omega arith)
    at true true false e t = absurd (omega arith)
    at true false true e t = (tt, λ f. f)
    at true false false e t = absurd (omega arith)
    at false b c e t = absurd t

module _ (y : Yard) (windows : Windows y) (p : Plan) (h : Path y p) (more : length p < y.slots) where
  n : ℕ
  n = y.trains

  t : ℕ
  t = suc (length p)

  -- the next slot, filled, and its set
  filled : (r : List ℕ) × Partial y t 0 r × Grown t (row_of y p) r
  unfolding t
  filled =
      fill y windows (path_spacious y p h) t y.tracks (row_of y p) (omega arith)
      (partial_next y (length p) (row_of y p) more (path_partial y p h (omega arith)))

  r : List ℕ
  r = filled.0

  s : ℕ
  s = stage_set n r t

  had_none : (i : ℕ) → i < n → slot_of r i ≡ t → slot_of (row_of y p) i ≡ 0
  unfolding n t r
  had_none i l e = ⊎_elim (λ (q : slot_of r i ≡ slot_of (row_of y p) i). absurd (omega (arith, row-slot y p h i l, slot_le y p i))) (λ q. q.0) (filled.2 i)

  served_remains : Sub s (rest y p)
  unfolding n s
  served_remains =
      subst (Sub s) (mask-has n (rest y p) (rest_lt y p))
      (sub-mask n (λ i. eqb (slot_of r i) t) (has (rest y p)) (λ i l e. remains y p h i l (had_none i l (eqb→eq (slot_of r i) t e))))

  served_fit : T (fits_slot y t s)
  unfolding n t r s
  served_fit =
      is_fits y t s
      (within_windows y r t
      (λ i l e.
      let (a, b, c) = filled.1.placed i l (omega arith) in
      (omega arith, omega arith)))
      (omega (arith, stage_ones y r t, filled.1.room (length p)))

  served_keeps : T (discarded y t (rest y p - s)) → ⊥
  unfolding n t r s
  served_keeps =
      fits_kept y t (rest y p - s) (path_spacious y p h) more
      (λ b d e k.
      omega (
        arith,
        filled.1.fits b d e k,
        count_le (ending y (rest y p - s) b) (waiting y r b) n
            (λ i l w.
            let (over, ends) = both_of (has (rest y p - s) i) (leb (last_slot y i) b) w in
            let (still, not-now) = left_has n s (rest y p) served_remains (rest_lt y p) i l over in
            let z = eqb→eq (slot_in p i) 0 (subst T (rest-slot y p h i l) still) in
            is_waiting (slot_of r i) (last_slot y i) b
            (⊎_elim (λ q. q ∙ row-slot y p h i l ∙ z)
            (λ q. absurd (not-now (of_true (has-mask n (λ i. eqb (slot_of r i) t) i l ∙ eq-eqb (slot_of r i) t q.1)))) (filled.2 i))
            (leb→le (last_slot y i) b ends)),
      ))

  -- some set may be served in the next slot
  pub next-set : (s : ℕ) × T (may_serve y (suc (length p)) (rest y p) s)
  unfolding t
  next-set = (s, serves y t (rest y p) s served_remains served_fit served_keeps)

-- every partial plan of the search can be completed: `more` holds the sets of the slots to come
pub completes : (y : Yard) → Windows y → (d : ℕ) (p : Plan) → length p + d ≡ y.slots → Path y p
    → (more : Plan) × Path y (more ++ p) × (length (more ++ p) ≡ y.slots)
completes y windows zero p e h = ([], h, omega arith)
completes y windows (suc d) p e h =
    let (s, serve) = next-set y windows p h (omega arith) in
    let (more, path, long) = completes y windows d (s ∷ p) (omega arith) (serve, h) in
    let same = append_assoc more (s ∷ []) p in
    (more ++ (s ∷ []), subst (Path y) (sym same) path, ap length same ∙ long)
