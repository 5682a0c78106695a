-- Laws of Rows.antt of specs/.
-- Rows and schedules. A row gives each of n positions one of the stages 1 to m; the positions of a stage are its set, those of the stage
-- and of later ones are what remains there. The sets of a row are a schedule of all positions (`row_schedule`) with the row's worth as its
-- value (`row-value`); each such schedule is that of a row (`schedule_row`, `sets_row`), and that row alone (`same_sets`, `row_again`).
-- `BestRow` says what the best row is, for any test `ok` and any contribution `w`.
-- Assumes nothing.
use Rattle.std.specs.Prelude.{◌≡◌, refl, not, ◌&&◌, ◌≢◌, List, [], ◌∷◌, leb, length}
use Rattle.std.proofs.Common.{sym, ◌∙◌, subst₂, leb→le, le→leb, eqb→eq, ext_get_or, le-leb, eq-eqb, eqb-true}
use Rattle.std.proofs.Math.Path.{ap, subst}
use Prim.Native.Nat.{ℕ, zero, suc, ◌+◌, ◌-◌, ◌^◌, ◌≤◌, ◌<◌}
use native.Mathlib.Omega.{arith}
use Rattle.std.proofs.Math.Dec.{T, eqb, not_T}
use Rattle.std.proofs.Math.Pow.{pow_pos}
use Rattle.std.proofs.lemmas.Bool.{lt-leb}
use Rattle.fold.specs.Test.{of_true, same_test_lem, both, both_of, not_of}
use Rattle.fold.specs.Fold.{bit, sum, lowest}
use Rattle.fold.specs.Sums.{sum_ext, sum_cons}
use Rattle.fold.specs.Listed.{listed, length-listed, listed_at, listed_ext, listed_all}
use Rattle.sets.specs.Mask.{has, mask, mask_ext, mask_same, mask-has, mask_empty, mask_full}
use Rattle.sets.specs.Subset.{Sub, sub_le, sub-mask}
use Rattle.optimum.specs.Workspace.{at}
use Rattle.sets.specs.Rest.{full, mask-rest, has_none, has-full, rest-bit, lowest_only}
use Rattle.optimum.specs.Schedules.{Test, Contribution, Schedule, value, Ahead}
use Rattle.optimum.proofs.Schedules.{listed_schedule, schedule_listed, value-listed}
use Rattle.optimum.specs.Rows.{stage_set, remaining, worth, Row, BestRow, sets_of, row_of}

-- ---- what remains, stage after stage

stage_remains : (t x : ℕ) → T (eqb x t) → T (leb t x)
stage_remains t x h = le→leb t x (omega (arith, eqb→eq x t h))

remains_later : (t x : ℕ) → (leb t x && not (eqb x t)) ≡ leb (suc t) x
remains_later t x =
    same_test_lem (leb t x && not (eqb x t)) (leb (suc t) x)
    (λ h.
    let (a, b) = both_of (leb t x) (not (eqb x t)) h in
    let differ : x ≢ t = λ e. not_of (eqb x t) b (of_true (eq-eqb x t e)) in
    le→leb (suc t) x (omega (arith, leb→le t x a)))
    (λ h.
    let l : t < x = leb→le (suc t) x h in
    both (leb t x) (not (eqb x t)) (le→leb t x (omega arith)) (not_T (eqb x t) (λ e. omega (arith, eqb→eq x t e))))

module _ (n : ℕ) (row : List ℕ) where
  pub stage_sub : (t : ℕ) → Sub (stage_set n row t) (remaining n row t)
  stage_sub t = sub-mask n (λ i. eqb (at row i) t) (λ i. leb t (at row i)) (λ i l. stage_remains t (at row i))

  pub remaining-next : (t : ℕ) → remaining n row t - stage_set n row t ≡ remaining n row (suc t)
  remaining-next t =
      mask-rest n (λ i. leb t (at row i)) (λ i. eqb (at row i) t) (λ i l. stage_remains t (at row i))
      ∙ mask_ext n (λ i. leb t (at row i) && not (eqb (at row i) t)) (λ i. leb (suc t) (at row i)) (λ i l. remains_later t (at row i))

  pub remaining_all : ((i : ℕ) → i < n → 1 ≤ at row i) → remaining n row 1 ≡ full n
  remaining_all h = omega (arith, mask_full n (λ i. leb 1 (at row i)) (λ i l. le-leb 1 (at row i) (h i l)))

  pub remaining_none : (m : ℕ) → ((i : ℕ) → i < n → at row i ≤ m) → remaining n row (suc m) ≡ 0
  remaining_none m h = mask_empty n (λ i. leb (suc m) (at row i)) (λ i l. lt-leb (suc m) (at row i) (omega (arith, h i l)))

-- ---- the schedule of a row

one_more : (j : ℕ) → 1 + j ≡ suc j
one_more j = omega arith

module _ {ok : Test} {n m : ℕ} {row : List ℕ} (h : Row ok n m row) where
  all : remaining n row 1 ≡ full n
  all = remaining_all n row (λ i l. (h.staged i l).0)

  pub row_schedule : Schedule ok 1 (full n) (sets_of n m row)
  row_schedule =
      subst (λ r. Schedule ok 1 r (sets_of n m row)) all
      (listed_schedule ok (λ j. stage_set n row (suc j)) (λ j. remaining n row (suc j)) m 1 (λ j. remaining-next n row (suc j)) (λ j l. stage_sub n row (suc j))
      (λ j l. subst (λ t. T (ok t (remaining n row (suc j)) (stage_set n row (suc j)))) (sym (one_more j)) (h.passes j l))
      (remaining_none n row m (λ i l. (h.staged i l).1)))

  pub row-value : (w : Contribution) → value w 1 (full n) (sets_of n m row) ≡ worth w n m row
  unfolding worth
  row-value w =
      ap (λ r. value w 1 r (sets_of n m row)) (sym all)
      ∙ value-listed w (λ j. stage_set n row (suc j)) (λ j. remaining n row (suc j)) m 1 (λ j. remaining-next n row (suc j))
      ∙ sum_ext m (λ j. w (1 + j) (remaining n row (suc j)) (stage_set n row (suc j))) (λ j. w (suc j) (remaining n row (suc j)) (stage_set n row (suc j)))
      (λ j l. ap (λ t. w t (remaining n row (suc j)) (stage_set n row (suc j))) (one_more j))

-- a row is known by its sets
pub same_sets : {ok : Test} {n m : ℕ} {row other : List ℕ} → Row ok n m row → Row ok n m other
    → ((j : ℕ) → j < m → stage_set n row (suc j) ≡ stage_set n other (suc j)) → row ≡ other
same_sets {n = n} {m = m} {row = row} {other = other} h k same =
    ext_get_or 0 row other (h.long ∙ sym k.long) (λ i l. stage i (subst (λ x. i < x) h.long l) (at row i) refl)
  where
    stage : (i : ℕ) → i < n → (t : ℕ) → at row i ≡ t → at row i ≡ at other i
    stage i l zero e = absurd (omega (arith, h.staged i l))
    stage i l (suc j) e =
        e
        ∙ sym
        (eqb-true (at other i) (suc j)
        (sym (mask_same n (λ i. eqb (at row i) (suc j)) (λ i. eqb (at other i) (suc j)) (same j (omega (arith, h.staged i l))) i l) ∙ eq-eqb (at row i) (suc j) e))

-- ---- the row of a schedule

-- a position of r is in just one of the sets that use up r, any other in none
schedule_bits : (n : ℕ) (ok : Test) (t r : ℕ) (p : List ℕ) → r < 2 ^ n → Schedule ok t r p → (i : ℕ) → i < n → sum (length p) (λ j. bit (has (at p j) i)) ≡ bit (has r i)
unfolding sum
schedule_bits n ok t r [] b h i l = sym (ap (λ x. bit (has x i)) h ∙ ap bit (has_none i))
schedule_bits n ok t r (s ∷ p) b h i l =
    sum_cons (length p) (λ j. bit (has (at (s ∷ p) j) i))
    ∙ ap (λ x. x + bit (has s i)) (schedule_bits n ok (suc t) (r - s) p (omega arith) h.2 i l)
    ∙ rest-bit n s r h.0 b i l

-- each set is one of what remained at first
schedule_le : (ok : Test) (t r : ℕ) (p : List ℕ) → Schedule ok t r p → (j : ℕ) → at p j ≤ r
schedule_le ok t r [] h j = omega arith
schedule_le ok t r (s ∷ p) h zero = sub_le s r h.0
schedule_le ok t r (s ∷ p) h (suc j) = omega (arith, schedule_le ok (suc t) (r - s) p h.2 j)

module _ (ok : Test) (n : ℕ) (p : List ℕ) (h : Schedule ok 1 (full n) p) where
  -- the stage of a position is the one whose set holds it
  stage_of : (i : ℕ) → i < n → (1 ≤ at (row_of n p) i) × (at (row_of n p) i ≤ length p) × ((j : ℕ) → j < length p → eqb (at (row_of n p) i) (suc j) ≡ has (at p j) i)
  unfolding row_of
  stage_of i l =
      let e = listed_at n (λ i. suc (lowest (length p) λ j. has (at p j) i)) 0 i l in
      let q = lowest_only (length p) (λ j. has (at p j) i)
      (schedule_bits n ok 1 (full n) p (omega (arith, pow_pos n)) h i l ∙ ap bit (has-full n i l)) in
      (omega arith, omega (arith, q.0), λ j k. ap (λ x. eqb x (suc j)) e ∙ q.1 j k)

  pub row-set : (j : ℕ) → j < length p → stage_set n (row_of n p) (suc j) ≡ at p j
  row-set j k =
      mask_ext n (λ i. eqb (at (row_of n p) i) (suc j)) (has (at p j)) (λ i l. (stage_of i l).2 j k)
      ∙ mask-has n (at p j) (omega (arith, schedule_le ok 1 (full n) p h j, pow_pos n))

  module _ (m : ℕ) (long : length p ≡ m) where
    pub sets_row : sets_of n m (row_of n p) ≡ p
    sets_row =
        listed_ext m (λ j. stage_set n (row_of n p) (suc j)) (at p) (λ j l. row-set j (omega arith))
        ∙ ap (λ k. listed k (at p)) (sym long) ∙ listed_all p 0

    own_schedule : Schedule ok 1 (remaining n (row_of n p) 1) (sets_of n m (row_of n p))
    own_schedule = subst₂ (Schedule ok 1) (sym (remaining_all n (row_of n p) (λ i l. (stage_of i l).0))) (sym sets_row) h

    pub schedule_row : Row ok n m (row_of n p)
    unfolding row_of
    schedule_row =
        let row = row_of n p in
        record {
          long = length-listed n λ i. suc (lowest (length p) λ j. has (at p j) i);
          staged = λ i l. ((stage_of i l).0, omega (arith, (stage_of i l).1));
          passes = λ j l.
              subst (λ t. T (ok t (remaining n row (suc j)) (stage_set n row (suc j)))) (one_more j)
              (schedule_listed ok (λ j. stage_set n row (suc j)) (λ j. remaining n row (suc j)) m 1 (λ j. remaining-next n row (suc j)) own_schedule j l);
        }

-- the row of a row's sets is the row
pub row_again : {ok : Test} {n m : ℕ} {row : List ℕ} → Row ok n m row → row_of n (sets_of n m row) ≡ row
row_again {ok} {n} {m} {row} h =
    let p = sets_of n m row in
    let long : length p ≡ m = length-listed m λ j. stage_set n row (suc j) in
    same_sets (schedule_row ok n p (row_schedule h) m long) h
    (λ j l. row-set ok n p (row_schedule h) j (omega arith) ∙ listed_at m (λ j. stage_set n row (suc j)) 0 j l)
