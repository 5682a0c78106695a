-- Laws of Groups.antt of specs/.
-- Groups of trains (order 4 of document 02): what it says that a row keeps them, which groups are parted where it does not, and that a day
-- without groups allows just the rows that fit.
-- Assumes nothing.
use Rattle.std.specs.Prelude.{◌≡◌, refl, true, false, not, ◌&&◌, List, ℕ, zero, suc, ◌≤◌, ◌<◌, T, ltb}
use Rattle.std.proofs.Math.Logic.{⊎_elim}
use Rattle.std.proofs.Common.{arith, lt→ltb, ltb→lt, eq-eqb}
use Rattle.std.proofs.Math.Dec.{eqb, eqb→eq, not_T}
use Rattle.fold.specs.Test.{of_true, is_true, is_false, same_test_lem, both, both_of, not_of}
use Rattle.fold.specs.Counting.{same_or}
use Rattle.fold.specs.Fold.{some, some_at, some_of, each_at, each_i, lowest, lowest-passes, lowest-before}
use Rattle.model.specs.Model.{Yard, slot_of, group_of, fitting, grouped, apart, kept, parted, allowed}
use Rattle.model.proofs.Rows.{allowed_fits, fits_allowed}
use Rattle.model.specs.Groups.{GroupsUpTo, NoGroups}

-- ---- members of one group

module _ (groups : List ℕ) (i j : ℕ) where
  pub grouped_of : T (grouped groups i j) → (0 < group_of groups i) × (group_of groups i ≡ group_of groups j)
  unfolding grouped
  grouped_of t =
      let (a, b) = both_of (ltb 0 (group_of groups i)) (eqb (group_of groups i) (group_of groups j)) t in
      (ltb→lt 0 (group_of groups i) a, eqb→eq (group_of groups i) (group_of groups j) b)

  pub grouped_by : 0 < group_of groups i → group_of groups i ≡ group_of groups j → T (grouped groups i j)
  unfolding grouped
  grouped_by a b =
      both (ltb 0 (group_of groups i)) (eqb (group_of groups i) (group_of groups j)) (lt→ltb 0 (group_of groups i) a)
      (of_true (eq-eqb (group_of groups i) (group_of groups j) b))

  module _ (row : List ℕ) where
    apart_of : T (apart groups row i j) → T (grouped groups i j) × (slot_of row i ≡ slot_of row j → ⊥)
    unfolding apart
    apart_of t =
        let (a, b) = both_of (grouped groups i j) (not (eqb (slot_of row i) (slot_of row j))) t in
        (a, λ e. not_of (eqb (slot_of row i) (slot_of row j)) b (of_true (eq-eqb (slot_of row i) (slot_of row j) e)))

    apart_by : T (grouped groups i j) → (slot_of row i ≡ slot_of row j → ⊥) → T (apart groups row i j)
    unfolding apart
    apart_by a d =
        both (grouped groups i j) (not (eqb (slot_of row i) (slot_of row j))) a
        (not_T (eqb (slot_of row i) (slot_of row j)) (λ e. d (eqb→eq (slot_of row i) (slot_of row j) e)))

module _ (n : ℕ) (groups row : List ℕ) where
  -- ---- a row keeps the groups exactly where any two members of one group share their slot

  pub kept_of : T (kept n groups row) → (i j : ℕ) → i < n → j < n → T (grouped groups i j) → slot_of row i ≡ slot_of row j
  unfolding kept
  kept_of t i j h l g =
      ⊎_elim (λ e. e) (λ d. absurd (not_of (apart groups row i j) (each_at n _ (each_at n _ t i h) j l) (apart_by groups i j row g d)))
      (same_or (slot_of row i) (slot_of row j))

  pub kept_by : ((i j : ℕ) → i < n → j < n → T (grouped groups i j) → slot_of row i ≡ slot_of row j) → T (kept n groups row)
  unfolding kept
  kept_by same =
      each_i n _ (λ i h. each_i n _ (λ j l.
      not_T (apart groups row i j) (λ t. let (g, d) = apart_of groups i j row t in d (same i j h l g))))

  -- ---- the parted groups

  pub parted_of : (g : ℕ) → T (parted n groups row g)
      → (i j : ℕ) × (i < n) × (j < n) × (group_of groups i ≡ g) × T (grouped groups i j) × (slot_of row i ≡ slot_of row j → ⊥)
  unfolding parted
  parted_of g t =
      let (i, h, a) = some_of n (λ i. eqb (group_of groups i) g && some n (apart groups row i)) t in
      let (e, b) = both_of (eqb (group_of groups i) g) (some n (apart groups row i)) a in
      let (j, l, c) = some_of n (apart groups row i) b in
      let (m, d) = apart_of groups i j row c in
      (i, j, h, l, eqb→eq (group_of groups i) g e, m, d)

  pub parted_by : (i j : ℕ) → i < n → j < n → T (grouped groups i j) → (slot_of row i ≡ slot_of row j → ⊥) → T (parted n groups row (group_of groups i))
  unfolding parted
  parted_by i j h l m d =
      some_at n (λ k. eqb (group_of groups k) (group_of groups i) && some n (apart groups row k)) i h
      (both (eqb (group_of groups i) (group_of groups i)) (some n (apart groups row i)) (of_true (eq-eqb (group_of groups i) (group_of groups i) refl))
      (some_at n (apart groups row i) j l (apart_by groups i j row m d)))

  -- ---- the lowest parted group: where one is parted the row does not keep the groups; where none of 1 to k is, and there are no others, it does

  pub parted-parts : (k : ℕ) → lowest k (λ g. parted n groups row (suc g)) < k → kept n groups row ≡ false
  parted-parts k h =
      is_false (kept n groups row)
      (λ t.
      let (i, j, a, b, e, m, d) = parted_of (suc (lowest k λ g. parted n groups row (suc g))) (lowest-passes k (λ g. parted n groups row (suc g)) h) in
      d (kept_of t i j a b m))

  pub unparted_keeps : (k : ℕ) → GroupsUpTo k n groups → k ≤ lowest k (λ g. parted n groups row (suc g)) → kept n groups row ≡ true
  unparted_keeps k low h =
      is_true (kept n groups row)
      (kept_by (λ i j a b m.
      ⊎_elim (λ e. e) (λ d. absurd (none (group_of groups i) (grouped_of groups i j m).0 (low i a) (parted_by i j a b m d)))
      (same_or (slot_of row i) (slot_of row j))))
    where
      none : (g : ℕ) → 0 < g → g ≤ k → T (parted n groups row g) → ⊥
      none zero a b p = omega arith
      none (suc g) a b p = lowest-before k (λ g. parted n groups row (suc g)) g (omega arith) p

-- allows just the rows that fit
pub without_groups : (y : Yard) (row : List ℕ) → NoGroups y → allowed y row ≡ fitting y row
without_groups y row none =
    same_test_lem (allowed y row) (fitting y row) (allowed_fits y row)
    (λ t. fits_allowed y row t
    (kept_by y.trains y.groups row (λ i j h l m. absurd (let (a, e) = grouped_of y.groups i j m in omega (arith, none i h)))))
