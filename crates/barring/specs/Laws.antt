-- Groups that are barred one after the other: behind the first k positions the sets that part none of their groups have their prices. A set
-- that parts none of any position's group has of each group all members or none (`whole-together`).
-- Assumes nothing.
use Rattle.std.specs.Prelude.{◌≡◌, Bool, true, false, cond, ◌&&◌, ◌||◌, List, ℕ, ◌+◌, ◌^◌, ◌<◌, T, eqb}
use Rattle.std.proofs.Math.Path.{refl, ap}
use Rattle.std.proofs.Common.{sym, ◌∙◌, subst, ⊎_elim, add-one, arith, eqb→eq, eq-eqb}
use Rattle.std.proofs.Math.Bool.{and-true}
use Rattle.std.specs.Int.Bits.{bit_and, and_zero_r}
use Rattle.fold.specs.Test.{of_true, is_true, is_false, test, same_test_lem, both, both_of, left, right, either_of}
use Rattle.fold.specs.Fold.{some, each, some_at, some_of, each_at, each_i}
use Rattle.sets.specs.Mask.{has, mask, has-mask, mask_ext, mask_same, mask-has, mask_and, mask_empty}
use Rattle.sets.specs.Rest.{has_none}
use Rattle.model.specs.Model.{group_of, grouped}
use Rattle.model.proofs.Groups.{grouped_of, grouped_by}
use Rattle.optimum.specs.Workspace.{at}
use Rattle.optimum.proofs.Workspace.{kept_here, kept_then}
use Rattle.staging.specs.Tables.{together, barred}
use Rattle.staging.proofs.Serving.{together_of, together_by}
use Rattle.tables.specs.Filled.{Filled}

-- barred by one test and then by another is barred by both
pub barred_twice : (a b : Bool) (x : ℕ) → cond b (cond a x barred) barred ≡ cond (a && b) x barred
barred_twice true true x = refl
barred_twice true false x = refl
barred_twice false true x = refl
barred_twice false false x = refl

-- the members of the group of position i, none where it has no group
abbrev pub members : ℕ → List ℕ → ℕ → ℕ
members n groups i = mask n (grouped groups i)

-- s has all of the members m, or none
abbrev pub undivided : ℕ → ℕ → Bool
undivided m s = eqb (bit_and s m) 0 || eqb (bit_and s m) m

-- s parts no group of the first k positions
unfoldable pub whole : ℕ → ℕ → List ℕ → ℕ → Bool
whole k n groups s = each k λ i. undivided (members n groups i) s

-- ---- one position after the other

module _ (n : ℕ) (groups : List ℕ) where
  pub barred_none : (size : ℕ) (price : List ℕ) → Filled (λ s. cond (whole 0 n groups s) (at price s) barred) size price price
  unfolding whole each
  barred_none size price = record { kept = kept_here size price; all = λ s l. refl }

  whole-next : (k s : ℕ) → whole (k + 1) n groups s ≡ (whole k n groups s && undivided (members n groups k) s)
  unfolding whole each
  whole-next k s = ap (λ i. each i λ g. undivided (members n groups g) s) (add-one k)

  module _ {size : ℕ} {price₀ price : List ℕ} (k : ℕ) (h : Filled (λ s. cond (whole k n groups s) (at price₀ s) barred) size price₀ price) where
    pub barred-next : {price' : List ℕ} (m : ℕ) → m ≡ members n groups k → Filled (λ s. cond (undivided m s) (at price s) barred) size price price'
        → Filled (λ s. cond (whole (k + 1) n groups s) (at price₀ s) barred) size price₀ price'
    barred-next {price'} m e g =
        record {
          kept = kept_then h.kept g.kept;
          all = λ s l.
              g.all s l
              ∙ ap (λ x. cond (undivided m s) x barred) (h.all s l)
              ∙ ap (λ x. cond (undivided x s) (cond (whole k n groups s) (at price₀ s) barred) barred) e
              ∙ barred_twice (whole k n groups s) (undivided (members n groups k) s) (at price₀ s)
              ∙ sym (ap (λ b. cond b (at price₀ s) barred) (whole-next k s));
        }

    -- a position in no group has no members, so no set parts them
    pub barred_skip : group_of groups k ≡ 0 → Filled (λ s. cond (whole (k + 1) n groups s) (at price₀ s) barred) size price₀ price
    barred_skip e =
        let empty : members n groups k ≡ 0 = mask_empty n (grouped groups k) (λ j l. is_false (grouped groups k j) (λ t. omega (arith, grouped_of groups k j t))) in
        record {
          kept = h.kept;
          all = λ s l. h.all s l ∙ sym (ap (λ b. cond b (at price₀ s) barred) (whole-next k s ∙ ap (λ b. whole k n groups s && b) (at_none s empty) ∙ and-true (whole k n groups s)));
        }
      where
        at_none : (s : ℕ) → members n groups k ≡ 0 → undivided (members n groups k) s ≡ true
        at_none s empty = ap (λ m. undivided m s) empty ∙ is_true (undivided 0 s) (left (eqb (bit_and s 0) 0) (eqb (bit_and s 0) 0) (of_true (eq-eqb (bit_and s 0) 0 (and_zero_r s))))

-- ---- all positions: a set parts no group exactly where it has of each all members or none

module _ (n : ℕ) (groups : List ℕ) (s : ℕ) (small : s < 2 ^ n) where
  -- the members of i's group that s has
  abbrev shared : ℕ → ℕ → Bool
  shared i j = has s j && grouped groups i j

  shared_is : (i : ℕ) → bit_and s (members n groups i) ≡ mask n (shared i)
  shared_is i = ap (λ x. bit_and x (members n groups i)) (sym (mask-has n s small)) ∙ mask_and n (has s) (grouped groups i)

  -- of two members of one group s has both
  undivided_of : (i j : ℕ) → i < n → j < n → T (undivided (members n groups i) s) → T (grouped groups i j) → T (has s i) → T (has s j)
  undivided_of i j h l u g p =
      let itself : T (grouped groups i i) = let (a, e) = grouped_of groups i j g in grouped_by groups i i a refl in
      let inside : shared i i ≡ true = is_true (shared i i) (both (has s i) (grouped groups i i) p itself) in
      ⊎_elim
      (λ z.
      let none : has (mask n (shared i)) i ≡ has 0 i = ap (λ k. has k i) (sym (shared_is i) ∙ eqb→eq _ 0 z) in
      absurd (subst T (sym inside ∙ sym (has-mask n (shared i) i h) ∙ none ∙ has_none i) tt))
      (λ z.
      let same : shared i j ≡ grouped groups i j = mask_same n (shared i) (grouped groups i) (sym (shared_is i) ∙ eqb→eq _ (members n groups i) z) j l in
      (both_of (has s j) (grouped groups i j) (subst T (sym same) g)).0)
      (either_of (eqb (bit_and s (members n groups i)) 0) (eqb (bit_and s (members n groups i)) (members n groups i)) u)

  -- s has a member, and so all; or it has none
  undivided_by : (i : ℕ) → T (together n groups s) → T (undivided (members n groups i) s)
  undivided_by i t =
      ⊎_elim
      (λ x.
      let (k, m, q) = some_of n (shared i) x in
      let (p, g) = both_of (has s k) (grouped groups i k) q in
      right (eqb (bit_and s (members n groups i)) 0) (eqb (bit_and s (members n groups i)) (members n groups i))
      (of_true
      (eq-eqb _ (members n groups i)
      (shared_is i
      ∙ mask_ext n (shared i) (grouped groups i)
      (λ j l.
      same_test_lem (shared i j) (grouped groups i j) (λ y. (both_of (has s j) (grouped groups i j) y).1)
      (λ y. both (has s j) (grouped groups i j) (together_of n groups s t k j m l (alike k j g y) p) y))))))
      (λ x.
      left (eqb (bit_and s (members n groups i)) 0) (eqb (bit_and s (members n groups i)) (members n groups i))
      (of_true (eq-eqb _ 0 (shared_is i ∙ mask_empty n (shared i) (λ j l. is_false (shared i j) (λ y. x (some_at n (shared i) j l y)))))))
      (test (some n (shared i)))
    where
      alike : (k j : ℕ) → T (grouped groups i k) → T (grouped groups i j) → T (grouped groups k j)
      alike k j g y =
          let (a, e) = grouped_of groups i k g in
          let (b, f) = grouped_of groups i j y in
          grouped_by groups k j (omega arith) (sym e ∙ f)

  pub whole-together : whole n n groups s ≡ together n groups s
  unfolding whole
  whole-together =
      same_test_lem (each n λ i. undivided (members n groups i) s) (together n groups s)
      (λ w. together_by n groups s (λ i j h l g p. undivided_of i j h l (each_at n (λ i. undivided (members n groups i) s) w i h) g p))
      (λ t. each_i n (λ i. undivided (members n groups i) s) (λ i h. undivided_by i t))

-- behind the last position
pub barred_all : (n : ℕ) (groups : List ℕ) {size : ℕ} {price₀ price : List ℕ} → size ≡ 2 ^ n → Filled (λ s. cond (whole n n groups s) (at price₀ s) barred) size price₀ price
    → Filled (λ s. cond (together n groups s) (at price₀ s) barred) size price₀ price
barred_all n groups {size} {price₀} e h =
    record {
      kept = h.kept;
      all = λ s l. h.all s l ∙ ap (λ b. cond b (at price₀ s) barred) (whole-together n groups s (omega arith));
    }
