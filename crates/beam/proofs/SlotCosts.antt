-- Laws of SlotCosts.antt of specs/.
-- What a set of trains costs, by its trains, as code adds it up: the boxes from outside the set (`outside_members`), and its trains with a
-- supplier among those that remain (`late-members`).
-- Assumes nothing.
use Rattle.std.specs.Prelude.{◌≡◌, refl, Bool, true, false, cond, ◌&&◌, ℕ, ◌+◌, ◌-◌, ◌^◌, ◌<◌, T, ltb}
use Rattle.std.proofs.Common.{sym, ap, ◌∙◌, subst, ⊎_elim, eq-zero-or-pos, arith, ltb→lt, lt→ltb}
use Rattle.std.specs.Int.Bits.{bit_and}
use Rattle.std.specs.Int.Count.{ones}
use Rattle.fold.specs.Test.{is_false, same_test_lem, test}
use Rattle.fold.specs.Fold.{bit, sum, count, some, some_at, some_of}
use Rattle.fold.specs.Sums.{sum_ext, sum-add}
use Rattle.sets.specs.Mask.{has, mask, mask_empty, mask_and, mask-has, has-mask, ones_mask}
use Rattle.sets.specs.Rest.{has_none}
use Rattle.model.specs.Model.{supplies}
use Rattle.staging.specs.Tables.{needing, from_outside}
use Rattle.sets.specs.Members.{sum_over}
use Rattle.beam.specs.SlotCosts.{suppliers_of}

-- ---- what a set of trains costs

-- the boxes that the trains of s receive from outside s: all that they receive, less what they receive from each other
pub outside_members : (n : ℕ) (a : ℕ → ℕ → ℕ) (s : ℕ) → from_outside n a s ≡ sum_over n s λ i. sum n (a i) - sum_over n s (a i)
unfolding from_outside sum_over
outside_members n a s =
    sum_ext n (λ i. cond (has s i) (sum n λ j. cond (has s j) 0 (a i j)) 0) (λ i. cond (has s i) (sum n (a i) - sum n (λ j. cond (has s j) (a i j) 0)) 0)
    (λ i l. ap (λ x. cond (has s i) x 0) (outside i))
  where
    part : (b : Bool) (x : ℕ) → x ≡ cond b 0 x + cond b x 0
    part true x = omega arith
    part false x = omega arith

    outside : (i : ℕ) → sum n (λ j. cond (has s j) 0 (a i j)) ≡ sum n (a i) - sum n (λ j. cond (has s j) (a i j) 0)
    outside i =
        let e : sum n (a i) ≡ sum n (λ j. cond (has s j) 0 (a i j)) + sum n (λ j. cond (has s j) (a i j) 0) =
        sum_ext n (a i) (λ j. cond (has s j) 0 (a i j) + cond (has s j) (a i j) 0) (λ j l. part (has s j) (a i j))
        ∙ sum-add n (λ j. cond (has s j) 0 (a i j)) (λ j. cond (has s j) (a i j) 0) in
        omega arith

-- train i has a supplier in m exactly where the two sets share a position
meets : (n : ℕ) (a : ℕ → ℕ → ℕ) (m i : ℕ) → m < 2 ^ n → some n (λ j. has m j && supplies a i j) ≡ ltb 0 (bit_and m (suppliers_of n a i))
unfolding suppliers_of
meets n a m i small =
    let both-sets : bit_and m (mask n (supplies a i)) ≡ mask n (λ j. has m j && supplies a i j) =
    ap (λ x. bit_and x (mask n (supplies a i))) (sym (mask-has n m small)) ∙ mask_and n (has m) (supplies a i) in
    same_test_lem (some n (λ j. has m j && supplies a i j)) (ltb 0 (bit_and m (mask n (supplies a i))))
    (λ t.
    let (j, l, p) = some_of n (λ j. has m j && supplies a i j) t in
    lt→ltb 0 (bit_and m (mask n (supplies a i)))
    (⊎_elim
    (λ (z : bit_and m (mask n (supplies a i)) ≡ 0).
    absurd (subst T (sym (has-mask n (λ j. has m j && supplies a i j) j l) ∙ ap (λ x. has x j) (sym both-sets ∙ z) ∙ has_none j) p))
    (λ q. q)
    (eq-zero-or-pos (bit_and m (mask n (supplies a i))))))
    (λ t.
    ⊎_elim (λ found. found)
    (λ (none : T (some n (λ j. has m j && supplies a i j)) → ⊥).
    absurd
    (omega (
      arith,
      ltb→lt 0 (bit_and m (mask n (supplies a i))) t,
      both-sets ∙ mask_empty n (λ j. has m j && supplies a i j) (λ j l. is_false (has m j && supplies a i j) (λ p. none (some_at n (λ j. has m j && supplies a i j) j l p))),
    )))
    (test (some n (λ j. has m j && supplies a i j))))

pub late-members : (n : ℕ) (a : ℕ → ℕ → ℕ) (s m : ℕ) → s < 2 ^ n → m < 2 ^ n
    → ones (bit_and s (needing n a m)) ≡ sum_over n s λ i. bit (ltb 0 (bit_and m (suppliers_of n a i)))
unfolding needing sum_over count
late-members n a s m small small' =
    ap (λ x. ones (bit_and x (mask n λ i. some n λ j. has m j && supplies a i j))) (sym (mask-has n s small))
    ∙ ap ones (mask_and n (has s) (λ i. some n λ j. has m j && supplies a i j))
    ∙ ones_mask n (λ i. has s i && some n λ j. has m j && supplies a i j)
    ∙ sum_ext n (λ i. bit (has s i && some n λ j. has m j && supplies a i j)) (λ i. cond (has s i) (bit (ltb 0 (bit_and m (suppliers_of n a i)))) 0)
    (λ i l. part (has s i) (some n λ j. has m j && supplies a i j) (ltb 0 (bit_and m (suppliers_of n a i))) (meets n a m i small'))
  where
    part : (b c d : Bool) → c ≡ d → bit (b && c) ≡ cond b (bit d) 0
    part true c d e = ap bit e
    part false c d e = refl
