-- What `all`, `any` and `find` answer over the indices below a bound, where the closure computes a test of the index: `each`, `some` and the
-- lowest that passes.
-- Assumes nothing.
use Rattle.std.specs.Prelude.{◌≡◌, refl, Bool, true, false, cond, ℕ, ltb, ◌≤◌, ◌<◌, List, length, slice_index_or, Option, Some, None}
use Rattle.std.specs.List.{FoldsTo, AllWithin, HoldsAt, range_with_len}
use Rattle.std.specs.Bool.{MatchBool, ⊤}
use Rattle.std.specs.Option.{MatchOption}
use Rattle.std.specs.Fn.{Called, CalledAt}
use Rattle.std.specs.Iterator.{YieldsThen}
use Rattle.std.proofs.Common.{sym, ◌∙◌, zero-add, arith, subst, lt-ltb, le-ltb, le_refl}
use Rattle.std.proofs.iter.Yields.{nat_range_steps}
use Rattle.std.proofs.lemmas.Iterator.{YieldsList-from_range, cases_from_all, cases_from_any, first_from_Range}
use Rattle.std.proofs.lemmas.List.FromFn.{length-range_with_len, get_or-range_with_len}
use Rattle.std.specs.declared.ops.Range.{Range}
use denote.Param.Members.{Mut}
use denote.Ref.{Bor}
use Rattle.fold.specs.Test.{is_true, of_true, of_false}
use Rattle.fold.specs.First.{first_below}
use Rattle.fold.specs.Fold.{each, some, lowest, each_i, each_fails, some-found, none_i, lowest_none, lowest-found}

index : (n k d : ℕ) → k < n → slice_index_or (range_with_len 0 n) k d ≡ k
index n k d h = get_or-range_with_len 0 n k d h ∙ zero-add k

module _ {F : Type 0} (n : ℕ) (p : ℕ → Bool) (u : Range ℕ) (f : F) where
  abbrev pub below : Range ℕ
  below = record { start = 0; end = n }

  module _ {g : Mut F (ℕ × Unit {0}) Bool} (r : Bool) where
    pub all_each :
        (xs : List ℕ) × (o : Option ℕ) × (j : F) × YieldsThen nat_range_steps below xs o u × FoldsTo (λ s x t. Called g s (x, tt) true t) f xs j
        × MatchOption o (r ≡ true) (λ x. (r ≡ false) × ((h : F) × Called g j (x, tt) false h))
        → ((x : ℕ) (q : F) → Called g f (x, tt) true q → (q ≡ f) × (p x ≡ true)) → ((x : ℕ) (q : F) → Called g f (x, tt) false q → p x ≡ false) → r ≡ each n p
    all_each ran passes fails = go r (cases_from_all u f r (λ x. p x ≡ true) (λ x. p x ≡ false) ran (YieldsList-from_range 0 n n refl (omega arith)) passes fails)
      where
        go : (b : Bool)
            → MatchBool b (AllWithin (λ x. p x ≡ true) (range_with_len 0 n) 0 (length (range_with_len 0 n))) ((k : ℕ) × (k < length (range_with_len 0 n)) × HoldsAt (λ x. p x ≡ false) (range_with_len 0 n) k)
            → b ≡ each n p
        go true h =
            sym (is_true (each n p) (each_i n p λ k l. of_true (subst (λ i. p i ≡ true) (index n k 0 l) (h k 0 (omega arith) (omega (arith, l, length-range_with_len 0 n))))))
        go false h =
            let l : h.0 < n = omega (arith, h.1, length-range_with_len 0 n) in
            sym (each_fails n p h.0 l (subst (λ i. p i ≡ false) (index n h.0 0 l) (h.2 0)))

    pub any_some :
        (xs : List ℕ) × (o : Option ℕ) × (j : F) × YieldsThen nat_range_steps below xs o u × FoldsTo (λ s x t. Called g s (x, tt) false t) f xs j
        × MatchOption o (r ≡ false) (λ x. (r ≡ true) × ((h : F) × Called g j (x, tt) true h))
        → ((x : ℕ) (q : F) → Called g f (x, tt) true q → p x ≡ true) → ((x : ℕ) (q : F) → Called g f (x, tt) false q → (q ≡ f) × (p x ≡ false)) → r ≡ some n p
    any_some ran passes fails = go r (cases_from_any u f r (λ x. p x ≡ true) (λ x. p x ≡ false) ran (YieldsList-from_range 0 n n refl (omega arith)) passes fails)
      where
        go : (b : Bool)
            → MatchBool b ((k : ℕ) × (k < length (range_with_len 0 n)) × HoldsAt (λ x. p x ≡ true) (range_with_len 0 n) k) (AllWithin (λ x. p x ≡ false) (range_with_len 0 n) 0 (length (range_with_len 0 n)))
            → b ≡ some n p
        go true h =
            let l : h.0 < n = omega (arith, h.1, length-range_with_len 0 n) in
            sym (some-found n p h.0 l (subst (λ i. p i ≡ true) (index n h.0 0 l) (h.2 0)))
        go false h =
            sym (none_i n p λ k l t. of_false (subst (λ i. p i ≡ false) (index n k 0 l) (h k 0 (omega arith) (omega (arith, l, length-range_with_len 0 n)))) t)

  module _ {g : Mut F (Bor ℕ × Unit {0}) Bool} (r : Option ℕ) where
    pub find_first :
        (xs : List ℕ) × (j : F) × YieldsThen nat_range_steps below xs r u × FoldsTo (λ s x t. CalledAt g s x false t) f xs j
        × MatchOption r ⊤ (λ x. (h : F) × CalledAt g j x true h)
        → ((x : ℕ) (q : F) → CalledAt g f x true q → p x ≡ true) → ((x : ℕ) (q : F) → CalledAt g f x false q → (q ≡ f) × (p x ≡ false)) → r ≡ first_below n p
    unfolding first_below
    find_first ran passes fails = go r (first_from_Range below u f r (λ x. p x ≡ true) (λ x. p x ≡ false) ran passes fails)
      where
        none_before : (k : ℕ) → ((i : ℕ) → 0 ≤ i → i < k → p i ≡ false) → some k p ≡ false
        none_before k h = none_i k p λ i l t. of_false (h i (omega arith) l) t

        go : (o : Option ℕ) → MatchOption o ((k : ℕ) → 0 ≤ k → k < n → p k ≡ false) (λ i. (0 ≤ i) × (i < n) × (p i ≡ true) × ((k : ℕ) → 0 ≤ k → k < i → p k ≡ false))
            → o ≡ cond (ltb (lowest n p) n) (Some (lowest n p)) None
        go None h = rw (lowest_none n p (none_before n h), le-ltb n n (le_refl n))
        go (Some i) h = rw (lowest-found n p i h.1 (none_before i h.3) h.2, lt-ltb i n h.1)
