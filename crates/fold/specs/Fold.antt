-- Sums, counts, tests and searches over the indices below a bound, as definitions that compute, and the law of each at a loop's
-- next turn and at its end. Every loop over positions, slots or lines in the crates above is stated by these.
-- Assumes nothing.
use Rattle.std.specs.Prelude.{◌≡◌, refl, Bool, true, false, not, cond, ◌&&◌, ◌||◌, ℕ, zero, suc, ◌+◌, ◌≤◌, ◌<◌, T}
use Rattle.std.proofs.Common.{sym, ap, ap₂, ◌∙◌, subst, ⊎_elim, zero-le, suc-le-suc, le_of_suc-le-suc, not-suc-le-zero, eq-or-lt_of_le, le_refl, le_antisymm, add-one, arith}
use Rattle.fold.specs.Test.{is_true, of_true, is_false, of_false, both, both_of, left, right, either_of, not_of, not_not}

-- ---- definitions

-- the number of a test: 1 where it passes
abbrev pub bit : Bool → ℕ
bit true = 1
bit false = 0

-- f 0 + .. + f (k - 1)
unfoldable pub sum : ℕ → (ℕ → ℕ) → ℕ
sum zero f = 0
sum (suc k) f = sum k f + f k

-- how many of the indices below k pass
unfoldable pub count : ℕ → (ℕ → Bool) → ℕ
unfolding sum
count k p = sum k λ i. bit (p i)

-- some index below k passes
unfoldable pub some : ℕ → (ℕ → Bool) → Bool
some zero p = false
some (suc k) p = some k p || p k

-- each index below k passes
unfoldable pub each : ℕ → (ℕ → Bool) → Bool
each zero p = true
each (suc k) p = each k p && p k

-- the lowest index below k that passes, or k
unfoldable pub lowest : ℕ → (ℕ → Bool) → ℕ
lowest zero p = 0
lowest (suc k) p = cond (p 0) 0 (suc (lowest k λ i. p (suc i)))

-- ---- an index below the next bound

pub below_suc : (P : ℕ → Type 0) (k : ℕ) → ((j : ℕ) → j < k → P j) → P k → (j : ℕ) → j < suc k → P j
below_suc P k all here j h = ⊎_elim (λ e. subst P (sym e) here) (λ l. all j l) (eq-or-lt_of_le (le_of_suc-le-suc h))

-- ---- where a loop begins, and its next turn

pub sum_none : (f : ℕ → ℕ) → sum 0 f ≡ 0
unfolding sum
sum_none f = refl

pub sum-next : (k : ℕ) (f : ℕ → ℕ) → sum (k + 1) f ≡ sum k f + f k
unfolding sum
sum-next k f = rw add-one

pub count_none : (p : ℕ → Bool) → count 0 p ≡ 0
unfolding count
count_none p = refl

pub count_next : (k : ℕ) (p : ℕ → Bool) → count (k + 1) p ≡ count k p + bit (p k)
unfolding count
count_next k p = sum-next k λ i. bit (p i)

-- ---- where a loop ends: at the bound

pub at_end : {X : Type 0} (f : ℕ → X) (i n : ℕ) → i ≤ n → n ≤ i → f i ≡ f n
at_end f i n a b = ap f (le_antisymm a b)

-- ---- some

pub some_at : (n : ℕ) (p : ℕ → Bool) (k : ℕ) → k < n → T (p k) → T (some n p)
unfolding some
some_at zero p k h t = absurd (not-suc-le-zero h)
some_at (suc n) p k h t =
    ⊎_elim (λ e. right (some n p) (p n) (subst (λ m. T (p m)) e t)) (λ l. left (some n p) (p n) (some_at n p k l t))
    (eq-or-lt_of_le (le_of_suc-le-suc h))

pub some_of : (n : ℕ) (p : ℕ → Bool) → T (some n p) → (k : ℕ) × (k < n) × T (p k)
unfolding some
some_of zero p t = absurd t
some_of (suc n) p t =
    ⊎_elim (λ s. let w = some_of n p s in (w.0, omega arith, w.2)) (λ s. (n, omega arith, s)) (either_of (some n p) (p n) t)

-- none so far, and not the next; found
pub no_some : (p : ℕ → Bool) → some 0 p ≡ false
unfolding some
no_some p = refl

pub none_next : (k : ℕ) (p : ℕ → Bool) → some k p ≡ false → p k ≡ false → some (k + 1) p ≡ false
unfolding some
none_next k p a b = rw add-one (ap₂ ◌||◌ a b)

pub none_end : (i n : ℕ) (p : ℕ → Bool) → i ≤ n → n ≤ i → some i p ≡ false → some n p ≡ false
none_end i n p a b e = sym (at_end (λ k. some k p) i n a b) ∙ e

pub some-found : (n : ℕ) (p : ℕ → Bool) (k : ℕ) → k < n → p k ≡ true → some n p ≡ true
some-found n p k h e = is_true (some n p) (some_at n p k h (of_true e))

pub none_i : (n : ℕ) (p : ℕ → Bool) → ((k : ℕ) → k < n → T (p k) → ⊥) → some n p ≡ false
none_i n p h = is_false (some n p) (λ t. let w = some_of n p t in h w.0 w.1 w.2)

pub none_at : (n : ℕ) (p : ℕ → Bool) → some n p ≡ false → (k : ℕ) → k < n → T (p k) → ⊥
none_at n p e k h t = of_false e (some_at n p k h t)

-- ---- each

pub each_at : (n : ℕ) (p : ℕ → Bool) → T (each n p) → (k : ℕ) → k < n → T (p k)
unfolding each
each_at zero p t k h = absurd (not-suc-le-zero h)
each_at (suc n) p t k h =
    let w = both_of (each n p) (p n) t in
    below_suc (λ k. T (p k)) n (each_at n p w.0) w.1 k h

pub each_i : (n : ℕ) (p : ℕ → Bool) → ((k : ℕ) → k < n → T (p k)) → T (each n p)
unfolding each
each_i zero p h = tt
each_i (suc n) p h = both (each n p) (p n) (each_i n p (λ k l. h k (omega arith))) (h n (omega arith))

-- each so far, and the next; one that fails
pub each_none : (p : ℕ → Bool) → each 0 p ≡ true
unfolding each
each_none p = refl

pub each_next : (k : ℕ) (p : ℕ → Bool) → each k p ≡ true → p k ≡ true → each (k + 1) p ≡ true
unfolding each
each_next k p a b = rw add-one (ap₂ ◌&&◌ a b)

pub each_end : (i n : ℕ) (p : ℕ → Bool) → i ≤ n → n ≤ i → each i p ≡ true → each n p ≡ true
each_end i n p a b e = sym (at_end (λ k. each k p) i n a b) ∙ e

pub each_fails : (n : ℕ) (p : ℕ → Bool) (k : ℕ) → k < n → p k ≡ false → each n p ≡ false
each_fails n p k h e = is_false (each n p) (λ t. of_false e (each_at n p t k h))

-- ---- lowest

pub lowest_none : (n : ℕ) (p : ℕ → Bool) → some n p ≡ false → lowest n p ≡ n
unfolding lowest
lowest_none zero p e = refl
lowest_none (suc n) p e =
    ap₂ (λ b k. cond b 0 (suc k)) (is_false (p 0) (none_at (suc n) p e 0 (omega arith)))
    (lowest_none n (λ i. p (suc i)) (none_i n (λ i. p (suc i)) (λ k h. none_at (suc n) p e (suc k) (omega arith))))

pub lowest-found : (n : ℕ) (p : ℕ → Bool) (k : ℕ) → k < n → some k p ≡ false → p k ≡ true → lowest n p ≡ k
unfolding lowest
lowest-found zero p k h a b = absurd (not-suc-le-zero h)
lowest-found (suc n) p zero h a b = ap (λ t. cond t 0 (suc (lowest n λ i. p (suc i)))) b
lowest-found (suc n) p (suc k) h a b =
    ap₂ (λ t m. cond t 0 (suc m)) (is_false (p 0) (none_at (suc k) p a 0 (omega arith)))
    (lowest-found n (λ i. p (suc i)) k (le_of_suc-le-suc h) (none_i k (λ i. p (suc i)) (λ j l. none_at (suc k) p a (suc j) (omega arith))) b)

-- what it says of the index that it gives
pub lowest_le : (n : ℕ) (p : ℕ → Bool) → lowest n p ≤ n
unfolding lowest
lowest_le zero p = le_refl 0
lowest_le (suc n) p = go (p 0) (lowest_le n λ i. p (suc i))
  where
    go : (b : Bool) → (lowest n λ i. p (suc i)) ≤ n → cond b 0 (suc (lowest n λ i. p (suc i))) ≤ suc n
    go true h = zero-le
    go false h = suc-le-suc h

pub lowest-passes : (n : ℕ) (p : ℕ → Bool) → lowest n p < n → T (p (lowest n p))
unfolding lowest
lowest-passes zero p h = absurd (not-suc-le-zero h)
lowest-passes (suc n) p h = go (p 0) refl h (lowest-passes n λ i. p (suc i))
  where
    go : (b : Bool) → p 0 ≡ b → cond b 0 (suc (lowest n λ i. p (suc i))) < suc n
        → ((lowest n λ i. p (suc i)) < n → T (p (suc (lowest n λ i. p (suc i))))) → T (p (cond b 0 (suc (lowest n λ i. p (suc i)))))
    go true e l later = of_true e
    go false e l later = later (le_of_suc-le-suc l)

pub lowest-before : (n : ℕ) (p : ℕ → Bool) (k : ℕ) → k < lowest n p → T (p k) → ⊥
unfolding lowest
lowest-before zero p k h t = not-suc-le-zero h
lowest-before (suc n) p k h t = go (p 0) refl k h t (lowest-before n λ i. p (suc i))
  where
    go : (b : Bool) → p 0 ≡ b → (k : ℕ) → k < cond b 0 (suc (lowest n λ i. p (suc i))) → T (p k)
        → ((k : ℕ) → k < (lowest n λ i. p (suc i)) → T (p (suc k)) → ⊥) → ⊥
    go true e k l t later = not-suc-le-zero l
    go false e zero l t later = of_false e t
    go false e (suc k) l t later = later k (le_of_suc-le-suc l) t

-- the lowest index that fails: none does, or one
pub each-lowest : (n : ℕ) (p : ℕ → Bool) → n ≤ lowest n (λ i. not (p i)) → each n p ≡ true
each-lowest n p h =
    is_true (each n p)
    (each_i n p (λ k l. not_not (p k) (lowest-before n (λ i. not (p i)) k (omega arith))))

pub lowest-each : (n : ℕ) (p : ℕ → Bool) → lowest n (λ i. not (p i)) < n → each n p ≡ false
lowest-each n p h =
    each_fails n p (lowest n λ i. not (p i)) h (is_false (p (lowest n λ i. not (p i))) (not_of (p (lowest n λ i. not (p i))) (lowest-passes n (λ i. not (p i)) h)))
