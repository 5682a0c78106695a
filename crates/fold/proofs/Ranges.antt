-- What a chain of iterators over a range gives, by the definitions of Fold.antt: `(a..b).map(f).sum()`, `(0..n).any(f)`, `(0..n).find(f)`,
-- `(a..=b).find(f)` and `(a..=b).rev().find(f)`. The closure computes a function of the index, and stays as it is.
-- Assumes nothing.
use Rattle.std.specs.Prelude.{◌≡◌, refl, Bool, true, false, cond, List, map, Option, None, Some, MatchOption, IfSome, IsSomeAnd, IsTrue, ℕ, zero, suc, ◌+◌, ◌-◌, ◌≤◌, ◌<◌, get_or, length}
use Rattle.std.proofs.Common.{sym, ap, ◌∙◌, subst, add-one, zero-add, arith}
use Rattle.std.proofs.iter.Yields.{nat_range_steps}
use Rattle.std.proofs.iter.runs.Sources.{nat_range_inclusive_steps, nat_range_inclusive_steps_back, inclusive_listed, inclusive_listed_back}
use Rattle.std.proofs.lemmas.Iterator.{YieldsList, YieldsList-from_map, YieldsList-from_range, maps, cases_from_any, first_from_Range}
use Rattle.std.proofs.lemmas.Iterator.Consumers.{sum_from_yields_List, fits_from_yields_list, count_from_yields_List, YieldsList-from_filter}
use Rattle.std.proofs.lemmas.List.Sums.{length-filter, sum-map}
use Rattle.std.specs.declared.iter.Filter.{Filter}
use Rattle.std.proofs.lemmas.List.FromFn.{sum_by-map-range_with_len_more, length-range_with_len, get_or-range_with_len}
use Rattle.std.specs.Fn.{Called, CalledAt}
use Rattle.std.specs.Iterator.{Drains, YieldsThen}
use Rattle.std.specs.Iterator.Adapters.{map_source, map_callee, filter_source, filter_callee, filter_steps, rev_steps, RevKeepsRuns}
use Rattle.std.specs.Iterator.Runs.{Run, SomeRun, EachRunFrom, ItemsCountUp, ItemsCountDown, CallKeepsClosure, NoItemPasses, EndsAtFirstPassing}
use Rattle.std.specs.List.{fold, filter, range_with_len, sum as total, FoldsTo, HoldsAt, AllWithin}
use Rattle.std.specs.Option.{unwrap_or, option_map}
use Rattle.std.specs.Bool.{⊤, MatchBool}
use Rattle.std.specs.declared.iter.Map.{Map}
use Rattle.std.specs.declared.iter.Rev.{Rev}
use Rattle.std.specs.declared.ops.Range.{Range}
use Rattle.std.specs.declared.ops.RangeInclusive.{RangeInclusive}
use Rattle.std.specs.Range.{range_inclusive_start, range_inclusive_end, range_inclusive_exhausted}
use denote.Param.Members.{Mut}
use denote.Ref.{Bor}
use Rattle.fold.specs.Test.{of_false}
use Rattle.fold.specs.Sums.{sum_ext}
use Rattle.fold.specs.Fold.{bit, sum, count, some, lowest, none_i, some-found, lowest_none, lowest-found}

-- ---- a sum

pub total_of_range : (f : ℕ → ℕ) (a n : ℕ) → total (map f (range_with_len a n)) ≡ sum n λ k. f (a + k)
unfolding sum
total_of_range f a zero = refl
total_of_range f a (suc n) =
    ap (λ k. total (map f (range_with_len a k))) (sym (add-one n)) ∙ sum_by-map-range_with_len_more (λ x. x) f a n (a + n) refl
    ∙ ap (λ t. t + f (a + n)) (total_of_range f a n)

module _ {F : Type 0} (g : Mut F (ℕ × Unit {0}) ℕ) {f : F} (h : ℕ → ℕ) (a b : ℕ) (s : Map (Range ℕ) F)
    (source : map_source s ≡ record { start = a; end = b }) (closure : map_callee s ≡ f)
    (gives : (x r : ℕ) (q : F) → Called g f (x, tt) r q → (q ≡ f) × (r ≡ h x)) where
  road : YieldsList (maps nat_range_steps g) (λ r. r) s (map h (range_with_len a (b - a)))
  road = YieldsList-from_map g h (YieldsList-from_range a b (b - a) source refl) closure gives

  pub range_sum_gives : (r : ℕ) → ((xs : List ℕ) × (⊤ → Drains (maps nat_range_steps g) s xs) × (r ≡ fold (λ a x. a + x) 0 xs)) → r ≡ sum (b - a) λ k. h (a + k)
  range_sum_gives r ran = sum_from_yields_List s r ran road ∙ total_of_range h a (b - a)

  pub range_sum_fits : (top : ℕ) → (sum (b - a) λ k. h (a + k)) < top → EachRunFrom (maps nat_range_steps g) s (λ p. fold (λ a x. a + x) 0 p.items < top)
  range_sum_fits top below = fits_from_yields_list s top road (subst (λ t. t < top) (sym (total_of_range h a (b - a))) below)

-- from the index 0
module _ {F : Type 0} (g : Mut F (ℕ × Unit {0}) ℕ) {f : F} (h : ℕ → ℕ) (n : ℕ) (s : Map (Range ℕ) F)
    (source : map_source s ≡ record { start = 0; end = n }) (closure : map_callee s ≡ f)
    (gives : (x r : ℕ) (q : F) → Called g f (x, tt) r q → (q ≡ f) × (r ≡ h x)) where
  from_zero : (sum (n - 0) λ k. h (0 + k)) ≡ sum n h
  from_zero =
      let all : n - 0 ≡ n = omega arith in
      ap (λ m. sum m λ k. h (0 + k)) all ∙ sum_ext n (λ k. h (0 + k)) h (λ k l. ap h (zero-add k))

  pub front_sum_gives : (r : ℕ) → ((xs : List ℕ) × (⊤ → Drains (maps nat_range_steps g) s xs) × (r ≡ fold (λ a x. a + x) 0 xs)) → r ≡ sum n h
  front_sum_gives r ran = range_sum_gives g h 0 n s source closure gives r ran ∙ from_zero

  pub front_sum_fits : (top : ℕ) → sum n h < top → EachRunFrom (maps nat_range_steps g) s (λ p. fold (λ a x. a + x) 0 p.items < top)
  front_sum_fits top below = range_sum_fits g h 0 n s source closure gives top (subst (λ t. t < top) (sym from_zero) below)

-- ---- how many of the indices below n pass

one_or_none : (b : Bool) → cond b 1 0 ≡ bit b
one_or_none true = refl
one_or_none false = refl

count_of_range : (p : ℕ → Bool) (n : ℕ) → length (filter p (range_with_len 0 n)) ≡ count n p
unfolding count
count_of_range p n =
    let one : ℕ → ℕ = λ x. cond (p x) 1 0 in
    length-filter p (range_with_len 0 n) ∙ sym (sum-map one (range_with_len 0 n)) ∙ total_of_range one 0 n
    ∙ sum_ext n (λ k. one (0 + k)) (λ k. bit (p k)) (λ k h. ap one (zero-add k) ∙ one_or_none (p k))

module _ {F : Type 0} (g : Mut F (Bor ℕ × Unit {0}) Bool) {f : F} (p : ℕ → Bool) (n : ℕ) (s : Filter (Range ℕ) F)
    (source : filter_source s ≡ record { start = 0; end = n }) (closure : filter_callee s ≡ f)
    (gives : (x : ℕ) (r : Bool) (q : F) → CalledAt g f x r q → (q ≡ f) × (r ≡ p x)) where
  pub range_count_gives : (r : ℕ) → ((xs : List ℕ) × Drains (filter_steps nat_range_steps g) s xs × (r ≡ length xs)) → r ≡ count n p
  range_count_gives r ran =
      count_from_yields_List s r ran (YieldsList-from_filter g p (YieldsList-from_range 0 n n source (omega arith)) closure gives) ∙ count_of_range p n

-- ---- a test of the indices below n

module _ {F : Type 0} (g : Mut F (ℕ × Unit {0}) Bool) (f : F) (p : ℕ → Bool) (n : ℕ) (s u : Range ℕ) (source : s ≡ record { start = 0; end = n })
    (gives : (x : ℕ) (r : Bool) (q : F) → Called g f (x, tt) r q → (q ≡ f) × (r ≡ p x)) where
  pub any_in_range : (r : Bool)
      → (xs : List ℕ) × (o : Option ℕ) × (j : F) × YieldsThen nat_range_steps s xs o u × FoldsTo (λ p x q. Called g p (x, tt) false q) f xs j
      × MatchOption o (r ≡ false) (λ x. (r ≡ true) × ((h : F) × Called g j (x, tt) true h))
      → r ≡ some n p
  any_in_range r ran =
      go r
      (cases_from_any u f r (λ x. p x ≡ true) (λ x. p x ≡ false) ran (YieldsList-from_range 0 n n source (omega arith))
      (λ x q k. sym (gives x true q k).1) (λ x q k. ((gives x false q k).0, sym (gives x false q k).1)))
    where
      all : List ℕ
      all = range_with_len 0 n

      at : (k : ℕ) → k < n → get_or all k 0 ≡ k
      at k h = get_or-range_with_len 0 n k 0 h ∙ zero-add k

      go : (r : Bool)
          → MatchBool r ((k : ℕ) × (k < length all) × HoldsAt (λ x. p x ≡ true) all k) (AllWithin (λ x. p x ≡ false) all 0 (length all)) → r ≡ some n p
      go true (k, h, e) = let l : k < n = omega (arith, length-range_with_len 0 n) in sym (some-found n p k l (subst (λ x. p x ≡ true) (at k l) (e 0)))
      go false e = sym (none_i n p (λ k h. of_false (subst (λ x. p x ≡ false) (at k h) (e k 0 (omega arith) (omega (arith, length-range_with_len 0 n))))))

-- ---- the lowest index below n that passes, or n

pub lowest_of : (n : ℕ) (p : ℕ → Bool) (r : Option ℕ)
    → MatchOption r ((k : ℕ) → 0 ≤ k → k < n → p k ≡ false) (λ i. (0 ≤ i) × (i < n) × (p i ≡ true) × ((k : ℕ) → 0 ≤ k → k < i → p k ≡ false))
    → unwrap_or r n ≡ lowest n p
lowest_of n p None e = sym (lowest_none n p (none_i n p (λ k h. of_false (e k (omega arith) h))))
lowest_of n p (Some i) e = let (_, l, here, before) = e in sym (lowest-found n p i l (none_i i p (λ k h. of_false (before k (omega arith) h))) here)

module _ {F : Type 0} (g : Mut F (Bor ℕ × Unit {0}) Bool) (f : F) (p : ℕ → Bool) (n : ℕ) (s u : Range ℕ) (source : s ≡ record { start = 0; end = n })
    (gives : (x : ℕ) (r : Bool) (q : F) → CalledAt g f x r q → (q ≡ f) × (r ≡ p x)) where
  pub lowest_in_range : (r : Option ℕ)
      → (xs : List ℕ) × (j : F) × YieldsThen nat_range_steps s xs r u × FoldsTo (λ p x q. CalledAt g p x false q) f xs j
      × MatchOption r ⊤ (λ x. (h : F) × CalledAt g j x true h)
      → unwrap_or r n ≡ lowest n p
  lowest_in_range r ran =
      lowest_of n p r
      (subst (λ (s : Range ℕ). MatchOption r ((k : ℕ) → s.start ≤ k → k < s.end → p k ≡ false)
      (λ i. (s.start ≤ i) × (i < s.end) × (p i ≡ true) × ((k : ℕ) → s.start ≤ k → k < i → p k ≡ false))) source
      (first_from_Range s u f r (λ x. p x ≡ true) (λ x. p x ≡ false) ran (λ x q k. sym (gives x true q k).1)
      (λ x q k. ((gives x false q k).0, sym (gives x false q k).1))))

  -- the same, where none is found kept apart
  pub found_in_range : (r : Option ℕ)
      → (xs : List ℕ) × (j : F) × YieldsThen nat_range_steps s xs r u × FoldsTo (λ p x q. CalledAt g p x false q) f xs j
      × MatchOption r ⊤ (λ x. (h : F) × CalledAt g j x true h)
      → MatchOption r (n ≤ lowest n p) (λ i. (i ≡ lowest n p) × (i < n))
  found_in_range r ran =
      go r (lowest_in_range r ran)
      (first_from_Range s u f r (λ x. p x ≡ true) (λ x. p x ≡ false) ran (λ x q k. sym (gives x true q k).1)
      (λ x q k. ((gives x false q k).0, sym (gives x false q k).1)))
    where
      go : (r : Option ℕ) → unwrap_or r n ≡ lowest n p
          → MatchOption r ((k : ℕ) → s.start ≤ k → k < s.end → p k ≡ false) (λ i. (s.start ≤ i) × (i < s.end) × (p i ≡ true) × ((k : ℕ) → s.start ≤ k → k < i → p k ≡ false))
          → MatchOption r (n ≤ lowest n p) (λ i. (i ≡ lowest n p) × (i < n))
      go None e found = omega arith
      go (Some i) e found = let end = ap (λ (s : Range ℕ). s.end) source in (e, omega (arith, found.1, end))

-- ---- the first of a run that counts up, or down, from the indices from a and below b

item_at : (P : ℕ → Type 0) (o : Option ℕ) (v : ℕ) → option_map (λ y. y) o ≡ Some v → IfSome o P → P v
item_at P None v e h = absurd (cc)
item_at P (Some x) v e h = let same : x ≡ v = cc in subst P same h

-- an item of which a fact holds
some_if : (P : ℕ → Type 0) (o : Option ℕ) → IsSomeAnd o P → IfSome o P
some_if P None h = absurd h
some_if P (Some x) h = h

module _ {S F : Type 0} {steps : S → Option ℕ → S → Type 0} (g : Mut F (Bor ℕ × Unit {0}) Bool) (f : F) (p : ℕ → Bool) (a b : ℕ) (u : Run steps)
    (keeps : CallKeepsClosure g f) (gives : (x : ℕ) (r : Bool) → CalledAt g f x r f → r ≡ p x) where
  fails : (o : Option ℕ) (v : ℕ) → option_map (λ y. y) o ≡ Some v → IfSome o (λ x. CalledAt g f x false f) → p v ≡ false
  fails o v e h = sym (gives v false (item_at (λ x. CalledAt g f x false f) o v e h))

  pub first_up : (r : Option ℕ) → ItemsCountUp u a b → MatchOption r (IsTrue u.whole × NoItemPasses u g f) (EndsAtFirstPassing u g f)
      → MatchOption r ((k : ℕ) → a ≤ k → k < b → p k ≡ false) (λ i. (a ≤ i) × (i < b) × (p i ≡ true) × ((k : ℕ) → a ≤ k → k < i → p k ≡ false))
  first_up None up (whole, none) =
      λ k l h.
      let place : a + (k - a) ≡ k = omega arith in
      fails (u.at (k - a)) k (up.3 (k - a) (omega (arith, up.1 whole)) ∙ ap Some place) (none keeps (k - a))
  first_up (Some x) up (i, len, here, first) =
      let value : x ≡ a + i = item_at (λ v. x ≡ v) (Some x) (a + i) (ap (option_map (λ y. y)) (sym here) ∙ up.3 i (omega arith)) refl in
      let before = (first keeps).1 in (
        omega arith,
        omega (arith, up.0),
        sym (gives x true (first keeps).0),
        λ k l h.
            let place : a + (k - a) ≡ k = omega arith in
            fails (u.at (k - a)) k (up.3 (k - a) (omega arith) ∙ ap Some place)
            (some_if (λ y. CalledAt g f y false f) (u.at (k - a)) (before (k - a) (omega arith))),
      )

  pub first_down : (r : Option ℕ) → ItemsCountDown u a b → MatchOption r (IsTrue u.whole × NoItemPasses u g f) (EndsAtFirstPassing u g f)
      → MatchOption r ((k : ℕ) → a ≤ k → k < b → p k ≡ false) (λ i. (a ≤ i) × (i < b) × (p i ≡ true) × ((k : ℕ) → i < k → k < b → p k ≡ false))
  first_down None down (whole, none) =
      λ k l h.
      let place : b - 1 - (b - 1 - k) ≡ k = omega arith in
      fails (u.at (b - 1 - k)) k (down.3 (b - 1 - k) (omega (arith, down.1 whole)) ∙ ap Some place) (none keeps (b - 1 - k))
  first_down (Some x) down (i, len, here, first) =
      let value : x ≡ b - 1 - i = item_at (λ v. x ≡ v) (Some x) (b - 1 - i) (ap (option_map (λ y. y)) (sym here) ∙ down.3 i (omega arith)) refl in
      let before = (first keeps).1 in (
        omega (arith, down.0),
        omega (arith, down.0),
        sym (gives x true (first keeps).0),
        λ k l h.
            let place : b - 1 - (b - 1 - k) ≡ k = omega arith in
            fails (u.at (b - 1 - k)) k (down.3 (b - 1 - k) (omega (arith, down.0)) ∙ ap Some place)
            (some_if (λ y. CalledAt g f y false f) (u.at (b - 1 - k)) (before (b - 1 - k) (omega (arith, down.0)))),
      )

-- ---- `(a..=b).find(f)` and `(a..=b).rev().find(f)`

module _ (s : RangeInclusive ℕ) (a b : ℕ) (start : range_inclusive_start s ≡ a) (end : range_inclusive_end s ≡ b) (fresh : range_inclusive_exhausted s ≡ false) where
  counts_up : (u : Run nat_range_inclusive_steps) → u.from ≡ s → ItemsCountUp u a (b + 1)
  counts_up u from =
      let (low, high, el, eh, counts) = inclusive_listed u u.seen in
      let al : low ≡ a = el ∙ ap range_inclusive_start from ∙ start in
      let bh : high ≡ b + 1 = eh ∙ ap (λ r. range_inclusive_end r + 1) from ∙ ap (λ r. r + 1) end in
      subst (λ a. ItemsCountUp u a (b + 1)) al (subst (λ b. ItemsCountUp u low b) bh (counts (ap range_inclusive_exhausted from ∙ fresh)).0)

  counts_down : (u : Run nat_range_inclusive_steps_back) → u.from ≡ s → ItemsCountDown u a (b + 1)
  counts_down u from =
      let (low, high, el, eh, counts) = inclusive_listed_back u u.seen in
      let al : low ≡ a = el ∙ ap range_inclusive_start from ∙ start in
      let bh : high ≡ b + 1 = eh ∙ ap (λ r. range_inclusive_end r + 1) from ∙ ap (λ r. r + 1) end in
      subst (λ a. ItemsCountDown u a (b + 1)) al (subst (λ b. ItemsCountDown u low b) bh (counts (ap range_inclusive_exhausted from ∙ fresh)).0)

  rev_counts_down : {r : Rev (RangeInclusive ℕ)} → RevKeepsRuns nat_range_inclusive_steps_back s r → (u : Run (rev_steps nat_range_inclusive_steps_back)) → u.from ≡ r
      → ItemsCountDown u a (b + 1)
  rev_counts_down kept u from =
      let (q, same_from, ((len, items, at), whole)) = kept u u.seen from in
      let down = counts_down q same_from in (
        omega (arith, down.0),
        (λ w. omega (arith, down.1 (whole ∙ w))),
        (λ k. subst (λ o. IfSome o (λ x. (x + k + 1 ≡ b + 1) × (a ≤ x))) (at k) (down.2 k)),
        λ k l. subst (λ o. option_map (λ y. y) o ≡ Some (b + 1 - 1 - k)) (at k) (down.3 k (omega arith)),
      )

  module _ {F : Type 0} (g : Mut F (Bor ℕ × Unit {0}) Bool) (f : F) (p : ℕ → Bool) (keeps : CallKeepsClosure g f)
      (gives : (x : ℕ) (r : Bool) → CalledAt g f x r f → r ≡ p x) (r : Option ℕ) where
    pub first_from_inclusive : SomeRun nat_range_inclusive_steps s (λ u. MatchOption r (IsTrue u.whole × NoItemPasses u g f) (EndsAtFirstPassing u g f))
        → MatchOption r ((k : ℕ) → a ≤ k → k < b + 1 → p k ≡ false) (λ i. (a ≤ i) × (i < b + 1) × (p i ≡ true) × ((k : ℕ) → a ≤ k → k < i → p k ≡ false))
    first_from_inclusive (u, from, found) = first_up g f p a (b + 1) u keeps gives r (counts_up u from) found

    pub last_from_inclusive : {v : Rev (RangeInclusive ℕ)} → RevKeepsRuns nat_range_inclusive_steps_back s v
        → SomeRun (rev_steps nat_range_inclusive_steps_back) v (λ u. MatchOption r (IsTrue u.whole × NoItemPasses u g f) (EndsAtFirstPassing u g f))
        → MatchOption r ((k : ℕ) → a ≤ k → k < b + 1 → p k ≡ false) (λ i. (a ≤ i) × (i < b + 1) × (p i ≡ true) × ((k : ℕ) → i < k → k < b + 1 → p k ≡ false))
    last_from_inclusive kept (u, from, found) = first_down g f p a (b + 1) u keeps gives r (rev_counts_down kept u from) found
