-- Laws of Merging.antt of specs/.
-- Values merged and put in order, for any key and any order: of those with the same key the first by the order stays, and those that stay
-- stand in order. `Merged` says so of a list; each value joins it by `add`. Nothing here knows of trains.
-- Assumes nothing.
use Rattle.std.specs.Prelude.{◌≡◌, Bool, cond, ◌&&◌, ◌||◌, ◌⊎◌, ◌≢◌, ℕ}
use Rattle.std.proofs.Math.Path.{refl, subst}
use Rattle.std.proofs.Common.{sym, ◌∙◌}
use Rattle.std.proofs.Math.Bool.{true, false, not}
use Rattle.std.proofs.Math.Logic.{inl, inr, ⊎_elim}
use mathlib.Core.List.Memᴰ
use mathlib.Core.List.{List, [], ◌∷◌, Memᴰ}
use Rattle.std.proofs.Math.Dec.{T, eqb, eqb→eq}
use borrow.Author.Tests.{eq-eqb, eqb-true, eqb-false}
use Rattle.fold.specs.Test.{of_true, of_false, both, both_of, left, right, either_of, not_of, not_not}
use Rattle.model.specs.Order.{Order}
use Rattle.model.proofs.Order.{irrefl}
use Rattle.merging.specs.Merging.{matched, without, insert, add, merged, StandsFor, Covers, InOrder, Merged}

module _ {X : Type 0} (key : X → ℕ) (before : X → X → Bool) (o : Order before) where
  -- ---- the parts of `add`

  -- a list that has a value with x's key that x does not come before
  pub matched_by : (x : X) (l : List X) → T (matched key before x l) → (m : X) × Memᴰ m l × StandsFor key before x m
  unfolding matched
  matched_by x [] t = absurd t
  matched_by x (z ∷ l) t =
      ⊎_elim
      (λ here.
      let (e, n) = both_of (eqb (key z) (key x)) (not (before x z)) here in
      (z, Memᴰ.head refl, record { same = eqb→eq (key z) (key x) e; first = not_of (before x z) n }))
      (λ later. let (m, at, s) = matched_by x l later in (m, Memᴰ.tail at, s))
      (either_of (eqb (key z) (key x) && not (before x z)) (matched key before x l) t)

  -- x comes before all values that have its key
  pub not_matched : (x : X) (l : List X) → (T (matched key before x l) → ⊥) → (z : X) → Memᴰ z l → key z ≡ key x → T (before x z)
  unfolding matched
  not_matched x [] f z at e = absurd (Memᴰ.not-nil at)
  not_matched x (w ∷ l) f z at e =
      ⊎_elim
      (λ (q : z ≡ w).
      subst (λ u. T (before x u)) (sym q)
      (not_not (before x w)
      (λ n. f (left (eqb (key w) (key x) && not (before x w)) (matched key before x l)
      (both (eqb (key w) (key x)) (not (before x w)) (of_true (eq-eqb (key w) (key x) (subst (λ u. key u ≡ key x) q e))) n)))))
      (λ later. not_matched x l (λ t. f (right (eqb (key w) (key x) && not (before x w)) (matched key before x l) t)) z later e)
      (Memᴰ.cases_cons at)

  pub without_of : (k : ℕ) (l : List X) (z : X) → Memᴰ z (without key k l) → Memᴰ z l × (key z ≢ k)
  unfolding without
  without_of k [] z at = absurd (Memᴰ.not-nil at)
  without_of k (w ∷ l) z at = go (eqb (key w) k) refl (without_of k l z) at
    where
      go : (b : Bool) → eqb (key w) k ≡ b → (Memᴰ z (without key k l) → Memᴰ z l × (key z ≢ k))
          → Memᴰ z (cond b (without key k l) (w ∷ without key k l)) → Memᴰ z (w ∷ l) × (key z ≢ k)
      go true e later at = let (a, d) = later at in (Memᴰ.tail a, d)
      go false e later at =
          ⊎_elim (λ (q : z ≡ w). (Memᴰ.head q, λ s. eqb-false (key w) k e (subst (λ u. key u ≡ k) q s)))
          (λ at. let (a, d) = later at in (Memᴰ.tail a, d)) (Memᴰ.cases_cons at)

  without_at : (k : ℕ) (l : List X) (z : X) → Memᴰ z l → key z ≢ k → Memᴰ z (without key k l)
  unfolding without
  without_at k [] z at d = absurd (Memᴰ.not-nil at)
  without_at k (w ∷ l) z at d = go (eqb (key w) k) refl (λ at. without_at k l z at d) (Memᴰ.cases_cons at)
    where
      go : (b : Bool) → eqb (key w) k ≡ b → (Memᴰ z l → Memᴰ z (without key k l))
          → (z ≡ w) ⊎ Memᴰ z l → Memᴰ z (cond b (without key k l) (w ∷ without key k l))
      go true e later (inl q) = absurd (d (subst (λ u. key u ≡ k) (sym q) (eqb-true (key w) k e)))
      go true e later (inr at) = later at
      go false e later (inl q) = Memᴰ.head q
      go false e later (inr at) = Memᴰ.tail (later at)

  without_ordered : (k : ℕ) (l : List X) → InOrder key before l → InOrder key before (without key k l)
  unfolding without
  without_ordered k [] h = tt
  without_ordered k (w ∷ l) h = go (eqb (key w) k) (without_ordered k l h.1)
    where
      go : (b : Bool) → InOrder key before (without key k l) → InOrder key before (cond b (without key k l) (w ∷ without key k l))
      go true later = later
      go false later = (λ z at. h.0 z (without_of k l z at).0, later)

  insert_of : (x : X) (l : List X) (z : X) → Memᴰ z (insert before x l) → (z ≡ x) ⊎ Memᴰ z l
  unfolding insert
  insert_of x [] z at = Memᴰ.cases_cons at
  insert_of x (w ∷ l) z at = go (before x w) (insert_of x l z) at
    where
      go : (b : Bool) → (Memᴰ z (insert before x l) → (z ≡ x) ⊎ Memᴰ z l)
          → Memᴰ z (cond b (x ∷ w ∷ l) (w ∷ insert before x l)) → (z ≡ x) ⊎ Memᴰ z (w ∷ l)
      go true later at = Memᴰ.cases_cons at
      go false later at =
          ⊎_elim (λ q. inr (Memᴰ.head q)) (λ m. ⊎_elim (λ q. inl q) (λ a. inr (Memᴰ.tail a)) (later m)) (Memᴰ.cases_cons at)

  insert_at : (x : X) (l : List X) (z : X) → (z ≡ x) ⊎ Memᴰ z l → Memᴰ z (insert before x l)
  unfolding insert
  insert_at x [] z (inl q) = Memᴰ.head q
  insert_at x [] z (inr at) = absurd (Memᴰ.not-nil at)
  insert_at x (w ∷ l) z which = go (before x w) (insert_at x l z) which
    where
      go : (b : Bool) → ((z ≡ x) ⊎ Memᴰ z l → Memᴰ z (insert before x l))
          → (z ≡ x) ⊎ Memᴰ z (w ∷ l) → Memᴰ z (cond b (x ∷ w ∷ l) (w ∷ insert before x l))
      go true later (inl q) = Memᴰ.head q
      go true later (inr at) = Memᴰ.tail at
      go false later (inl q) = Memᴰ.tail (later (inl q))
      go false later (inr at) = ⊎_elim (λ q. Memᴰ.head q) (λ a. Memᴰ.tail (later (inr a))) (Memᴰ.cases_cons at)

  -- x has a key of its own
  insert_ordered : (x : X) (l : List X) → ((z : X) → Memᴰ z l → key z ≢ key x) → InOrder key before l → InOrder key before (insert before x l)
  unfolding insert
  insert_ordered x [] own h = (λ z at. absurd (Memᴰ.not-nil at), tt)
  insert_ordered x (w ∷ l) own h = go (before x w) refl (insert_ordered x l (λ z at. own z (Memᴰ.tail at)) h.1)
    where
      -- what does not come before w does not come before x
      later_than : T (before x w) → (z : X) → Memᴰ z (w ∷ l) → T (before z x) → ⊥
      later_than t z at s =
          ⊎_elim (λ (q : z ≡ w). o.asym x w t (subst (λ u. T (before u x)) q s))
          (λ a. o.through z w x (h.0 z a).1 (λ u. o.asym x w t u) s) (Memᴰ.cases_cons at)

      go : (b : Bool) → before x w ≡ b → InOrder key before (insert before x l) → InOrder key before (cond b (x ∷ w ∷ l) (w ∷ insert before x l))
      go true e later = (λ z at. (own z at, later_than (of_true e) z at), h)
      go false e later = (
        λ z at.
            ⊎_elim
            (λ (q : z ≡ x).
            (λ s. own w (Memᴰ.head refl) (sym s ∙ subst (λ u. key z ≡ key u) q refl), λ t. of_false e (subst (λ u. T (before u w)) q t)))
            (λ a. h.0 z a)
            (insert_of x l z at),
        later,
      )

  -- ---- a value joins a merged list

  add_merged : (x : X) (xs l : List X) → Merged key before xs l → Merged key before (x ∷ xs) (add key before x l)
  unfolding add
  add_merged x xs l h = go (matched key before x l) refl
    where
      rest : List X
      rest = without key (key x) l

      -- x stands for what a value stood for that it comes before
      taken : (z m : X) → StandsFor key before z m → key m ≡ key x → T (before x m) → StandsFor key before z x
      taken z m s e t = record {
        same = sym e ∙ s.same;
        first = λ u. o.through z m x s.first (λ v. o.asym x m t v) u;
      }

      go : (b : Bool) → matched key before x l ≡ b → Merged key before (x ∷ xs) (cond b l (insert before x rest))
      go true e = record {
        only = λ m at. Memᴰ.tail (h.only m at);
        all = λ z at.
            ⊎_elim
            (λ (q : z ≡ x). let (m, in-l, s) = matched_by x l (of_true e) in (m, in-l, subst (λ u. StandsFor key before u m) (sym q) s))
            (λ a. h.all z a) (Memᴰ.cases_cons at);
        ordered = h.ordered;
      }
      go false e = record {
        only = λ m at. ⊎_elim (λ q. Memᴰ.head q) (λ a. Memᴰ.tail (h.only m (without_of (key x) l m a).0)) (insert_of x rest m at);
        all = λ z at.
            ⊎_elim
            (λ (q : z ≡ x). (x, insert_at x rest x (inl refl), record { same = subst (λ u. key x ≡ key u) (sym q) refl; first = subst (λ u. T (before u x) → ⊥) (sym q) (irrefl before o x) }))
            (λ a. let (m, in-l, s) = h.all z a in stays z m in-l s (eqb (key m) (key x)) refl)
            (Memᴰ.cases_cons at);
        ordered = insert_ordered x rest (λ z at. (without_of (key x) l z at).1) (without_ordered (key x) l h.ordered);
      }
        where
          stays : (z m : X) → Memᴰ m l → StandsFor key before z m → (b : Bool) → eqb (key m) (key x) ≡ b
              → (u : X) × Memᴰ u (insert before x rest) × StandsFor key before z u
          stays z m at s true q =
              let k = eqb-true (key m) (key x) q in
              (x, insert_at x rest x (inl refl), taken z m s k (not_matched x l (of_false e) m at k))
          stays z m at s false q = (m, insert_at x rest m (inr (without_at (key x) l m at (eqb-false (key m) (key x) q))), s)

  pub is_merged : (xs : List X) → Merged key before xs (merged key before xs)
  unfolding merged
  is_merged [] = record { only = λ m at. at; all = λ x at. absurd (Memᴰ.not-nil at); ordered = tt }
  is_merged (x ∷ xs) = add_merged x xs (merged key before xs) (is_merged xs)
