-- Laws of Order.antt of specs/.
-- Orders given by a test, "the first comes before the second": what makes one, how a key goes before an order, and the best of a list.
-- Nothing here knows of trains or rows.
-- Assumes nothing.
use Rattle.std.specs.Prelude.{◌≡◌, Bool, ◌&&◌, ◌||◌, ◌⊎◌, ℕ, zero, suc, ◌≤◌, ◌<◌, ltb, eqb}
use Rattle.std.proofs.Math.Path.{refl}
use Rattle.std.proofs.Common.{sym, subst, le_antisymm, le_of_suc-le-suc, not-suc-le-zero, arith, ltb→lt, lt→ltb, eqb→eq, eq-eqb}
use Rattle.std.proofs.Math.Bool.{true, false, cond}
use Rattle.std.proofs.Math.Logic.{inl, inr, ⊎_elim}
use Rattle.std.proofs.Math.Option.{Option, none, some}
use mathlib.Core.List.Memᴰ
use mathlib.Core.List.{List, [], ◌∷◌}
use Rattle.std.proofs.Math.Dec.{T}
use Rattle.fold.specs.Test.{of_true, of_false, same_test_lem, both, both_of, left, right, either_of}
use Rattle.fold.specs.Counting.{le_or_lt}
use Rattle.fold.specs.Fold
use Rattle.fold.specs.Fold.{each, each_at, each_i, some_at, some_of}
use Rattle.model.specs.Model.{lower, by_key}
use Rattle.model.specs.Order.{Order, choose, pick, Picked}

module _ {X : Type 0} (before : X → X → Bool) (o : Order before) where
  pub irrefl : (r : X) → T (before r r) → ⊥
  irrefl r t = o.asym r r t t

  -- the order the other way round, and of values that another kind of value gives
  pub converse : Order (λ r s. before s r)
  converse = record { asym = λ r s a b. o.asym s r a b; through = λ r s u a b. o.through u s r b a }

  pub along : {Y : Type 0} (f : Y → X) → Order (λ r s. before (f r) (f s))
  along f = record { asym = λ r s. o.asym (f r) (f s); through = λ r s u. o.through (f r) (f s) (f u) }

-- ---- a key before an order: the smaller key, or equal keys and before in the order

module _ {X : Type 0} (key : X → ℕ) (before : X → X → Bool) where
  pub key_cases : (r s : X) → T (by_key key before r s) → (key r < key s) ⊎ ((key r ≡ key s) × T (before r s))
  unfolding by_key
  key_cases r s t =
      ⊎_elim (λ l. inl (ltb→lt (key r) (key s) l))
      (λ b. let p = both_of (eqb (key r) (key s)) (before r s) b in inr (eqb→eq (key r) (key s) p.0, p.1))
      (either_of (ltb (key r) (key s)) (eqb (key r) (key s) && before r s) t)

  pub key_less : (r s : X) → key r < key s → T (by_key key before r s)
  unfolding by_key
  key_less r s l = left (ltb (key r) (key s)) (eqb (key r) (key s) && before r s) (lt→ltb (key r) (key s) l)

  pub key_same : (r s : X) → key r ≡ key s → T (before r s) → T (by_key key before r s)
  unfolding by_key
  key_same r s e t =
      right (ltb (key r) (key s)) (eqb (key r) (key s) && before r s) (both (eqb (key r) (key s)) (before r s) (of_true (eq-eqb (key r) (key s) e)) t)

  -- not before: the key is not smaller, and where the keys are equal, not before in the order
  pub key_not : (r s : X) → (T (by_key key before r s) → ⊥) → (key s ≤ key r) × (key r ≡ key s → T (before r s) → ⊥)
  key_not r s f = (
    ⊎_elim (λ (l : key s ≤ key r). l) (λ (l : key r < key s). absurd (f (key_less r s l))) (le_or_lt (key s) (key r)),
    λ e t. f (key_same r s e t),
  )

  pub key_order : Order before → Order (by_key key before)
  key_order o = record {
    asym = λ r s a b.
        ⊎_elim (λ l. ⊎_elim (λ m. omega arith) (λ m. omega arith) (key_cases s r b))
        (λ l. ⊎_elim (λ m. omega arith) (λ m. o.asym r s l.1 m.1) (key_cases s r b)) (key_cases r s a);
    through = λ r s u a b t.
        let p = key_not r s a in
        let q = key_not s u b in
        let l = p.0 in
        let m = q.0 in
        ⊎_elim (λ k. omega arith) (λ k. o.through r s u (p.1 (omega arith)) (q.1 (omega arith)) k.1) (key_cases r u t);
  }

  -- where the order leaves no two values of equal key apart, nor does the key before it
  pub key_total : (r s : X) → ((T (before r s) → ⊥) → (T (before s r) → ⊥) → r ≡ s) → (T (by_key key before r s) → ⊥) → (T (by_key key before s r) → ⊥) → r ≡ s
  key_total r s total f g =
      let (a, p) = key_not r s f in
      let (b, q) = key_not s r g in
      let e : key r ≡ key s = le_antisymm b a in
      total (p e) (q (sym e))

-- ---- the lowest place where two sequences differ

-- from the first place: a key before the order of the rest
pub lower_cons : (k : ℕ) (f g : ℕ → ℕ)
    → lower (suc k) f g ≡ by_key (λ (h : ℕ → ℕ). h 0) (λ h h'. lower k (λ t. h (suc t)) (λ t. h' (suc t))) f g
unfolding lower by_key each
lower_cons k f g =
    same_test_lem (Fold.some (suc k) at) (ltb (f 0) (g 0) || (eqb (f 0) (g 0) && Fold.some k later))
    (λ t. let w = some_of (suc k) at t in there w.0 w.1 w.2)
    (λ t. ⊎_elim (λ l. some_at (suc k) at 0 (omega arith) (both (ltb (f 0) (g 0)) true l tt)) back (either_of (ltb (f 0) (g 0)) (eqb (f 0) (g 0) && Fold.some k later) t))
  where
    at : ℕ → Bool
    at t = ltb (f t) (g t) && each t λ u. eqb (f u) (g u)

    later : ℕ → Bool
    later t = ltb (f (suc t)) (g (suc t)) && each t λ u. eqb (f (suc u)) (g (suc u))

    there : (t : ℕ) → t < suc k → T (at t) → T (ltb (f 0) (g 0) || (eqb (f 0) (g 0) && Fold.some k later))
    there zero h w = left (ltb (f 0) (g 0)) (eqb (f 0) (g 0) && Fold.some k later) (both_of (ltb (f 0) (g 0)) true w).0
    there (suc t) h w =
        let p = both_of (ltb (f (suc t)) (g (suc t))) (each (suc t) λ u. eqb (f u) (g u)) w in
        let e : (u : ℕ) → u < suc t → T (eqb (f u) (g u)) = each_at (suc t) (λ u. eqb (f u) (g u)) p.1 in
        right (ltb (f 0) (g 0)) (eqb (f 0) (g 0) && Fold.some k later)
        (both (eqb (f 0) (g 0)) (Fold.some k later) (e 0 (omega arith))
        (some_at k later t (le_of_suc-le-suc h)
        (both (ltb (f (suc t)) (g (suc t))) (each t λ u. eqb (f (suc u)) (g (suc u))) p.0 (each_i t (λ u. eqb (f (suc u)) (g (suc u))) (λ u l. e (suc u) (omega arith))))))

    back : T (eqb (f 0) (g 0) && Fold.some k later) → T (Fold.some (suc k) at)
    back b =
        let p = both_of (eqb (f 0) (g 0)) (Fold.some k later) b in
        let w = some_of k later p.1 in
        let t = w.0 in
        let q = both_of (ltb (f (suc t)) (g (suc t))) (each t λ u. eqb (f (suc u)) (g (suc u))) w.2 in
        some_at (suc k) at (suc t) (omega (arith, w.1))
        (both (ltb (f (suc t)) (g (suc t))) (each (suc t) λ u. eqb (f u) (g u)) q.0
        (each_i (suc t) (λ u. eqb (f u) (g u)) (same p.0 (each_at t (λ u. eqb (f (suc u)) (g (suc u))) q.1))))
      where
        same : {t : ℕ} → T (eqb (f 0) (g 0)) → ((u : ℕ) → u < t → T (eqb (f (suc u)) (g (suc u)))) → (u : ℕ) → u < suc t → T (eqb (f u) (g u))
        same a b zero h = a
        same a b (suc u) h = b u (le_of_suc-le-suc h)

pub lower_order : (k : ℕ) → Order (lower k)
unfolding lower Fold.some
lower_order zero = record { asym = λ r s a b. a; through = λ r s u a b t. t }
lower_order (suc k) =
    subst (λ (before : (ℕ → ℕ) → (ℕ → ℕ) → Bool). Order before) (λ i f g. sym (lower_cons k f g) i)
    (key_order (λ h. h 0) (λ h h'. lower k (λ t. h (suc t)) (λ t. h' (suc t))) (along (lower k) (lower_order k) (λ h t. h (suc t))))

-- neither is lower: the two agree
pub lower_same : (k : ℕ) (f g : ℕ → ℕ) → (T (lower k f g) → ⊥) → (T (lower k g f) → ⊥) → (t : ℕ) → t < k → f t ≡ g t
lower_same zero f g a b t h = absurd (not-suc-le-zero h)
lower_same (suc k) f g a b t h =
    let key : (ℕ → ℕ) → ℕ = λ h. h 0 in
    let rest : (ℕ → ℕ) → (ℕ → ℕ) → Bool = λ h h'. lower k (λ t. h (suc t)) (λ t. h' (suc t)) in
    let p = key_not key rest f g (λ w. a (subst T (sym (lower_cons k f g)) w)) in
    let q = key_not key rest g f (λ w. b (subst T (sym (lower_cons k g f)) w)) in
    let e : f 0 ≡ g 0 = le_antisymm q.0 p.0 in
    at e (lower_same k (λ t. f (suc t)) (λ t. g (suc t)) (p.1 e) (q.1 (sym e))) t h
  where
    at : f 0 ≡ g 0 → ((t : ℕ) → t < k → f (suc t) ≡ g (suc t)) → (t : ℕ) → t < suc k → f t ≡ g t
    at e later zero h = e
    at e later (suc t) h = later t (le_of_suc-le-suc h)

-- f is not lower: at the lowest place where the two differ it is the larger
pub lower_not : (k : ℕ) (f g : ℕ → ℕ) → (T (lower k f g) → ⊥) → (t : ℕ) → t < k → ((u : ℕ) → u < t → f u ≡ g u) → g t ≤ f t
unfolding lower
lower_not k f g a t h same =
    ⊎_elim (λ (l : g t ≤ f t). l)
    (λ (l : f t < g t).
    absurd
    (a
    (some_at k (λ t. ltb (f t) (g t) && each t λ u. eqb (f u) (g u)) t h
    (both (ltb (f t) (g t)) (each t λ u. eqb (f u) (g u)) (lt→ltb (f t) (g t) l) (each_i t (λ u. eqb (f u) (g u)) (λ u m. of_true (eq-eqb (f u) (g u) (same u m))))))))
    (le_or_lt (g t) (f t))

pub not_lower : (k : ℕ) (f g : ℕ → ℕ) → ((t : ℕ) → t < k → ((u : ℕ) → u < t → f u ≡ g u) → g t ≤ f t) → T (lower k f g) → ⊥
unfolding lower
not_lower k f g a w =
    let (t, l, p) = some_of k (λ t. ltb (f t) (g t) && each t λ u. eqb (f u) (g u)) w in
    let (less, same) = both_of (ltb (f t) (g t)) (each t λ u. eqb (f u) (g u)) p in
    omega (arith, ltb→lt (f t) (g t) less, a t l (λ u m. eqb→eq (f u) (g u) (each_at t (λ u. eqb (f u) (g u)) same u m)))

module _ {X : Type 0} where
  module _ (ok : X → Bool) (before : X → X → Bool) (o : Order before) where
    skipped : (x : X) (xs : List X) (p : Option X) → (T (ok x) → ⊥) → Picked ok before xs p → Picked ok before (x ∷ xs) p
    skipped x xs none n p = λ s m a. ⊎_elim (λ e. n (subst (λ z. T (ok z)) e a)) (λ k. p s k a) (Memᴰ.cases_cons m)
    skipped x xs (some r) n p = (p.0, λ s m a. ⊎_elim (λ e. absurd (n (subst (λ z. T (ok z)) e a))) (λ k. p.1 s k a) (Memᴰ.cases_cons m))

    chosen : (x : X) (xs : List X) (p : Option X) → T (ok x) → Picked ok before xs p → Picked ok before (x ∷ xs) (choose before x p)
    unfolding choose
    chosen x xs none a p =
        (a, λ s m h. ⊎_elim (λ e t. irrefl before o x (subst (λ z. T (before z x)) e t)) (λ k. absurd (p s k h)) (Memᴰ.cases_cons m))
    chosen x xs (some y) a p = go (before y x) refl
      where
        go : (b : Bool) → before y x ≡ b → Picked ok before (x ∷ xs) (cond b (some y) (some x))
        go true e = (p.0, λ s m h. ⊎_elim (λ q t. o.asym y x (of_true e) (subst (λ z. T (before z y)) q t)) (λ k. p.1 s k h) (Memᴰ.cases_cons m))
        go false e = (a, λ s m h. ⊎_elim (λ q t. irrefl before o x (subst (λ z. T (before z x)) q t)) (λ k. o.through s y x (p.1 s k h) (of_false e)) (Memᴰ.cases_cons m))

    pub picked : (xs : List X) → Picked ok before xs (pick ok before xs)
    unfolding pick
    picked [] = λ s m. absurd (Memᴰ.not-nil m)
    picked (x ∷ xs) = step (picked xs) (ok x) refl
      where
        step : Picked ok before xs (pick ok before xs) → (b : Bool) → ok x ≡ b
            → Picked ok before (x ∷ xs) (cond b (choose before x (pick ok before xs)) (pick ok before xs))
        step p true e = chosen x xs (pick ok before xs) (of_true e) p
        step p false e = skipped x xs (pick ok before xs) (of_false e) p
