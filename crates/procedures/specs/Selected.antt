-- The train that `select` names is the argmin of (11): of the waiting trains whose window holds the slot it has the least priority, and of
-- those with the same priority the lowest position (`select_argmin`). Where none may be chosen it is n.
-- Assumes nothing.
use Rattle.std.specs.Prelude.{◌≡◌, refl, Bool, true, false, cond, ◌&&◌, ◌||◌, List, ◌⊎◌, T, leb, ltb}
use Rattle.std.proofs.Common.{sym, subst, ⊎_elim, inr, le_refl, eq-or-lt_of_le, le_of_suc-le-suc, arith, leb→le, ltb→lt, le-leb, ltb-false}
use Rattle.std.proofs.Math.Logic.{inl}
use Prim.Native.Nat.{ℕ, zero, suc, ◌≤◌, ◌<◌}
use Rattle.model.specs.Model.{in_time}
use Rattle.fold.specs.Test.{of_true, of_false, clash, either_of, neither}
use Rattle.procedures.specs.Procedures.{waits, priority, select}

module _ (n revisit split : ℕ) (a : ℕ → ℕ → ℕ) (first last row : List ℕ) (t : ℕ) where
  -- a train that waits and whose window holds the slot
  abbrev pub may_be_chosen : ℕ → Bool
  may_be_chosen i = waits row i && in_time first last i t

  abbrev key : ℕ → ℕ
  key = priority n revisit split a row t

  -- of the trains below k
  pub record Argmin (k i : ℕ) : Type 0 where
    pub below : i < k
    pub may : T (may_be_chosen i)
    pub least : (j : ℕ) → j < k → T (may_be_chosen j) → key i ≤ key j
    pub lowest : (j : ℕ) → j < i → T (may_be_chosen j) → key i < key j

  abbrev pub None : ℕ → Type 0
  None k = (j : ℕ) → j < k → T (may_be_chosen j) → ⊥

  -- nothing or the best of them is chosen
  abbrev Among : ℕ → ℕ → Type 0
  Among k i = ((i ≡ n) × None k) ⊎ Argmin k i

  -- one train more, where it may not be chosen, and where it may
  module _ (k : ℕ) where
    pass : (T (may_be_chosen k) → ⊥) → (i : ℕ) → Among k i → Among (suc k) i
    pass barred i (inl (e, none)) = inl (e, λ j h q. ⊎_elim (λ (s : j ≡ k). barred (subst (λ x. T (may_be_chosen x)) s q)) (λ l. none j l q) (eq-or-lt_of_le (le_of_suc-le-suc h)))
    pass barred i (inr m) = inr record {
      below = omega (arith, m.below);
      may = m.may;
      least = λ j h q. ⊎_elim (λ (s : j ≡ k). absurd (barred (subst (λ x. T (may_be_chosen x)) s q))) (λ l. m.least j l q) (eq-or-lt_of_le (le_of_suc-le-suc h));
      lowest = m.lowest;
    }

    -- nothing was chosen before, or something dearer
    take : T (may_be_chosen k) → ((j : ℕ) → j < k → T (may_be_chosen j) → key k < key j) → Argmin (suc k) k
    take may before = record {
      below = le_refl (suc k);
      may = may;
      least = λ j h q. ⊎_elim (λ (s : j ≡ k). subst (λ x. key k ≤ key x) (sym s) (le_refl (key k))) (λ l. omega (arith, before j l q)) (eq-or-lt_of_le (le_of_suc-le-suc h));
      lowest = before;
    }

    keep : (i : ℕ) → Argmin k i → key i ≤ key k → Argmin (suc k) i
    keep i m h = record {
      below = omega (arith, m.below);
      may = m.may;
      least = λ j l q. ⊎_elim (λ (s : j ≡ k). subst (λ x. key i ≤ key x) (sym s) h) (λ b. m.least j b q) (eq-or-lt_of_le (le_of_suc-le-suc l));
      lowest = m.lowest;
    }

    next : (i : ℕ) → k ≤ n → Among k i → Among (suc k) (cond (may_be_chosen k && (leb n i || ltb (key k) (key i))) k i)
    next i h m = go (may_be_chosen k) refl (leb n i || ltb (key k) (key i)) refl m
      where
        go : (b : Bool) → may_be_chosen k ≡ b → (c : Bool) → (leb n i || ltb (key k) (key i)) ≡ c → Among k i → Among (suc k) (cond (b && c) k i)
        go false e c f m = pass (of_false e) i m
        go true e true f (inl (none, nothing)) = inr (take (of_true e) (λ j l q. absurd (nothing j l q)))
        go true e true f (inr m) =
            let cheaper : key k < key i = ⊎_elim (λ none. absurd (omega (arith, leb→le n i none, m.below))) (λ less. ltb→lt (key k) (key i) less) (either_of (leb n i) (ltb (key k) (key i)) (of_true f)) in
            inr (take (of_true e) (λ j l q. omega (arith, m.least j l q)))
        go true e false f (inl (none, nothing)) = absurd (clash (le-leb n i (omega arith)) (neither (leb n i) (ltb (key k) (key i)) f).0)
        go true e false f (inr m) = inr (keep i m (ltb-false (key k) (key i) (neither (leb n i) (ltb (key k) (key i)) f).1))

  among : (k : ℕ) → k ≤ n → Among k (select n revisit split a first last row t k)
  unfolding select
  among zero h = inl (refl, λ j l q. omega arith)
  among (suc k) h = next k (select n revisit split a first last row t k) (omega arith) (among k (omega arith))

  pub select_argmin : ((select n revisit split a first last row t n ≡ n) × None n) ⊎ Argmin n (select n revisit split a first last row t n)
  select_argmin = among n (le_refl n)
