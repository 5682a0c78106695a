-- The first word in which two plans differ decides, where it is among those that are compared; so does the last one that may be.
-- Assumes nothing.
use Rattle.std.specs.Prelude.{◌≡◌, ◌≢◌, refl, Bool, true, false, ◌&&◌, ℕ, suc, ◌≤◌, ◌<◌, ltb, eqb}
use Rattle.std.proofs.Common.{sym, ap, ◌∙◌, subst, ⊎_elim, eq-or-lt_of_le, arith, le-ltb, ltb-true, ltb-false}
use borrow.Author.Tests.{eqb-true, eqb-false}
use Rattle.model.specs.Model.{lower}
use Rattle.beam.proofs.Words.{differ_at, differ_nowhere}

never : (b : Bool) → (b && false) ≡ false
never true = refl
never false = refl

-- the words before c, of the k that are compared, are equal
module _ (k c : ℕ) (f g : ℕ → ℕ) (same : (u : ℕ) → u < c → u < k → f u ≡ g u) where
  pub decided_at : f c ≢ g c → lower k f g ≡ (ltb c k && ltb (f c) (g c))
  decided_at differ = go (ltb c k) refl
    where
      go : (b : Bool) → ltb c k ≡ b → lower k f g ≡ (b && ltb (f c) (g c))
      go true e = let inside : c < k = ltb-true c k e in differ_at k c f g inside (λ u h. same u h (omega (arith, h, inside))) differ
      go false e = differ_nowhere k f g (λ u h. same u (omega (arith, ltb-false c k e, h)) h)

  pub last_decides : k ≤ suc c → lower k f g ≡ (ltb c k && ltb (f c) (g c))
  last_decides most = go (eqb (f c) (g c)) refl
    where
      go : (b : Bool) → eqb (f c) (g c) ≡ b → lower k f g ≡ (ltb c k && ltb (f c) (g c))
      go true e =
          let equal : f c ≡ g c = eqb-true (f c) (g c) e in
          let here : (u : ℕ) → u < k → f u ≡ g u =
          λ u h. ⊎_elim (λ (i : u ≡ c). subst (λ v. f v ≡ g v) (sym i) equal) (λ (l : u < c). same u l h) (eq-or-lt_of_le (omega (arith, most, h))) in
          let level : ltb (f c) (g c) ≡ false = le-ltb (f c) (g c) (omega (arith, equal)) in
          differ_nowhere k f g here ∙ sym (never (ltb c k)) ∙ ap (λ b. ltb c k && b) (sym level)
      go false e = decided_at (eqb-false (f c) (g c) e)
