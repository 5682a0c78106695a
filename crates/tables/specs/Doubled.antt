-- A table that grows by as many words as it has: behind its first `size` words stand words that a relation allows, one for each of them in
-- the same order. Of any type of words.
-- Assumes nothing.
use Rattle.std.specs.Prelude.{◌≡◌, List, ◌⊎◌, ◌≢◌, ℕ, ◌+◌, ◌-◌, ◌^◌, ◌≤◌, ◌<◌, length, get_or, set, drop}
use Rattle.std.proofs.Common.{sym, ap, ◌∙◌, subst, subst₂, inl, inr, add-one, pow-suc, arith, length-set, drop-set-lt, get_or-set_same, get_or-set_other}
use Rattle.std.proofs.lemmas.List.{get_or_default}
use Rattle.fold.specs.Counting.{same_or, le_or_lt}
use Rattle.optimum.specs.Workspace.{at, Kept}
use Rattle.optimum.proofs.Workspace.{kept_then}
use Rattle.tables.specs.Filled.{Filled, kept_more}

-- of the words that are added the first `count` stand there
pub record Doubled {A : Type 0} (R : A → A → Type 0) (size count : ℕ) (a₀ a : List A) : Type 0 where
  pub long : length a ≡ length a₀
  pub rest : drop (size + size) a ≡ drop (size + size) a₀
  pub old : (x : ℕ) (d : A) → x < size → get_or a x d ≡ get_or a₀ x d
  pub new : (y : ℕ) (d : A) → y < count → R (get_or a₀ y d) (get_or a (size + y) d)

-- twice the sets of k trains
pub two_sets : (k : ℕ) → 2 ^ k + 2 ^ k ≡ 2 ^ (k + 1)
two_sets k = omega (arith, pow-suc 2 k, ap (λ x. 2 ^ x) (add-one k))

-- the loop that adds them: the word y is added for the word x
pub doubled_next : {A : Type 0} {R : A → A → Type 0} {size count : ℕ} {a₀ a : List A} (x y : A) → Doubled R size count a₀ a → count < size
    → size + size ≤ length a → x ≡ get_or a count x → R x y → Doubled R size (count + 1) a₀ (set a (size + count) y)
doubled_next {A} {R} {size} {count} {a₀} {a} x y h l room e r =
    record {
      long = length-set a (size + count) y ∙ h.long;
      rest = drop-set-lt (size + size) a (size + count) y (omega arith) ∙ h.rest;
      old = λ i d m. get_or-set_other a (size + count) i y d (λ q. omega arith) ∙ h.old i d m;
      new = λ i d m. is i d m (same_or i count);
    }
  where
    is : (i : ℕ) (d : A) → i < count + 1 → (i ≡ count) ⊎ (i ≢ count) → R (get_or a₀ i d) (get_or (set a (size + count) y) (size + i) d)
    is i d m (inl z) =
        subst (λ k. R (get_or a₀ k d) (get_or (set a (size + count) y) (size + k) d)) (sym z)
        (subst₂ R (e ∙ get_or_default a count x d (omega arith) ∙ h.old count d l) (sym (get_or-set_same a (size + count) y d (omega arith))) r)
    is i d m (inr z) = subst (λ v. R (get_or a₀ i d) v) (sym (get_or-set_other a (size + count) (size + i) y d (λ q. z (omega arith)))) (h.new i d (omega arith))

-- a table of numbers that is filled for the sets of k trains, and the function's values for the same sets with one train more
pub train-added : {f : ℕ → ℕ} {R : ℕ → ℕ → Type 0} {size : ℕ} {a₀ a b : List ℕ} (k : ℕ) → Filled f (2 ^ k) a₀ a → size ≡ 2 ^ k → Doubled R size size a b
    → ((m v : ℕ) → m < 2 ^ k → R (f m) v → v ≡ f (2 ^ k + m)) → Filled f (2 ^ (k + 1)) a₀ b
train-added {f} {R} {size} {a₀} {a} {b} k h e d s =
    let twice : size + size ≡ 2 ^ (k + 1) = omega (arith, two_sets k) in
    record {
      kept = kept_then (kept_more (2 ^ (k + 1)) h.kept (omega arith)) (subst (λ n. Kept n a b) twice (record { long = d.long; rest = d.rest }));
      all = λ x l. is x (omega arith) (le_or_lt size x);
    }
  where
    is : (x : ℕ) → x < size + size → (size ≤ x) ⊎ (x < size) → at b x ≡ f x
    is x l (inl q) =
        let m : ℕ = x - size in
        let here : size + m ≡ x = omega arith in
        let low : m < 2 ^ k = omega arith in
        subst (λ (z : ℕ). at b z ≡ f x) here (s m (at b (size + m)) low (subst (λ v. R v (at b (size + m))) (h.all m low) (d.new m 0 (omega arith))) ∙ ap f (omega arith))
    is x l (inr q) = d.old x 0 q ∙ h.all x (omega arith)
