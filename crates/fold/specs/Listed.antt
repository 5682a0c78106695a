-- The list of a function's values below a bound, and the lists that it gives, joined.
-- Assumes nothing.
use Rattle.std.specs.Prelude.{◌≡◌, length, get_or, take, drop}
use Rattle.std.proofs.Math.Path.{refl, sym, ap, ap₂}
use Rattle.std.proofs.Common.{◌∙◌, subst, le_of_suc-le-suc, eq-or-lt_of_le}
use mathlib.Core.List.{List, [], ◌∷◌, ◌++◌, append-nil, append_assoc}
use Rattle.std.proofs.Math.Logic.{⊎_elim}
use Prim.Native.Nat.{ℕ, zero, suc, ◌+◌, ◌≤◌, ◌<◌}
use Rattle.std.proofs.Math.Numerals.{add-one}
use native.Mathlib.Omega.{arith}
use Rattle.std.proofs.Math.ListN.{length-append}
use Rattle.std.proofs.Math.Seq.{take-append_seam, drop-append_seam}

-- f 0, .., f (n - 1)
unfoldable pub listed : {X : Type 0} → ℕ → (ℕ → X) → List X
listed zero f = []
listed (suc n) f = f 0 ∷ listed n λ i. f (suc i)

module _ {X : Type 0} where
  pub length-listed : (n : ℕ) (f : ℕ → X) → length (listed n f) ≡ n
  unfolding listed
  length-listed zero f = refl
  length-listed (suc n) f = ap suc (length-listed n λ i. f (suc i))

  pub listed_at : (n : ℕ) (f : ℕ → X) (d : X) (i : ℕ) → i < n → get_or (listed n f) i d ≡ f i
  unfolding listed
  listed_at zero f d i h = absurd (omega arith)
  listed_at (suc n) f d zero h = refl
  listed_at (suc n) f d (suc i) h = listed_at n (λ i. f (suc i)) d i (le_of_suc-le-suc h)

  -- a list is that of its elements
  pub listed_all : (l : List X) (d : X) → listed (length l) (λ i. get_or l i d) ≡ l
  unfolding listed
  listed_all [] d = refl
  listed_all (x ∷ l) d = ap (λ (r : List X). x ∷ r) (listed_all l d)

  pub listed_ext : (n : ℕ) (f g : ℕ → X) → ((i : ℕ) → i < n → f i ≡ g i) → listed n f ≡ listed n g
  unfolding listed
  listed_ext zero f g e = refl
  listed_ext (suc n) f g e = ap₂ (λ (x : X) (r : List X). x ∷ r) (e 0 (omega arith)) (listed_ext n (λ i. f (suc i)) (λ i. g (suc i)) (λ i h. e (suc i) (omega arith)))

-- ---- the front of a list of known length, and what is behind it

module _ {X : Type 0} {n : ℕ} (front behind : List X) (long : length front ≡ n) where
  pub take_front : take n (front ++ behind) ≡ front
  take_front = subst (λ k. take k (front ++ behind) ≡ front) long (take-append_seam front behind)

  pub drop_front : drop n (front ++ behind) ≡ behind
  drop_front = subst (λ k. drop k (front ++ behind) ≡ behind) long (drop-append_seam front behind)

-- f 0 ++ .. ++ f (k - 1)
unfoldable pub joined : {X : Type 0} → ℕ → (ℕ → List X) → List X
joined zero f = []
joined (suc k) f = joined k f ++ f k

module _ {X : Type 0} where
  pub joined_none : (f : ℕ → List X) → joined 0 f ≡ []
  unfolding joined
  joined_none f = refl

  pub joined-next : (k : ℕ) (f : ℕ → List X) → joined (k + 1) f ≡ joined k f ++ f k
  unfolding joined
  joined-next k f = rw add-one

  -- from the first index
  pub joined_cons : (k : ℕ) (f : ℕ → List X) → joined (suc k) f ≡ f 0 ++ joined k λ i. f (suc i)
  unfolding joined
  joined_cons zero f = sym (append-nil (f 0))
  joined_cons (suc k) f = ap (λ (l : List X). l ++ f (suc k)) (joined_cons k f) ∙ append_assoc (f 0) (joined k λ i. f (suc i)) (f (suc k))

  pub joined_ext : (k : ℕ) (f g : ℕ → List X) → ((i : ℕ) → i < k → f i ≡ g i) → joined k f ≡ joined k g
  unfolding joined
  joined_ext zero f g e = refl
  joined_ext (suc k) f g e = ap₂ (λ (x y : List X). x ++ y) (joined_ext k f g (λ i h. e i (omega arith))) (e k (omega arith))

  -- the lists below a bound are the front of those below a later one
  pub joined_front : (i k : ℕ) (f : ℕ → List X) → i ≤ k → length (joined i f) ≤ length (joined k f)
  unfolding joined
  joined_front i zero f h = let e : i ≡ 0 = omega arith in rw e (omega arith)
  joined_front i (suc k) f h =
      ⊎_elim (λ (e : i ≡ suc k). rw e (omega arith))
      (λ (l : i < suc k). omega (arith, joined_front i k f (le_of_suc-le-suc l), length-append (joined k f) (f k))) (eq-or-lt_of_le h)
