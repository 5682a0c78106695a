-- A call's checks taken together: where all hold the answer is given, and where something is given all hold; a check that fails gives
-- the same refusal whatever would be answered. What follows from an answer is given only where that one is. Which refusals an answer can
-- be follows from its checks.
-- Assumes nothing.
use Rattle.std.specs.Prelude.{◌≡◌, refl, Bool, true, false, cond, List, [], ◌∷◌, ℕ, T}
use Rattle.std.proofs.Common.{ap, ◌∙◌, arith}
use Rattle.fold.specs.Test.{is_true, both, both_of}
use Rattle.day.specs.Answer.{Answer, gives, refuses, on_given, Check, must, checked, holding}

abbrev pub AllHold : List Check → Type 0
AllHold [] = Unit
AllHold (must holds k carries ∷ checks) = T holds × AllHold checks

-- none of the checks fails
pub holding_all : (checks : List Check) → T (holding checks) → AllHold checks
holding_all [] t = tt
holding_all (must holds k carries ∷ checks) t = let (a, b) = both_of holds (holding checks) t in (a, holding_all checks b)

pub all_holding : (checks : List Check) → AllHold checks → T (holding checks)
all_holding [] h = tt
all_holding (must holds k carries ∷ checks) h = both holds (holding checks) h.0 (all_holding checks h.1)

module _ {X : Type 0} where
  pub gives_same : {a b : X} → gives a ≡ gives b → a ≡ b
  gives_same e = cc

  pub checked_holds : (checks : List Check) (a : Answer X) → AllHold checks → checked checks a ≡ a
  checked_holds [] a t = refl
  checked_holds (must holds k carries ∷ checks) a t =
      ap (λ b. cond b (checked checks a) (refuses k carries)) (is_true holds t.0) ∙ checked_holds checks a t.1

  pub checked_gives : (checks : List Check) (a : Answer X) (x : X) → checked checks a ≡ gives x → AllHold checks × (a ≡ gives x)
  checked_gives [] a x e = (tt, e)
  checked_gives (must holds k carries ∷ checks) a x e = go holds e (checked_gives checks a x)
    where
      go : (b : Bool) → cond b (checked checks a) (refuses k carries) ≡ gives x → (checked checks a ≡ gives x → AllHold checks × (a ≡ gives x))
          → (T b × AllHold checks) × (a ≡ gives x)
      go true e rest = let (h, q) = rest e in ((tt, h), q)
      go false e rest = absurd (let z : ◌≡◌ {A = ℕ} 0 1 = cc in omega arith)

pub checked_refuses : {X Y : Type 0} (checks : List Check) (x : X) (b : Answer Y) {k : ℕ} {carries : List ℕ} → checked checks (gives x) ≡ refuses k carries
    → checked checks b ≡ refuses k carries
checked_refuses [] x b {k} {carries} e = absurd (let z : ◌≡◌ {A = ℕ} 0 1 = cc in omega arith)
checked_refuses (must true m c ∷ checks) x b e = checked_refuses checks x b e
checked_refuses (must false m c ∷ checks) x b e = cc

-- where a check refuses, not all of them hold; where something is given, they do
pub refused_holding : {X : Type 0} (checks : List Check) (x : X) {k : ℕ} {carries : List ℕ} → checked checks (gives x) ≡ refuses k carries → holding checks ≡ false
refused_holding [] x {k} {carries} e = absurd (let z : ◌≡◌ {A = ℕ} 0 1 = cc in omega arith)
refused_holding (must true m c ∷ checks) x e = refused_holding checks x e
refused_holding (must false m c ∷ checks) x e = refl

-- where something follows from an answer, something was given before
pub given_then : {X Y W : Type 0} (a : Answer X) (f : X → Answer Y) {y : Y} → on_given a f ≡ gives y → ((x : X) → a ≡ gives x → f x ≡ gives y → W) → W
given_then (gives x) f e k = k x refl e
given_then (refuses n carries) f e k = absurd (let z : ◌≡◌ {A = ℕ} 0 1 = cc in omega arith)

pub given_before : {X Y : Type 0} (a : Answer X) (f : X → Answer Y) (y : Y) → on_given a f ≡ gives y → (x : X) × (a ≡ gives x) × (f x ≡ gives y)
given_before a f y e = given_then a f e λ x p q. (x, p, q)

-- ---- which refusals an answer can be

-- where it is a refusal, its number and what it carries are such
abbrev pub Only : {X : Type 0} → (ℕ → List ℕ → Type 0) → Answer X → Type 0
Only p (gives x) = Unit
Only p (refuses k carries) = p k carries

-- the same of each of a call's checks
abbrev pub OnlyChecks : (ℕ → List ℕ → Type 0) → List Check → Type 0
OnlyChecks p [] = Unit
OnlyChecks p (must holds k carries ∷ checks) = p k carries × OnlyChecks p checks

module _ (p : ℕ → List ℕ → Type 0) where
  pub only_given : {X Y : Type 0} (a : Answer X) (f : X → Answer Y) → Only p a → ((x : X) → a ≡ gives x → Only p (f x)) → Only p (on_given a f)
  only_given (gives x) f h g = g x refl
  only_given (refuses k carries) f h g = h

  pub only_checked : {X : Type 0} (checks : List Check) (a : Answer X) → OnlyChecks p checks → Only p a → Only p (checked checks a)
  only_checked [] a h g = g
  only_checked (must true k carries ∷ checks) a h g = only_checked checks a h.1 g
  only_checked (must false k carries ∷ checks) a h g = h.0

  -- the first check holds, so its refusal is not among them
  pub only_after : {X : Type 0} (b : Bool) (k : ℕ) (carries : List ℕ) (checks : List Check) (a : Answer X) → T b → OnlyChecks p checks → Only p a
      → Only p (checked (must b k carries ∷ checks) a)
  only_after true k carries checks a t h g = only_checked checks a h g
  only_after false k carries checks a t h g = absurd t

  pub only_wider : {X : Type 0} (q : ℕ → List ℕ → Type 0) (a : Answer X) → ((k : ℕ) (carries : List ℕ) → p k carries → q k carries) → Only p a → Only q a
  only_wider q (gives x) w h = tt
  only_wider q (refuses k carries) w h = w k carries h
