-- What a reader finds at the front of a text: nothing of the form that it looks for, or a value and the text after it. And where in a
-- longer text that is.
-- Assumes nothing.
use Rattle.std.specs.Prelude.{◌≡◌, refl, List, ℕ, ◌≤◌, length, drop}
use Rattle.std.proofs.Common.{arith}

pub data Parsed (X : Type 0) : Type 0 where
  fail : Parsed X
  got : X → List ℕ → Parsed X

-- reading on after what was read
abbrev pub and_then : {X Z : Type 0} → Parsed X → (X → List ℕ → Parsed Z) → Parsed Z
and_then fail f = fail
and_then (got x s) f = f x s

pub no_fail : {X : Type 0} {x : X} {r : List ℕ} → ◌≡◌ {A = Parsed X} fail (got x r) → ⊥
no_fail e = let z : ◌≡◌ {A = ℕ} 0 1 = cc in omega arith

-- a reading that goes on, taken apart: what was read first, and what was read then
pub taken : {X Z W : Type 0} {p : Parsed X} {f : X → List ℕ → Parsed Z} {z : Z} {r : List ℕ}
    → and_then p f ≡ got z r → ((x : X) (s : List ℕ) → p ≡ got x s → f x s ≡ got z r → W) → W
taken {p = fail} e k = absurd (no_fail e)
taken {p = got x s} e k = k x s refl e

-- in the text t the value x was read up to the place `next`
pub record ReadTo {X : Type 0} (t : List ℕ) (p : Parsed X) (x : X) (next : ℕ) : Type 0 where
  pub read : p ≡ got x (drop next t)
  pub inside : next ≤ length t
