-- Orders given by a test, "the first comes before the second": what makes one, how a key goes before an order, and the best of a list.
-- Nothing here knows of trains or rows.
-- Assumes nothing.
use Rattle.std.specs.Prelude.{Bool}
use Rattle.std.proofs.Math.Bool.{cond}
use Rattle.std.proofs.Math.Option.{Option, none, some}
use mathlib.Core.List.{List, [], ◌∷◌, Memᴰ}
use Rattle.std.proofs.Math.Dec.{T}

-- of two values not both come before the other, and not coming before is transitive
pub record Order {X : Type 0} (before : X → X → Bool) : Type 0 where
  pub asym : (r s : X) → T (before r s) → T (before s r) → ⊥
  pub through : (r s u : X) → (T (before r s) → ⊥) → (T (before s u) → ⊥) → T (before r u) → ⊥

-- ---- of the values of a list that pass a test, one that no other comes before

module _ {X : Type 0} where
  unfoldable pub choose : (X → X → Bool) → X → Option X → Option X
  choose before x none = some x
  choose before x (some y) = cond (before y x) (some y) (some x)

  unfoldable pub pick : (X → Bool) → (X → X → Bool) → List X → Option X
  unfolding choose
  pick ok before [] = none
  pick ok before (x ∷ xs) = cond (ok x) (choose before x (pick ok before xs)) (pick ok before xs)

  -- what an answer says of the values of a list
  abbrev pub Picked : (X → Bool) → (X → X → Bool) → List X → Option X → Type 0
  Picked ok before xs none = (s : X) → Memᴰ s xs → T (ok s) → ⊥
  Picked ok before xs (some r) = T (ok r) × ((s : X) → Memᴰ s xs → T (ok s) → T (before s r) → ⊥)
