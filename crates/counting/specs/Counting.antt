-- The code's four numbers of a row as the model's outcome.
-- Assumes nothing.
use Rattle.std.specs.Prelude.{◌≡◌, refl, List, [], ◌∷◌, ℕ}
use Rattle.fold.specs.Fold.{sum}
use Rattle.model.specs.Model.{Outcome, slot_of, outside_boxes, split_boxes, splits_to}
use Rattle.counting.specs.declared.Value.{Value}

-- an outcome of its numbers, in the order of the plan file's names line
abbrev pub figures : ℕ → ℕ → ℕ → ℕ → Outcome
figures revisits splits direct cost = record { revisits = revisits; splits = splits; direct = direct; cost = cost }

-- and its numbers in that order: the row of the plan file, and what a caller is told
abbrev pub figures_of : Outcome → List ℕ
figures_of o = o.revisits ∷ o.splits ∷ o.direct ∷ o.cost ∷ []

abbrev pub outcome_of : Value → Outcome
outcome_of v = figures v.revisits.0 v.splits.0 v.direct.0 v.cost

-- field by field: what a caller finds under a name is the model's of that name
pub named : (v : Value) → ((outcome_of v).revisits ≡ v.revisits.0) × ((outcome_of v).splits ≡ v.splits.0) × ((outcome_of v).direct ≡ v.direct.0) × ((outcome_of v).cost ≡ v.cost)
named v = (refl, refl, refl, refl)

-- what stands beside a refusal
abbrev pub no_outcome : Outcome
no_outcome = figures 0 0 0 0

-- outcomes are equal where their numbers are
pub same_figures : {a b : Outcome} → a.revisits ≡ b.revisits → a.splits ≡ b.splits → a.direct ≡ b.direct → a.cost ≡ b.cost → a ≡ b
same_figures r s d c = λ i. figures (r i) (s i) (d i) (c i)

-- the split moves of the boxes that train i receives are those from outside its own slot
pub split_outside : (n : ℕ) (a : ℕ → ℕ → ℕ) (row : List ℕ) (i : ℕ) → sum n (outside_boxes a row (slot_of row i) i) ≡ splits_to n a row i
unfolding outside_boxes split_boxes splits_to
split_outside n a row i = refl
