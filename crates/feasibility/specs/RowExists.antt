-- A day whose windows overbook no interval has a fitting row: slot by slot, each track takes the train with the earliest last slot.
-- Assumes nothing.
use Rattle.std.specs.Prelude.{◌≡◌, refl, ◌⊎◌, List, ℕ, zero, suc, ◌≤◌, ◌<◌, T, length, replicate, set}
use Rattle.std.proofs.Common.{sym, ap, ◌∙◌, inl, inr, ⊎_elim, arith, get_or-set_same, get_or-set_other}
use Rattle.fold.specs.Counting.{same_or, le_or_lt}
use Rattle.model.specs.Model.{Yard, first_slot, last_slot, slot_of, fitting}
use Rattle.model.specs.Rows.{Fitting}
use Rattle.model.proofs.Rows.{is_fitting}
use Rattle.feasibility.specs.Bound.{Windows, Spacious}
use Rattle.feasibility.specs.Partial.{ready, waits, Partial}

-- the trains of row have the same slots in r, but for some that had none and now have slot a
abbrev pub Grown : ℕ → List ℕ → List ℕ → Type 0
Grown a row r = (i : ℕ) → (slot_of r i ≡ slot_of row i) ⊎ ((slot_of row i ≡ 0) × (slot_of r i ≡ a))
