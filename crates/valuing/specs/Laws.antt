-- The checks of valuing against the model: on a sound day a row is valued exactly where it is allowed, and then the answer is the
-- model's.
-- Assumes nothing.
use Rattle.std.specs.Prelude.{◌≡◌, Bool, true, not, cond, List, [], ◌∷◌, ◌⊎◌, eqb, length}
use Rattle.std.proofs.Math.Path.{refl}
use Rattle.std.proofs.Common.{sym, ap, ◌∙◌, subst, inl, inr, add-one, eq-eqb, ne_eqb}
use Rattle.std.proofs.Math.Bool.{false}
use Rattle.std.proofs.Math.Logic.{⊎_elim}
use Prim.Native.Nat.{ℕ, zero, suc, ◌+◌, ◌≤◌, ◌<◌}
use native.Mathlib.Omega.{arith}
use Rattle.std.proofs.Math.Dec.{T}
use Rattle.fold.specs.Test.{of_true, clash}
use Rattle.fold.specs.Counting.{le_or_lt}
use Rattle.fold.specs.Fold
use Rattle.fold.specs.Fold.{each, each_at, each_i, lowest, lowest-passes, lowest-before, each-lowest, lowest-each}
use Rattle.model.specs.Model.{Yard, slot_of, first_slot, last_slot, Outcome, outcome, in_slots, in_time, in_window, roomy, kept, parted, allowed}
use Rattle.model.specs.Moves.{AllMoved}
use Rattle.model.proofs.Moves.{all_moved}
use Rattle.model.specs.Rows
use Rattle.model.proofs.Rows as RowsLaws
use Rattle.model.proofs.Rows as RowsLaws
use Rattle.model.proofs.Rows as RowsLaws
use Rattle.model.proofs.Rows as RowsLaws
use Rattle.model.proofs.Rows as RowsLaws
use Rattle.model.proofs.Rows as RowsLaws
use Rattle.model.specs.Rows.{windowed}
use Rattle.model.proofs.Rows.{fitting_tests, tests_fitting, allowed_fits, allowed_keeps, fits_allowed, both_le, le_both}
use Rattle.model.specs.Groups.{GroupsUpTo}
use Rattle.model.proofs.Groups.{parted-parts, unparted_keeps}
use Rattle.wagon_sets.specs.Laws.{parts}
use Rattle.day.specs.Sound.{day_from, sound}
use Rattle.day.specs.SoundLaws.{sound_is}
use Rattle.day.specs.Answer.{Answer, gives, refuses, code}
use Rattle.day.specs.AnswerLaws.{checked_holds, checked_gives, Only, only_after}
use Rattle.day.specs.declared.Head.{Head}
use Rattle.day.specs.declared.Limits.{Limits}
use Rattle.valuing.specs.Valuing.{strays, overfull, slot_checks, valued_row, row_checks, valued}

-- ---- a sound day gets 11, 12, 13 or 17 and no other refusal

abbrev pub SlotRefusal : ℕ → List ℕ → Type 0
SlotRefusal k carries = ((11 ≤ k) × (k ≤ 13)) ⊎ (k ≡ 17)

-- ---- what two of the refusals say: 8 is given whatever the row is; 17 names a parted group, and no lower one is parted

module _ (l : Limits) (y : Yard) (row : List ℕ) where
  pub record LowestParted (carries : List ℕ) : Type 0 where
    pub group : ℕ
    pub named : carries ≡ group ∷ []
    pub is_parted : T (parted y.trains y.groups row group)
    pub lowest : (g : ℕ) → 1 ≤ g → g < group → T (parted y.trains y.groups row g) → ⊥
