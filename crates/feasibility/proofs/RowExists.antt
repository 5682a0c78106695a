-- Laws of RowExists.antt of specs/.
-- A day whose windows overbook no interval has a fitting row: slot by slot, each track takes the train with the earliest last slot.
-- Assumes nothing.
use Rattle.std.specs.Prelude.{◌≡◌, refl, ◌⊎◌, List, ℕ, zero, suc, ◌≤◌, ◌<◌, T, length, replicate, set}
use Rattle.std.proofs.Common.{sym, ap, ◌∙◌, inl, inr, ⊎_elim, arith, get_or-set_same, get_or-set_other}
use Rattle.fold.specs.Counting.{same_or, le_or_lt}
use Rattle.model.specs.Model.{Yard, first_slot, last_slot, slot_of, fitting}
use Rattle.model.specs.Rows.{Fitting}
use Rattle.model.proofs.Rows.{is_fitting}
use Rattle.feasibility.specs.Bound.{Windows, Spacious}
use Rattle.feasibility.proofs.Earliest.{earliest}
use Rattle.feasibility.specs.Partial.{ready, waits, Partial}
use Rattle.feasibility.proofs.Partial.{partial_start, partial_close, ends_later, partial_next}
use Rattle.feasibility.proofs.Placing.{partial_place}
use Rattle.feasibility.specs.RowExists.{Grown}

grown_set : (a : ℕ) (row : List ℕ) (i : ℕ) → i < length row → slot_of row i ≡ 0 → Grown a row (set row i a)
grown_set a row i h z j =
    ⊎_elim (λ (e : j ≡ i). inr (ap (slot_of row) e ∙ z, ap (slot_of (set row i a)) e ∙ get_or-set_same row i a 0 h))
    (λ d. inl (get_or-set_other row i j a 0 d)) (same_or j i)

grown_trans : (a : ℕ) (row mid r : List ℕ) → Grown a row mid → Grown a mid r → Grown a row r
grown_trans a row mid r g h i =
    ⊎_elim (λ e. ⊎_elim (λ q. inl (e ∙ q)) (λ q. inr (q.0, e ∙ q.1)) (g i))
    (λ e. ⊎_elim (λ q. inr (sym q ∙ e.0, e.1)) (λ q. inr (q.0, e.1)) (g i)) (h i)

module _ (y : Yard) (windows : Windows y) (spacious : Spacious y) where
  -- the g tracks that slot a has left are filled, and slots that were given stay
  pub fill : (a g : ℕ) (row : List ℕ) → 1 ≤ a → Partial y a g row → (r : List ℕ) × Partial y a 0 r × Grown a row r
  fill a zero row h s = (row, s, λ i. inl refl)
  fill a (suc g) row h s =
      ⊎_elim
      (λ none. (row, partial_close y windows spacious a (suc g) row none s, λ i. inl refl))
      (λ (i, chosen).
      let (r, t, grown) = fill a g (set row i a) h (partial_place y windows spacious a g row h s i chosen) in
      let (z, begins) = waits (slot_of row i) (first_slot y i) a chosen.passes in
      (r, t, grown_trans a row (set row i a) r (grown_set a row i (omega (arith, s.long, chosen.below)) z) grown))
      (earliest y.trains (suc y.slots) (ready y row a) (last_slot y) (λ i l. omega (arith, windows i l)))

  -- the slots 1 to a are filled
  filled : (a : ℕ) → a ≤ y.slots → (r : List ℕ) × Partial y a 0 r
  filled zero h = (replicate y.trains 0, partial_start y windows spacious)
  filled (suc a) h =
      let (row, s) = filled a (omega arith) in
      let (r, t, grown) = fill (suc a) y.tracks row (omega arith) (partial_next y a row h s) in
      (r, t)

  -- where all slots are filled no train waits
  none_waits : (row : List ℕ) → Partial y y.slots 0 row → (i : ℕ) → i < y.trains → 1 ≤ slot_of row i
  none_waits row s i l =
      ⊎_elim
      (λ (z : slot_of row i ≤ 0). absurd (omega (arith, windows i l, ends_later y y.slots row (omega arith) s i l (omega arith))))
      (λ h. h)
      (le_or_lt (slot_of row i) 0)

  pub all_placed : (row : List ℕ) → Partial y y.slots 0 row → Fitting y row
  all_placed row s = record {
    long = s.long;
    slotted = λ i l. (none_waits row s i l, (s.placed i l (none_waits row s i l)).2);
    windowed = λ i l. let (p, q, r) = s.placed i l (none_waits row s i l) in (p, q);
    room = λ t l. s.room t;
  }

  pub row_exists : (row : List ℕ) × T (fitting y row)
  row_exists =
      let (row, s) = filled y.slots (omega arith) in
      (row, is_fitting y row (all_placed row s))
