-- Laws of Laws.antt of specs/.
-- The checks of valuing against the model: on a sound day a row is valued exactly where it is allowed, and then the answer is the
-- model's.
-- Assumes nothing.
use Rattle.std.specs.Prelude.{◌≡◌, Bool, true, not, cond, List, [], ◌∷◌, ◌⊎◌, eqb, length}
use Rattle.std.proofs.Math.Path.{refl}
use Rattle.std.proofs.Common.{sym, ap, ◌∙◌, subst, inl, inr, add-one, eq-eqb, ne_eqb}
use Rattle.std.proofs.Math.Bool.{false}
use Rattle.std.proofs.Math.Logic.{⊎_elim}
use Prim.Native.Nat.{ℕ, zero, suc, ◌+◌, ◌≤◌, ◌<◌}
use native.Mathlib.Omega.{arith}
use Rattle.std.proofs.Math.Dec.{T}
use Rattle.fold.specs.Test.{of_true, clash}
use Rattle.fold.specs.Counting.{le_or_lt}
use Rattle.fold.specs.Fold
use Rattle.fold.specs.Fold.{each, each_at, each_i, lowest, lowest-passes, lowest-before, each-lowest, lowest-each}
use Rattle.model.specs.Model.{Yard, slot_of, first_slot, last_slot, Outcome, outcome, in_slots, in_time, in_window, roomy, kept, parted, allowed}
use Rattle.model.specs.Moves.{AllMoved}
use Rattle.model.proofs.Moves.{all_moved}
use Rattle.model.specs.Rows
use Rattle.model.proofs.Rows as RowsLaws
use Rattle.model.proofs.Rows as RowsLaws
use Rattle.model.proofs.Rows as RowsLaws
use Rattle.model.proofs.Rows as RowsLaws
use Rattle.model.proofs.Rows as RowsLaws
use Rattle.model.proofs.Rows as RowsLaws
use Rattle.model.specs.Rows.{windowed}
use Rattle.model.proofs.Rows.{fitting_tests, tests_fitting, allowed_fits, allowed_keeps, fits_allowed, both_le, le_both}
use Rattle.model.specs.Groups.{GroupsUpTo}
use Rattle.model.proofs.Groups.{parted-parts, unparted_keeps}
use Rattle.wagon_sets.specs.Laws.{parts}
use Rattle.day.specs.Sound.{day_from, sound}
use Rattle.day.specs.SoundLaws.{sound_is}
use Rattle.day.specs.Answer.{Answer, gives, refuses, code}
use Rattle.day.specs.AnswerLaws.{checked_holds, checked_gives, Only, only_after}
use Rattle.day.specs.declared.Head.{Head}
use Rattle.day.specs.declared.Limits.{Limits}
use Rattle.valuing.specs.Valuing.{strays, overfull, slot_checks, valued_row, row_checks, valued}
use Rattle.valuing.specs.Laws.{SlotRefusal, LowestParted}

-- the test of slot t + 1, as the code asks it
pub overfull_is : (n tracks : ℕ) (row : List ℕ) (t : ℕ) {r : Bool} → r ≡ roomy n tracks row (t + 1) → overfull n tracks row t ≡ not r
unfolding overfull
overfull_is n tracks row t e = ap not (sym (e ∙ ap (roomy n tracks row) (add-one t)))

-- ---- each answer, from what the code has found

module _ (l : Limits) (y : Yard) (row : List ℕ) where
  pub says_unsound : sound l y ≡ false → refuses 8 (0 ∷ []) ≡ valued l y row
  unfolding valued
  says_unsound s = simp s

  pub says_sound : sound l y ≡ true → valued_row l y row ≡ valued l y row
  unfolding valued valued_row
  says_sound s = simp s

-- train numbers have no part in it
pub any_numbers : (l : Limits) (h : Head) (numbers others first last groups : List ℕ) (width : ℕ) (boxes row : List ℕ)
    → valued_row l (day_from h numbers first last groups width boxes) row ≡ valued_row l (day_from h others first last groups width boxes) row
unfolding valued_row
any_numbers l h numbers others first last groups width boxes row = refl

module _ (l : Limits) (y : Yard) (row : List ℕ) where
  pub says_length : (length row ≡ y.trains → ⊥) → refuses 11 (0 ∷ []) ≡ valued_row l y row
  unfolding valued_row
  says_length h = simp (ne_eqb (length row) y.trains h)

  module _ (long : length row ≡ y.trains) where
    pub says_stray : (i : ℕ) → i ≡ lowest y.trains (strays y.first y.last row) → i < y.trains → refuses 12 ((i + 1) ∷ []) ≡ valued_row l y row
    unfolding valued_row strays
    says_stray i e h =
        let f : each y.trains (in_window y.first y.last row) ≡ false =
        lowest-each y.trains (in_window y.first y.last row) (subst (λ k. k < y.trains) e h) in
        simp (eq-eqb (length row) y.trains long, f, ← e, add-one)

    module _ (inside : y.trains ≤ lowest y.trains (strays y.first y.last row)) where
      within : each y.trains (in_window y.first y.last row) ≡ true
      unfolding strays
      within = each-lowest y.trains (in_window y.first y.last row) inside

      pub says_overfull : (t : ℕ) → t ≡ lowest y.slots (overfull y.trains y.tracks row) → t < y.slots → refuses 13 ((t + 1) ∷ []) ≡ valued_row l y row
      unfolding valued_row overfull
      says_overfull t e h =
          let f = lowest-each y.slots (λ t. roomy y.trains y.tracks row (suc t)) (subst (λ k. k < y.slots) e h) in
          simp (eq-eqb (length row) y.trains long, within, f, ← e, add-one)

      module _ (room : y.slots ≤ lowest y.slots (overfull y.trains y.tracks row)) where
        spacious : each y.slots (λ t. roomy y.trains y.tracks row (suc t)) ≡ true
        unfolding overfull
        spacious = each-lowest y.slots (λ t. roomy y.trains y.tracks row (suc t)) room

        pub says_parted : (g : ℕ) → g ≡ lowest l.groups (parts y.trains y.groups row) → g < l.groups → refuses 17 ((g + 1) ∷ []) ≡ valued_row l y row
        unfolding valued_row
        says_parted g e h =
            let f = parted-parts y.trains y.groups row l.groups (subst (λ k. k < l.groups) e h) in
            simp (eq-eqb (length row) y.trains long, within, spacious, f, ← e, add-one)

        pub says_values : GroupsUpTo l.groups y.trains y.groups → l.groups ≤ lowest l.groups (parts y.trains y.groups row)
            → gives (outcome y row) ≡ valued_row l y row
        unfolding valued_row
        says_values low h =
            let f = unparted_keeps y.trains y.groups row l.groups low h in
            simp (eq-eqb (length row) y.trains long, within, spacious, f)

pub valued_only : (l : Limits) (y : Yard) (row : List ℕ) → T (sound l y) → Only SlotRefusal (valued l y row)
unfolding valued
valued_only l y row s =
    only_after SlotRefusal (sound l y) 8 (0 ∷ []) (slot_checks l y row) (gives (outcome y row)) s
    (inl (omega arith, omega arith), (inl (omega arith, omega arith), (inl (omega arith, omega arith), (inr refl, tt)))) tt

module _ (l : Limits) (y : Yard) (row : List ℕ) where
  pub valued_unsound : sound l y ≡ false → valued l y row ≡ refuses 8 (0 ∷ [])
  unfolding valued
  valued_unsound s = simp s

  -- the search has found one, since the row does not keep the groups
  low : ℕ
  low = Fold.lowest l.groups (parts y.trains y.groups row)

  found : T (sound l y) → kept y.trains y.groups row ≡ false → low < l.groups
  unfolding low
  found s e =
      ⊎_elim (λ h. absurd (clash (unparted_keeps y.trains y.groups row l.groups (sound_is l y s).groups h) e)) (λ h. h) (le_or_lt l.groups low)

  pub valued-parted : (carries : List ℕ) → valued l y row ≡ refuses 17 carries → (LowestParted l y row) carries
  unfolding valued low
  valued-parted carries =
      go (sound l y) (eqb (length row) y.trains) (each y.trains (in_window y.first y.last row)) (each y.slots λ t. roomy y.trains y.tracks row (suc t))
      (kept y.trains y.groups row) refl refl
    where
      below : (g : ℕ) → 1 ≤ g → g < suc low → T (parted y.trains y.groups row g) → ⊥
      below zero a h p = omega arith
      below (suc g) a h p = lowest-before l.groups (parts y.trains y.groups row) g (omega arith) p

      stray : List ℕ
      stray = suc (Fold.lowest y.trains (strays y.first y.last row)) ∷ []

      full : List ℕ
      full = suc (Fold.lowest y.slots (overfull y.trains y.tracks row)) ∷ []

      go : (s a b c k : Bool) → sound l y ≡ s → kept y.trains y.groups row ≡ k
          → ◌≡◌ {A = Answer Outcome} (cond s (cond a (cond b (cond c (cond k (gives (outcome y row)) (refuses 17 (suc low ∷ []))) (refuses 13 full)) (refuses 12 stray)) (refuses 11 (0 ∷ []))) (refuses 8 (0 ∷ []))) (refuses 17 carries)
          → (LowestParted l y row) carries
      go false a b c k s q e = absurd (let n = ap code e in omega arith)
      go true false b c k s q e = absurd (let n = ap code e in omega arith)
      go true true false c k s q e = absurd (let n = ap code e in omega arith)
      go true true true false k s q e = absurd (let n = ap code e in omega arith)
      go true true true true true s q e = absurd (let n : ◌≡◌ {A = ℕ} 0 1 = cc in omega arith)
      go true true true true false s q e = record {
        group = suc low;
        named = cc;
        is_parted = lowest-passes l.groups (parts y.trains y.groups row) (found (of_true s) q);
        lowest = below;
      }

-- ---- demand 2: each allowed row of a sound day has the model's numbers, and no other row has any

module _ (l : Limits) (y : Yard) (row : List ℕ) where
  pub valued-allowed : T (sound l y) → T (allowed y row) → valued l y row ≡ gives (outcome y row)
  unfolding valued
  valued-allowed s a =
      let (long, slotted, inside, room) = fitting_tests y row (allowed_fits y row a) in
      checked_holds (row_checks l y row) (gives (outcome y row)) (s, (long, (inside, (room, (allowed_keeps y row a, tt)))))

  pub allowed-valued : (o : Outcome) → valued l y row ≡ gives o → T (sound l y) × T (allowed y row) × (outcome y row ≡ o)
  unfolding valued
  allowed-valued o e =
      let (h, g) = checked_gives (row_checks l y row) (gives (outcome y row)) o e in
      (h.0, fits_allowed y row (tests_fitting y row h.1.0 (slotted h.0 h.1.1.0) h.1.1.0 h.1.1.1.0) h.1.1.1.1.0, cc)
    where
      -- the windows of a sound day lie in its slots
      slotted : T (sound l y) → T (windowed y row) → T (Rows.slotted y row)
      slotted s w =
          each_i y.trains (in_slots y.slots row)
          (λ i h.
          let (a, b, c) = (sound_is l y s).windows i h in
          let (p, q) = both_le (first_slot y i) (slot_of row i) (slot_of row i) (last_slot y i) (unfold in_time in_window in each_at y.trains (in_window y.first y.last row) w i h) in
          unfold in_slots in le_both 1 (slot_of row i) (slot_of row i) y.slots (omega arith, omega arith))

  -- order 6: direct and split moves are all boxes of the day
  pub valued_boxes : (o : Outcome) → valued l y row ≡ gives o → AllMoved y o
  valued_boxes o e = subst (AllMoved y) (allowed-valued o e).2 (all_moved y row)
