-- The row read back from the first plan that is held: train i has the last slot in which it is not unserved; that is its slot (`slot_is`), and so
-- the row is the search's (`row-found`).
-- Assumes nothing.
use Rattle.std.specs.Prelude.{◌≡◌, refl, Bool, true, false, ◌≢◌, eqb, length, take}
use Rattle.std.proofs.Math.Path.{sym, ap}
use Rattle.std.proofs.Common.{◌∙◌, add-one, get_or-take, length-take-le, pow_pos, eq-eqb, ne_eqb}
use Rattle.std.proofs.Math.Bool.{not, cond}
use Rattle.std.proofs.Math.Logic.{⊎_elim}
use mathlib.Core.List.{List, [], ◌∷◌}
use Rattle.std.proofs.Math.Option.{some}
use Prim.Native.Nat.{ℕ, zero, suc, ◌+◌, ◌-◌, ◌≤◌, ◌<◌}
use native.Mathlib.Omega.{arith}
use Rattle.std.proofs.Math.ListN.{get_or}
use Rattle.fold.specs.Fold.{bit}
use Rattle.fold.specs.Listed.{listed, listed_all, listed_ext}
use Rattle.fold.specs.Counting.{same_or}
use Rattle.sets.specs.Mask.{has}
use Rattle.sets.specs.Rest.{full, has-full, rest-bit, sub-full}
use Rattle.model.specs.Model.{Yard}
use Rattle.optimum.specs.Workspace.{at}
use Rattle.beam.specs.Beam.{Plan, rest, set_in, slot_in, row_of, kept, beam_row, first_row}
use Rattle.beam.specs.Paths.{Path}
use Rattle.beam.proofs.Paths.{set-slot, set_le, slot_le}
use Rattle.beam.proofs.Successors.{kept_of, remained_path}
use Rattle.beam.specs.Words.{word_of}
use Rattle.beam.specs.HeldWords.{held_word}
use Rattle.beam.specs.Gathering.{from}
use Rattle.beam.proofs.Gathering.{at_place}
use Rattle.held_plans.specs.declared.HeldPlan.{HeldPlan}
use Rattle.held_plans.specs.Words.{slot_word}
use Rattle.gathering.specs.Gathering.{Words}
use Rattle.set_serving.specs.Serving.{PlanAt}

-- the last of the first t slots whose set of those unserved lacks train i, or 0
unfoldable pub slot_at : HeldPlan → ℕ → ℕ → ℕ
slot_at w i zero = 0
slot_at w i (suc j) = cond (has (get_or w.unserved j 0) i) (slot_at w i j) (suc j)

pub slot_none : (w : HeldPlan) (i : ℕ) → slot_at w i 0 ≡ 0
unfolding slot_at
slot_none w i = refl

pub slot_next : (w : HeldPlan) (i j : ℕ) → slot_at w i (j + 1) ≡ cond (has (get_or w.unserved j 0) i) (slot_at w i j) (j + 1)
unfolding slot_at
slot_next w i j = ap (slot_at w i) (add-one j) ∙ ap (cond (has (get_or w.unserved j 0) i) (slot_at w i j)) (sym (add-one j))

module _ (y : Yard) (p : Plan) (path : Path y p) (w : HeldPlan) (own : Words y p w) (few : y.slots ≤ 12) (i : ℕ) (l : i < y.trains) where
  -- the word of slot j + 1 lacks the trains of its set
  slot-word : (j : ℕ) → j < y.slots → get_or w.unserved j 0 ≡ full y.trains - set_in p j
  unfolding held_word word_of
  slot-word j m =
      sym (slot_word w j (omega arith)) ∙ own (suc (suc (suc j))) (omega arith)
      ∙ ap (λ b. cond b (rest y p) (full y.trains - set_in p j)) (ne_eqb (suc (suc (suc j))) 15 (λ e. omega arith))

  lacks : (j : ℕ) → j < y.slots → has (get_or w.unserved j 0) i ≡ not (eqb (slot_in p i) (suc j))
  lacks j m =
      ap (λ v. has v i) (slot-word j m)
      ∙ other (has (full y.trains - set_in p j) i) (has (set_in p j) i)
      (rest-bit y.trains (set_in p j) (full y.trains) (sub-full y.trains (set_in p j) (set_le y p path j)) (omega (arith, pow_pos y.trains)) i l ∙ ap bit (has-full y.trains i l))
      ∙ ap not (sym (set-slot y p path i j l))
    where
      other : (a b : Bool) → bit a + bit b ≡ 1 → a ≡ not b
      other true true e = absurd (omega arith)
      other true false e = refl
      other false true e = refl
      other false false e = absurd (omega arith)

  -- its slot, once it is passed
  slot_upto : (t : ℕ) → t ≤ y.slots → (slot_in p i ≤ t → slot_at w i t ≡ slot_in p i) × (t < slot_in p i → slot_at w i t ≡ 0)
  unfolding slot_at
  slot_upto zero h = (λ m. omega arith, λ m. refl)
  slot_upto (suc t) h = go (slot_upto t (omega arith))
    where
      go : (slot_in p i ≤ t → slot_at w i t ≡ slot_in p i) × (t < slot_in p i → slot_at w i t ≡ 0)
          → (slot_in p i ≤ suc t → cond (has (get_or w.unserved t 0) i) (slot_at w i t) (suc t) ≡ slot_in p i) × (suc t < slot_in p i → cond (has (get_or w.unserved t 0) i) (slot_at w i t) (suc t) ≡ 0)
      go before =
          ⊎_elim
          (λ (e : slot_in p i ≡ suc t).
          let here = ap (λ b. cond b (slot_at w i t) (suc t)) (lacks t h ∙ ap not (eq-eqb (slot_in p i) (suc t) e)) in
          (λ m. here ∙ sym e, λ m. absurd (omega arith)))
          (λ (d : slot_in p i ≢ suc t).
          let later = ap (λ b. cond b (slot_at w i t) (suc t)) (lacks t h ∙ ap not (ne_eqb (slot_in p i) (suc t) d)) in
          (λ m. later ∙ before.0 (omega arith), λ m. later ∙ before.1 (omega arith)))
          (same_or (slot_in p i) (suc t))

  pub slot_is : length p ≡ y.slots → slot_at w i y.slots ≡ slot_in p i
  slot_is long = (slot_upto y.slots (omega arith)).0 (omega (arith, slot_le y p i))

-- ---- the row

first_row_lem : (y : Yard) (l : List Plan) → 0 < length l → first_row y l ≡ some (row_of y (get_or l 0 []))
first_row_lem y [] h = absurd (omega arith)
first_row_lem y (p ∷ l) h = refl

take-listed : (n : ℕ) (row : List ℕ) (f : ℕ → ℕ) → n ≤ length row → ((i : ℕ) → i < n → at row i ≡ f i) → take n row ≡ listed n f
take-listed n row f h is =
    sym (listed_all (take n row) 0) ∙ ap (λ k. listed k λ i. get_or (take n row) i 0) (length-take-le n row h)
    ∙ listed_ext n (λ i. get_or (take n row) i 0) f (λ i l. get_or-take n row i 0 l ∙ is i l)

module _ (y : Yard) (width : ℕ) where
  -- the first plan kept after the last slot
  abbrev p : Plan
  p = from y width y.slots 0

  pub row-found : (w : HeldPlan) (row : List ℕ) → y.slots ≤ 12 → PlanAt y width y.slots 0 w → y.trains ≤ length row
      → ((i : ℕ) → i < y.trains → at row i ≡ slot_at w i y.slots) → beam_row y width ≡ some (take y.trains row)
  unfolding beam_row row_of
  row-found w row few plan long is =
      let (path, slots) = remained_path y width y.slots p (kept_of y width y.slots p (at_place (kept y width y.slots) [] 0 plan.inside)) in
      first_row_lem y (kept y width y.slots) plan.inside
      ∙ ap some (sym (take-listed y.trains row (slot_in p) long (λ i l. is i l ∙ slot_is y p path w plan.words few i l slots)))
