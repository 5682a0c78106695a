-- Laws of FromTables.antt of specs/.
-- Staged choices that read the filled tables are the day's: test and contribution agree for the sets and slots of the day, so what the
-- loops have solved over the tables they have solved over the model (`solved_day`).
-- Assumes nothing.
use Rattle.std.specs.Prelude.{◌≡◌, refl, Bool, true, false, cond, ◌&&◌, List, T, leb, ltb}
use Rattle.std.proofs.Math.Path.{sym, ap₂}
use Rattle.std.proofs.Common.{ap, ◌∙◌, leb→le, le→leb, lt-ltb, le-ltb}
use Rattle.std.proofs.Math.Bool.{and_comm, and_assoc}
use Prim.Native.Nat.{ℕ, zero, suc, ◌+◌, ◌-◌, ◌*◌, ◌^◌, ◌≤◌, ◌<◌}
use native.Mathlib.Omega.{arith}
use Rattle.std.specs.Int.Bits.{bit_and}
use Rattle.std.proofs.lemmas.Nat.{and_le_l}
use Rattle.std.specs.Int.Count.{ones}
use Rattle.std.proofs.Math.ListN.{get_or}
use Rattle.fold.specs.Test.{is_true, of_true, both, both_of}
use Rattle.sets.specs.Subset.{Sub, subset, sub_le}
use Rattle.model.specs.Model.{Yard, received, cost}
use Rattle.optimum.specs.Layers.{Solved}
use Rattle.optimum.proofs.Agree.{solved_agree}
use Rattle.staging.proofs.Serving.{servable_is}
use Rattle.staging.specs.Tables.{needing, from_outside, open_in, together, servable, late_trains, slot_cost, stage_key, Tables, barred, from_tables, late_set, cost_from_tables, key_from_tables}
use Rattle.staging.specs.SlotInRow.{row_around}
use Rattle.staging.proofs.SlotInRow.{slot_in_row, split_in_row}
use Rattle.staging.specs.FromTables.{admitted, DayTables}

module _ {y : Yard} {x : Tables} (h : DayTables y x) where
  -- a set is admitted, or it is barred
  priced : (s : ℕ) → s < 2 ^ y.trains → admitted y s ≡ true → get_or x.price s 0 ≡ y.split * from_outside y.trains (received y) s
  priced s l e = h.prices s l ∙ ap (λ b. cond b (y.split * from_outside y.trains (received y) s) barred) e

  unpriced : (s : ℕ) → s < 2 ^ y.trains → admitted y s ≡ false → get_or x.price s 0 ≡ barred
  unpriced s l e = h.prices s l ∙ ap (λ b. cond b (y.split * from_outside y.trains (received y) s) barred) e

  has_price : (s : ℕ) → s < 2 ^ y.trains → ltb (get_or x.price s 0) barred ≡ admitted y s
  has_price s l = at (admitted y s) refl
    where
      at : (b : Bool) → admitted y s ≡ b → ltb (get_or x.price s 0) barred ≡ b
      at true e = lt-ltb (get_or x.price s 0) barred (omega (arith, priced s l e, split_in_row y s (omega arith), h.cheap (row_around y.trains s s)))
      at false e = le-ltb (get_or x.price s 0) barred (omega (arith, unpriced s l e))

  -- no set that is not barred has more trains than tracks
  pub room_enough : (s : ℕ) → s < 2 ^ y.trains → get_or x.price s 0 < barred → ones s ≤ y.tracks
  room_enough s l m =
      let fits = of_true (sym (has_price s l) ∙ lt-ltb (get_or x.price s 0) barred m) in
      leb→le (ones s) y.tracks (both_of (leb (ones s) y.tracks) (together y.trains y.groups s) fits).0

  pub test_agrees : (t r s : ℕ) → 1 ≤ t → t ≤ y.slots → r < 2 ^ y.trains → Sub s r → from_tables x t r s ≡ servable y t r s
  unfolding from_tables servable
  test_agrees zero r s a b l hs = absurd (omega arith)
  test_agrees (suc j) r s a b l hs =
      let first : suc j - 1 ≡ j = omega arith in
      let o = open_in y.trains y.first y.last (suc j) in
      ap₂ (λ c v. c && subset s v) (has_price s (omega (arith, sub_le s r hs))) (ap (λ i. get_or x.opens i 0) first ∙ h.windows j b)
      ∙ and_comm (admitted y s) (subset s o)
      ∙ sym (and_assoc (subset s o) (leb (ones s) y.tracks) (together y.trains y.groups s))

  cost_reads : (t r s : ℕ) → r < 2 ^ y.trains → Sub s r → admitted y s ≡ true → cost_from_tables x t r s ≡ slot_cost y t r s
  cost_reads t r s l hs fits =
      let later = needing y.trains (received y) (r - s) in
      let within : s < 2 ^ y.trains = omega (arith, sub_le s r hs) in
      ap₂ (λ v z. v + z)
      (ap (λ v. get_or x.late (bit_and s v) 0) (h.needs (r - s) (omega arith)) ∙ h.lates (bit_and s later) (omega (arith, and_le_l s later)))
      (priced s within fits)

  -- the trains of s that revisit, counted
  revisits_read : (r s : ℕ) → r < 2 ^ y.trains → Sub s r → get_or x.count (late_set x.need (r - s) s) 0 ≡ late_trains y r s
  revisits_read r s l hs =
      let later = needing y.trains (received y) (r - s) in
      ap (λ v. get_or x.count (bit_and s v) 0) (h.needs (r - s) (omega arith))
      ∙ h.counts (bit_and s later) (omega (arith, and_le_l s later, sub_le s r hs))

  pub key_agrees : (t r s : ℕ) → 1 ≤ t → t ≤ y.slots → r < 2 ^ y.trains → Sub s r → T (servable y t r s)
      → key_from_tables x t r s ≡ stage_key y t r s
  unfolding key_from_tables
  key_agrees t r s a b l hs may =
      let serves = servable_is y t r s may in
      let fits = is_true (admitted y s) (both (leb (ones s) y.tracks) (together y.trains y.groups s) (le→leb (ones s) y.tracks serves.room) serves.whole) in
      omega (arith, cost_reads t r s l hs fits, revisits_read r s l hs, h.counts r l)

  -- a set that is not barred costs less than `barred`, as a slot costs no more than a row
  pub unbarred_cheap : (t r s : ℕ) → r < 2 ^ y.trains → Sub s r → get_or x.price s 0 < barred → cost_from_tables x t r s < barred
  unbarred_cheap t r s l hs m =
      let within : s < 2 ^ y.trains = omega (arith, sub_le s r hs) in
      let fits = sym (has_price s within) ∙ lt-ltb (get_or x.price s 0) barred m in
      omega (arith, cost_reads t r s l hs fits, slot_in_row y t r s (omega arith) hs, h.cheap (row_around y.trains r s))

  pub solved_day : {inf N : ℕ} {wanted : ℕ → ℕ → Type 0} {a₀ c₀ a c : List ℕ} → N ≡ 2 ^ y.trains
      → Solved (from_tables x) (key_from_tables x) inf wanted N y.slots 0 a₀ c₀ a c
      → Solved (servable y) (stage_key y) inf wanted N y.slots 0 a₀ c₀ a c
  solved_day {inf} {N} e =
      solved_agree (from_tables x) (servable y) (key_from_tables x) (stage_key y) inf N y.slots
      (λ t r s a b l. test_agrees t r s a b (omega arith)) (λ t r s a b l. key_agrees t r s a b (omega arith))
