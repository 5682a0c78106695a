-- The account of a day, its closed slots and the served slots; and the ends of a position's cut window, case by case, for a reader:
-- `cut_day` is proved from the definitions themselves.
-- Assumes nothing.
use Rattle.std.specs.Prelude.{◌≡◌, List}
use Prim.Native.Nat.{ℕ, suc, ◌+◌, ◌≤◌, ◌<◌}
use Rattle.std.proofs.Math.Nat.{max-eq_left, max-eq_right}
use Rattle.std.proofs.Common.{add-one, arith}
use borrow.Author.Tests.{eq-eqb, ne_eqb}
use Rattle.model.specs.Model.{Yard, slot_of, first_slot, last_slot}
use Rattle.rolling.specs.Rolling.{Account, cut_first, cut_last}

abbrev pub account : Yard → ℕ → List ℕ → Account
account y closed served = record { day = y; closed = closed; served = served }

module _ (a : Account) (i : ℕ) where
  pub first_served : (slot_of a.served i ≡ 0 → ⊥) → slot_of a.served i ≡ cut_first a i
  unfolding cut_first
  first_served h = rw (ne_eqb (slot_of a.served i) 0 h)

  pub first_closed : slot_of a.served i ≡ 0 → first_slot a.day i ≤ a.closed → a.closed + 1 ≡ cut_first a i
  unfolding cut_first
  first_closed z h = rw (add-one a.closed, eq-eqb (slot_of a.served i) 0 z, max-eq_right {n = first_slot a.day i} {m = suc a.closed} (omega arith))

  pub first_open : slot_of a.served i ≡ 0 → a.closed < first_slot a.day i → first_slot a.day i ≡ cut_first a i
  unfolding cut_first
  first_open z h = rw (eq-eqb (slot_of a.served i) 0 z, max-eq_left {n = first_slot a.day i} {m = suc a.closed} (omega arith))

  pub last_served : (slot_of a.served i ≡ 0 → ⊥) → slot_of a.served i ≡ cut_last a i
  unfolding cut_last
  last_served h = rw (ne_eqb (slot_of a.served i) 0 h)

  pub last_waiting : slot_of a.served i ≡ 0 → last_slot a.day i ≡ cut_last a i
  unfolding cut_last
  last_waiting z = rw (eq-eqb (slot_of a.served i) 0 z)
