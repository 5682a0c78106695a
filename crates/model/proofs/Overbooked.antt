-- Laws of Overbooked.antt of specs/.
-- The first overbooked interval of a day as a function (01: of all overbooked stretches the smallest first slot, and for it the
-- smallest last slot), and that it names just that one.
-- Assumes nothing.
use Rattle.std.specs.Prelude.{◌≡◌, Bool, cond, ◌&&◌, T}
use Rattle.std.proofs.Math.Path.{refl}
use Rattle.std.proofs.Common.{sym, subst, le_antisymm, le_of_suc-le-suc}
use Rattle.std.proofs.Math.Bool.{true, false}
use Rattle.std.proofs.Math.Logic.{⊎_elim}
use Rattle.std.proofs.Math.Option.{Option, none, some}
use Prim.Native.Nat.{ℕ, zero, suc, ◌≤◌, ◌<◌}
use native.Mathlib.Omega.{arith}
use Rattle.std.proofs.Math.Dec.{leb, leb→le}
use borrow.Author.Tests.{leb-true, leb-false}
use Rattle.fold.specs.Test.{both_of}
use Rattle.fold.specs.Counting.{le_or_lt}
use Rattle.fold.specs.Fold.{lowest, lowest-passes, lowest-before, some_at, some_of}
use Rattle.model.specs.Model.{Yard, overbooked, exceeds, FirstOverbooked}
use Rattle.model.specs.Overbooked.{Interval, overbooked_from, overbooked_first, overbooked_last, first_overbooked, SaysFirst}

module _ (y : Yard) where
  -- an overbooked interval lies within the slots
  pub overbooked-range : (a b : ℕ) → T (overbooked y a b) → (1 ≤ a) × (a ≤ b) × (b ≤ y.slots)
  unfolding overbooked
  overbooked-range a b t =
      let p = both_of (leb 1 a && leb a b && leb b y.slots) (exceeds y a b) t in
      let q = both_of (leb 1 a && leb a b) (leb b y.slots) p.0 in
      let r = both_of (leb 1 a) (leb a b) q.0 in
      (leb→le 1 a r.0, leb→le a b r.1, leb→le b y.slots q.1)

  from : (a b : ℕ) → T (overbooked y a b) → T (overbooked_from y a)
  unfolding overbooked_from
  from a zero t = absurd (let h = overbooked-range a zero t in omega arith)
  from a (suc b) t =
      let h = overbooked-range a (suc b) t in
      some_at y.slots (λ b. overbooked y a (suc b)) b h.2 t

  starts : ℕ → Bool
  starts a = overbooked_from y (suc a)

  ends : ℕ → ℕ → Bool
  ends a b = overbooked y a (suc b)

  -- no overbooked interval begins before the lowest start
  not_before : (a b : ℕ) → T (overbooked y a b) → suc (lowest y.slots starts) ≤ a
  unfolding starts
  not_before zero b t = absurd (let h = overbooked-range zero b t in omega arith)
  not_before (suc a) b t =
      ⊎_elim (λ (l : suc (lowest y.slots starts) ≤ suc a). l)
      (λ (l : suc a < suc (lowest y.slots starts)). absurd (lowest-before y.slots starts a (le_of_suc-le-suc l) (from (suc a) b t)))
      (le_or_lt (suc (lowest y.slots starts)) (suc a))

  -- from its first slot on, none ends before the lowest end
  not_shorter : (a b : ℕ) → T (overbooked y a b) → suc (lowest y.slots (ends a)) ≤ b
  unfolding ends
  not_shorter a zero t = absurd (let h = overbooked-range a zero t in omega arith)
  not_shorter a (suc b) t =
      ⊎_elim (λ (l : suc (lowest y.slots (ends a)) ≤ suc b). l)
      (λ (l : suc b < suc (lowest y.slots (ends a))). absurd (lowest-before y.slots (ends a) b (le_of_suc-le-suc l) t))
      (le_or_lt (suc (lowest y.slots (ends a))) (suc b))

  pub first_says : (SaysFirst y) (first_overbooked y)
  unfolding first_overbooked overbooked_first overbooked_last starts ends overbooked_from
  first_says = go (leb (overbooked_first y) y.slots) refl
    where
      go : (t : Bool) → leb (overbooked_first y) y.slots ≡ t
          → (SaysFirst y) (cond t (some (record { first = overbooked_first y; last = overbooked_last y (overbooked_first y) })) none)
      go false e =
          λ a b t.
          let h = overbooked-range a b t in
          let l = not_before a b t in
          let m = leb-false (overbooked_first y) y.slots e in
          omega arith
      go true e =
          let a : ℕ = overbooked_first y in
          let w = some_of y.slots (ends a) (lowest-passes y.slots starts (leb-true a y.slots e)) in
          let l = not_shorter a (suc w.0) w.2 in
          record {
            is_over = lowest-passes y.slots (ends a) (omega (arith, w.1));
            smallest_first = not_before;
            smallest_last = λ b t. not_shorter a b t;
          }

  pub first_is : (a b : ℕ) → FirstOverbooked y a b → first_overbooked y ≡ some (record { first = a; last = b })
  first_is a b f = go (first_overbooked y) first_says
    where
      go : (o : Option Interval) → (SaysFirst y) o → o ≡ some (record { first = a; last = b })
      go none n = absurd (n a b f.is_over)
      go (some w) g =
          let e : w.first ≡ a = le_antisymm (g.smallest_first a b f.is_over) (f.smallest_first w.first w.last g.is_over) in
          let l : w.last ≡ b =
          le_antisymm (g.smallest_last b (subst (λ x. T (overbooked y x b)) (sym e) f.is_over))
          (f.smallest_last w.last (subst (λ x. T (overbooked y x w.last)) e g.is_over)) in
          λ i. some (record { first = e i; last = l i })
