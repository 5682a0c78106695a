-- Laws of Rows.antt of specs/.
-- Fitting and allowed rows: the test as a record of statements, and the complete list of all rows of n slots in 1..m.
-- Assumes nothing.
use Rattle.std.specs.Prelude.{◌≡◌, refl, ◌&&◌, ℕ, zero, suc, ◌≤◌, ◌<◌, T, leb, length}
use Rattle.std.proofs.Common.{sym, subst, ⊎_elim, zero-le, suc-le-suc, eq-or-lt_of_le, le_of_suc-le-suc, arith, eq-eqb}
use mathlib.Core.List.Memᴰ
use mathlib.Core.List.{List, [], ◌∷◌, map, Memᴰ}
use Rattle.std.proofs.Math.Dec.{leb→le, le→leb, eqb→eq}
use Rattle.fold.specs.Test.{of_true, both, both_of}
use Rattle.fold.specs.Fold.{each_at, each_i}
use Rattle.model.specs.Model.{Yard, first_slot, last_slot, slot_of, in_slots, in_time, in_window, load, roomy, fitting, kept, allowed}
use Rattle.model.specs.Rows.{Fitting, long, slotted, windowed, spacious, spread, all_rows}

pub both_le : (a b c d : ℕ) → T (leb a b && leb c d) → (a ≤ b) × (c ≤ d)
both_le a b c d t = let p = both_of (leb a b) (leb c d) t in (leb→le a b p.0, leb→le c d p.1)

pub le_both : (a b c d : ℕ) → (a ≤ b) × (c ≤ d) → T (leb a b && leb c d)
le_both a b c d p = both (leb a b) (leb c d) (le→leb a b p.0) (le→leb c d p.1)

module _ (y : Yard) (row : List ℕ) where
  -- the four tests of a fitting row, apart and together
  pub fitting_tests : T (fitting y row) → T (long y row) × T (slotted y row) × T (windowed y row) × T (spacious y row)
  unfolding fitting
  fitting_tests t =
      let (p, room) = both_of ((long y row) && (slotted y row) && (windowed y row)) (spacious y row) t in
      let (q, inside) = both_of ((long y row) && (slotted y row)) (windowed y row) p in
      let (a, b) = both_of (long y row) (slotted y row) q in
      (a, b, inside, room)

  pub tests_fitting : T (long y row) → T (slotted y row) → T (windowed y row) → T (spacious y row) → T (fitting y row)
  unfolding fitting
  tests_fitting a b inside room = both ((long y row) && (slotted y row) && (windowed y row)) (spacious y row) (both ((long y row) && (slotted y row)) (windowed y row) (both (long y row) (slotted y row) a b) inside) room

  pub fitting_is : T (fitting y row) → Fitting y row
  unfolding in_slots in_time in_window roomy
  fitting_is t =
      let (a, b, inside, room) = fitting_tests t in
      record {
        long = eqb→eq (length row) y.trains a;
        slotted = λ i h. both_le 1 (slot_of row i) (slot_of row i) y.slots (each_at y.trains (in_slots y.slots row) b i h);
        windowed = λ i h. both_le (first_slot y i) (slot_of row i) (slot_of row i) (last_slot y i) (each_at y.trains (in_window y.first y.last row) inside i h);
        room = λ t h. leb→le (load y.trains row (suc t)) y.tracks (each_at y.slots (λ t. roomy y.trains y.tracks row (suc t)) room t h);
      }

  pub is_fitting : Fitting y row → T (fitting y row)
  unfolding in_slots in_time in_window roomy
  is_fitting a =
      tests_fitting (of_true (eq-eqb (length row) y.trains a.long))
      (each_i y.trains (in_slots y.slots row) (λ i h. le_both 1 (slot_of row i) (slot_of row i) y.slots (a.slotted i h)))
      (each_i y.trains (in_window y.first y.last row) (λ i h. le_both (first_slot y i) (slot_of row i) (slot_of row i) (last_slot y i) (a.windowed i h)))
      (each_i y.slots (λ t. roomy y.trains y.tracks row (suc t)) (λ t h. le→leb (load y.trains row (suc t)) y.tracks (a.room t h)))

  -- ---- allowed rows: those that fit and keep the groups. A further condition of `allowed` has its place in these.

  pub allowed_fits : T (allowed y row) → T (fitting y row)
  unfolding allowed
  allowed_fits t = (both_of (fitting y row) (kept y.trains y.groups row) t).0

  pub allowed_keeps : T (allowed y row) → T (kept y.trains y.groups row)
  unfolding allowed
  allowed_keeps t = (both_of (fitting y row) (kept y.trains y.groups row) t).1

  pub fits_allowed : T (fitting y row) → T (kept y.trains y.groups row) → T (allowed y row)
  unfolding allowed
  fits_allowed t k = both (fitting y row) (kept y.trains y.groups row) t k

  pub allowed_is : T (allowed y row) → Fitting y row
  allowed_is t = fitting_is (allowed_fits t)

in_spread : (m x : ℕ) (r : List ℕ) (rows : List (List ℕ)) → 1 ≤ x → x ≤ m → Memᴰ r rows → Memᴰ (x ∷ r) (spread m rows)
unfolding spread
in_spread zero x r rows l h q = absurd (omega arith)
in_spread (suc m) x r rows l h q =
    ⊎_elim
    (λ e. subst (λ y. Memᴰ (y ∷ r) (spread (suc m) rows)) (sym e) (Memᴰ.append_left (spread m rows) (Memᴰ.map (λ r. suc m ∷ r) q)))
    (λ k. Memᴰ.append_right (map (λ r. suc m ∷ r) rows) (in_spread m x r rows l (le_of_suc-le-suc k) q))
    (eq-or-lt_of_le h)

pub in_all_rows : (n m : ℕ) (r : List ℕ) → length r ≡ n → ((i : ℕ) → i < n → (1 ≤ slot_of r i) × (slot_of r i ≤ m)) → Memᴰ r (all_rows n m)
unfolding all_rows
in_all_rows zero m [] e w = Memᴰ.head refl
in_all_rows zero m (x ∷ r) e w = absurd (omega arith)
in_all_rows (suc n) m [] e w = absurd (omega arith)
in_all_rows (suc n) m (x ∷ r) e w =
    let h = w 0 (suc-le-suc zero-le) in
    in_spread m x r (all_rows n m) h.0 h.1 (in_all_rows n m r (omega arith) (λ i h. w (suc i) (suc-le-suc h)))

pub allowed-listed : (y : Yard) (row : List ℕ) → T (allowed y row) → Memᴰ row (all_rows y.trains y.slots)
allowed-listed y row t = let a = allowed_is y row t in in_all_rows y.trains y.slots row a.long a.slotted
