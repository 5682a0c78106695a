-- The moves of a file and the table of boxes of a day: moves that keep the rules make a table all of whose pairs are sound, and the rows
-- of such a table keep them; they determine each other.
-- Assumes nothing.
use Rattle.std.specs.Prelude.{◌≡◌, Bool, true, false, cond, ◌&&◌, ◌⊎◌, leb, eqb, replicate}
use Rattle.std.proofs.Math.Path.{refl, sym, ap, ap₂, subst}
use Rattle.std.proofs.Common.{◌∙◌, div-lt_iff_lt-mul, mod-lt, ltb→lt, lt→ltb, leb→le, le→leb, eqb→eq}
use Rattle.std.proofs.Math.Bool.{not}
use mathlib.Core.List.{List, [], ◌∷◌}
use Rattle.std.proofs.Math.Logic.{inl, inr, ⊎_elim}
use Prim.Native.Nat.{ℕ, zero, suc, ◌+◌, ◌*◌, ◌/◌, ◌%◌, ◌≤◌, ◌<◌}
use Rattle.std.proofs.Math.Nat.{div-add-mod'}
use native.Mathlib.Omega.{arith}
use Rattle.std.proofs.Math.Arith.{digits_div, digits_mod, digits_lt}
use Rattle.std.proofs.Math.Dec.{T, ltb, not_T}
use Rattle.std.proofs.Math.ListN.{length, get_or}
use borrow.Author.Tests.{eq-eqb, ne_eqb, lt-ltb}
use Rattle.fold.specs.Test.{of_true, both, both_of, left, not_of}
use Rattle.fold.specs.Listed.{joined}
use Rattle.day.specs.Sound.{within, move_ranges, pair_sound}
use Rattle.day.specs.SoundLaws.{within_is, is_within}
use Rattle.day.specs.declared.Limits.{Limits}
use Rattle.dayfile.specs.Reading.{field1, field2, field3, position, is_listed, pair_after, place_of, stored_moves}
use Rattle.dayfile.specs.Writing.{move_row, move_rows}
use Rattle.dayfile.specs.Sections.{FineMoves}
use Rattle.dayfile.specs.Trains.{Rising, InLimits}
use Rattle.dayfile.specs.Places.{Listed, position_same, position_there, place_inside, place_row, after_place, place_after}
use Rattle.dayfile.specs.Stored.{In, in_joined, joined_in, Rise, rise_joined, rise_one, zero_sound, Made, Holds, rows_same, table_back, stored_holds}

-- ---- a move that keeps the rules but for its order

record Good (l : Limits) (numbers r : List ℕ) : Type 0 where
  fields : length r ≡ 3
  limits : T (within (move_ranges l) r)
  trains : T (is_listed numbers (field1 r) && is_listed numbers (field2 r) && not (eqb (field1 r) (field2 r)))

-- boxes and the moves that they make, in the order of their places
abbrev Boxes : List ℕ → ℕ → List ℕ → List (List ℕ) → Type 0
Boxes numbers width = Holds (place_of numbers width) (place_of numbers width) field3 (move_row numbers width) (width * width)

-- the moves of a table
abbrev pub moves_of : ℕ → List ℕ → List ℕ → List (List ℕ)
moves_of width boxes numbers = joined (width * width) (move_rows numbers width boxes)

module _ (l : Limits) (numbers : List ℕ) where
  good_listed : (r : List ℕ) → Good l numbers r → Listed numbers r
  good_listed r g =
      let (a, b) = both_of (is_listed numbers (field1 r) && is_listed numbers (field2 r)) (not (eqb (field1 r) (field2 r))) g.trains in
      let (t, f) = both_of (is_listed numbers (field1 r)) (is_listed numbers (field2 r)) a in
      record { to = ltb→lt (position numbers (field1 r)) (length numbers) t; «from» = ltb→lt (position numbers (field2 r)) (length numbers) f }

  good_apart : (r : List ℕ) → Good l numbers r → field1 r ≡ field2 r → ⊥
  good_apart r g e =
      let (a, b) = both_of (is_listed numbers (field1 r) && is_listed numbers (field2 r)) (not (eqb (field1 r) (field2 r))) g.trains in
      not_of (eqb (field1 r) (field2 r)) b (of_true (eq-eqb (field1 r) (field2 r) e))

  -- its numbers and its boxes are at least 1, its boxes at most the limit
  good_boxes : (r : List ℕ) → Good l numbers r → (1 ≤ field1 r) × (1 ≤ field3 r) × (field3 r ≤ l.boxes)
  unfolding move_ranges
  good_boxes [] g = absurd (let e = g.fields in omega arith)
  good_boxes (a ∷ []) g = absurd (let e = g.fields in omega arith)
  good_boxes (a ∷ b ∷ []) g = absurd (let e = g.fields in omega arith)
  good_boxes (a ∷ b ∷ c ∷ r) g =
      let (x, (y, (z, u))) = within_is (move_ranges l) (a ∷ b ∷ c ∷ r) g.limits in
      (x.0, z.0, z.1)

  good_of : (before r : List ℕ) (moves : List (List ℕ)) → FineMoves l numbers before (r ∷ moves) → Good l numbers r
  good_of before r moves f = record { fields = f.0; limits = f.1.0; trains = f.1.1.0 }

  fine_good : (moves : List (List ℕ)) (before : List ℕ) → FineMoves l numbers before moves → (r : List ℕ) → In r moves → Good l numbers r
  fine_good [] before f r x'' = elim x'' [ ]
  fine_good (s ∷ moves) before f r (inl e) = subst (λ (x : List ℕ). Good l numbers x) (sym e) (good_of before s moves f)
  fine_good (s ∷ moves) before f r (inr m) = fine_good moves s f.2 r m

  module _ (width : ℕ) (few : length numbers ≤ width) (up : Rising numbers) where
    abbrev place : List ℕ → ℕ
    place = place_of numbers width

    -- ---- moves that keep the rules: their places rise, so the table holds them

    good_made : (r : List ℕ) → Good l numbers r → Made (place_of numbers width) field3 (move_row numbers width) (width * width) r
    good_made r g = record {
      inside = place_inside numbers width few r (good_listed r g);
      some = (good_boxes r g).1;
      row = place_row numbers width few r g.fields (good_listed r g);
    }

    fine_rise : (moves : List (List ℕ)) (before : List ℕ) (p : ℕ) → ((r : List ℕ) → Listed numbers r → T (pair_after before r) → p ≤ place r)
        → FineMoves l numbers before moves → Rise place p (width * width) moves
    fine_rise [] before p gap f = tt
    fine_rise (r ∷ moves) before p gap f =
        let k = good_listed r (good_of before r moves f) in (
          gap r k f.1.1.1.0,
          place_inside numbers width few r k,
          fine_rise moves r (suc (place r)) (λ s q t. after_place numbers width few up r s k q t) f.2,
        )

    fine_boxes : (moves : List (List ℕ)) → FineMoves l numbers (0 ∷ 0 ∷ 0 ∷ []) moves
        → Boxes numbers width (stored_moves numbers width (replicate (width * width) 0) moves) moves
    fine_boxes moves f =
        let rise = fine_rise moves (0 ∷ 0 ∷ 0 ∷ []) 0 (λ r k t. omega arith) f in
        stored_holds place place field3 (move_row numbers width) (width * width) moves (width * width) rise
        (λ r m. good_made r (fine_good moves (0 ∷ 0 ∷ 0 ∷ []) f r m)) (λ r s. rise_one place moves 0 (width * width) r s rise)

    -- every pair of that table is sound
    pub pairs-sound : (moves : List (List ℕ)) → FineMoves l numbers (0 ∷ 0 ∷ 0 ∷ []) moves → (i j : ℕ) → i < width → j < width
        → T (pair_sound l (length numbers) width (stored_moves numbers width (replicate (width * width) 0) moves) i j)
    unfolding pair_sound
    pairs-sound moves f i j hi hj =
        let table : List ℕ = stored_moves numbers width (replicate (width * width) 0) moves in
        let held = fine_boxes moves f in
        ⊎_elim
        (λ z. rw z (zero_sound (ltb i (length numbers) && ltb j (length numbers) && not (eqb i j)) l.boxes))
        (λ w.
        let (r, m, e) = w in
        let x : get_or table (i * width + j) 0 ≡ field3 r = ap (λ q. get_or table q 0) (sym e) ∙ held.there r m in
        let g = fine_good moves (0 ∷ 0 ∷ 0 ∷ []) f r m in
        let k = good_listed r g in
        let p : position numbers (field1 r) ≡ i =
        sym (digits_div (position numbers (field1 r)) {m = width} {r = position numbers (field2 r)} (omega (arith, k.«from»))) ∙ ap (λ k. k / width) e ∙ digits_div i {m = width} {r = j} hj in
        let s : position numbers (field2 r) ≡ j =
        sym (digits_mod (position numbers (field1 r)) {m = width} {r = position numbers (field2 r)} (omega (arith, k.«from»))) ∙ ap (λ k. k % width) e ∙ digits_mod i {m = width} {r = j} hj in
        let differ : i ≡ j → ⊥ = λ d. good_apart r g (position_same numbers (field1 r) (field2 r) k.to k.«from» (p ∙ d ∙ sym s)) in
        rw (x, lt-ltb i (length numbers) (omega (arith, k.to)), lt-ltb j (length numbers) (omega (arith, k.«from»)), ne_eqb i j differ) (le→leb (field3 r) l.boxes (good_boxes r g).2))
        (held.elsewhere (i * width + j) (digits_lt {q = i} {m = width} {r = j} {c = width} hi hj))

    -- ---- the moves of a table, which come in the order of their places

    rise_fine : (moves : List (List ℕ)) (before : List ℕ) (a b : ℕ) → Rise place a b moves → ((r : List ℕ) → In r moves → Good l numbers r)
        → ((r : List ℕ) → Good l numbers r → a ≤ place r → T (pair_after before r)) → FineMoves l numbers before moves
    rise_fine [] before a b rise good gap = tt
    rise_fine (r ∷ moves) before a b (after, below, rest) good gap =
        let g = good r (inl refl) in (
          g.fields,
          (g.limits, (g.trains, (gap r g after, tt))),
          rise_fine moves r (suc (place r)) b rest (λ s m. good s (inr m)) (λ s o h. place_after numbers width few up r s (good_listed r g) (good_listed s o) h),
        )

    -- x boxes at place q: no row where there are none, else one
    Row : ℕ → ℕ → List (List ℕ) → Type 0
    Row q x rows = ((x ≡ 0) × (rows ≡ [])) ⊎ ((r : List ℕ) × (rows ≡ r ∷ []) × (place r ≡ q) × (field3 r ≡ x) × Good l numbers r)

    row_in_lem : (q x : ℕ) (rows : List (List ℕ)) → Row q x rows → (r : List ℕ) → In r rows → (place r ≡ q) × (field3 r ≡ x) × Good l numbers r
    unfolding Row
    row_in_lem q x [] (inl w) r m = absurd m
    row_in_lem q x (s ∷ rows) (inl w) r m = absurd (omega (arith, ap length w.1))
    row_in_lem q x rows (inr w) r m =
        let (s, e, p, v, g) = w in
        ⊎_elim (λ d. rw d (p, v, g)) absurd (subst (λ (u : List (List ℕ)). In r u) e m)

    -- the rows of a table all of whose pairs are sound
    module _ (boxes : List ℕ) (numbered : InLimits l numbers)
        (sound : (i j : ℕ) → i < width → j < width → T (pair_sound l (length numbers) width boxes i j)) where
      -- boxes that stand at a place pass between two trains
      pair_of : (q x : ℕ) → q < width * width → get_or boxes q 0 ≡ suc x
          → (q / width < length numbers) × (q % width < length numbers) × (q / width ≡ q % width → ⊥) × (suc x ≤ l.boxes)
      unfolding pair_sound
      pair_of q x h e =
          let wide : 0 < width = positive width h in
          let i : ℕ = q / width in
          let j : ℕ = q % width in
          let back : i * width + j ≡ q = div-add-mod' q width in
          let hi : i < width = (div-lt_iff_lt-mul wide).1 h in
          let t = subst (λ k. T (cond (ltb i (length numbers) && ltb j (length numbers) && not (eqb i j)) (leb k l.boxes) (eqb k 0))) (ap (λ k. get_or boxes k 0) back ∙ e) (sound i j hi (mod-lt q wide)) in
          go (ltb i (length numbers) && ltb j (length numbers) && not (eqb i j)) refl t
        where
          positive : (w : ℕ) → q < w * w → 0 < w
          positive zero g = absurd (omega arith)
          positive (suc w) g = omega arith

          go : (b : Bool) → (ltb (q / width) (length numbers) && ltb (q % width) (length numbers) && not (eqb (q / width) (q % width))) ≡ b
              → T (cond b (leb (suc x) l.boxes) (eqb (suc x) 0))
              → (q / width < length numbers) × (q % width < length numbers) × (q / width ≡ q % width → ⊥) × (suc x ≤ l.boxes)
          go true p t =
              let (a, d) = both_of (ltb (q / width) (length numbers) && ltb (q % width) (length numbers)) (not (eqb (q / width) (q % width))) (of_true p) in
              let (u, v) = both_of (ltb (q / width) (length numbers)) (ltb (q % width) (length numbers)) a in
              (ltb→lt _ _ u, ltb→lt _ _ v, λ s. not_of (eqb (q / width) (q % width)) d (of_true (eq-eqb (q / width) (q % width) s)), leb→le (suc x) l.boxes t)
          go false p t = absurd (let z = eqb→eq (suc x) 0 t in omega arith)

      row_at : (q : ℕ) → q < width * width → (x : ℕ) → get_or boxes q 0 ≡ x → Row q x (cond (eqb x 0) [] (move_row numbers width q x ∷ []))
      unfolding Row move_ranges
      row_at q h zero e = inl (refl, refl)
      row_at q h (suc x) e =
          let (hi, hj, differ, most) = pair_of q x h e in
          let i : ℕ = q / width in
          let j : ℕ = q % width in
          let pi = position_there numbers up i hi in
          let pj = position_there numbers up j hj in
          let ni = numbered i hi in
          let nj = numbered j hj in
          rw (ne_eqb (suc x) 0 (λ z. omega arith))
          (inr (
            move_row numbers width q (suc x),
            refl,
            ap₂ (λ a b. a * width + b) pi pj ∙ div-add-mod' q width,
            refl,
            record {
              fields = refl;
              limits = is_within (move_ranges l) (move_row numbers width q (suc x)) (ni, (nj, ((omega arith, most), tt)));
              trains =
                  both (is_listed numbers (get_or numbers i 0) && is_listed numbers (get_or numbers j 0)) (not (eqb (get_or numbers i 0) (get_or numbers j 0)))
                  (both (is_listed numbers (get_or numbers i 0)) (is_listed numbers (get_or numbers j 0)) (rw pi (lt→ltb i (length numbers) hi)) (rw pj (lt→ltb j (length numbers) hj)))
                  (not_T (eqb (get_or numbers i 0) (get_or numbers j 0)) (λ t. differ (sym pi ∙ ap (position numbers) (eqb→eq (get_or numbers i 0) (get_or numbers j 0) t) ∙ pj)));
            },
          ))

      rows_are : (q : ℕ) → q < width * width → Row q (get_or boxes q 0) (move_rows numbers width boxes q)
      unfolding move_rows
      rows_are q h = row_at q h (get_or boxes q 0) refl

      abbrev moves : List (List ℕ)
      moves = moves_of width boxes numbers

      moves_in : (r : List ℕ) → In r moves → (get_or boxes (place r) 0 ≡ field3 r) × Good l numbers r
      moves_in r m =
          let (q, h, n) = joined_in (move_rows numbers width boxes) r (width * width) m in
          let (e, v, g) = row_in_lem q (get_or boxes q 0) (move_rows numbers width boxes q) (rows_are q h) r n in
          (ap (λ k. get_or boxes k 0) e ∙ sym v, g)

      moves_rise : Rise place 0 (width * width) moves
      unfolding Row
      moves_rise =
          rise_joined place (λ i. i) (λ i. omega arith) (move_rows numbers width boxes) (width * width)
          (λ q h. ⊎_elim (λ w. rw w.1 tt) (λ w. let (r, e, p, v, g) = w in rw e (omega (arith, p), omega (arith, p), tt)) (rows_are q h))

      table_boxes : Boxes numbers width boxes moves
      unfolding Row
      table_boxes = record {
        last = width * width;
        rise = moves_rise;
        made = λ r m. good_made r (moves_in r m).1;
        there = λ r m. (moves_in r m).0;
        elsewhere = λ q h.
            ⊎_elim (λ w. inl w.0)
            (λ w.
            let (r, e, p, v, g) = w in
            inr (r, in_joined (move_rows numbers width boxes) r (width * width) q h (subst (λ (u : List (List ℕ)). In r u) (sym e) (inl refl)), p))
            (rows_are q h);
      }

      pub table_fine : FineMoves l numbers (0 ∷ 0 ∷ 0 ∷ []) (moves_of width boxes numbers)
      table_fine =
          rise_fine moves (0 ∷ 0 ∷ 0 ∷ []) 0 (width * width) moves_rise (λ r m. (moves_in r m).1)
          (λ r g h. left (ltb 0 (field1 r)) (eqb 0 (field1 r) && ltb 0 (field2 r)) (lt→ltb 0 (field1 r) (good_boxes r g).0))

      -- the table from its moves
      pub boxes_back : length boxes ≡ width * width → stored_moves numbers width (replicate (width * width) 0) (moves_of width boxes numbers) ≡ boxes
      boxes_back long = table_back place place field3 (move_row numbers width) (width * width) boxes moves long table_boxes

    -- the moves from their table
    pub moves_back : (moves : List (List ℕ)) → InLimits l numbers
        → FineMoves l numbers (0 ∷ 0 ∷ 0 ∷ []) moves → moves_of width (stored_moves numbers width (replicate (width * width) 0) moves) numbers ≡ moves
    moves_back moves numbered f =
        let table : List ℕ = stored_moves numbers width (replicate (width * width) 0) moves in
        rows_same place place field3 (move_row numbers width) (width * width) table (moves_of width table numbers) moves
        (table_boxes table numbered (pairs-sound moves f)) (fine_boxes moves f)
