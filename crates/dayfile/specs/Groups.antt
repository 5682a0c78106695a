-- The groups of a file and the column of a day: rows that keep the rules make a column whose groups are sound, and the rows of such a
-- column keep them; they determine each other.
-- Assumes nothing.
use Rattle.std.specs.Prelude.{◌≡◌, Bool, not, cond, ◌&&◌, ◌⊎◌, leb, replicate}
use Rattle.std.proofs.Math.Path.{refl, ap}
use Rattle.std.proofs.Common.{sym, ap₂, ◌∙◌, subst, ltb→lt, lt→ltb, le→leb}
use Rattle.std.proofs.Math.Bool.{true, false}
use mathlib.Core.List.{List, [], ◌∷◌}
use Rattle.std.proofs.Math.Logic.{inl, inr, ⊎_elim}
use Prim.Native.Nat.{ℕ, zero, suc, ◌+◌, ◌*◌, ◌≤◌, ◌<◌}
use Rattle.std.proofs.Math.Nat.{suc-mul}
use native.Mathlib.Omega.{arith}
use Rattle.std.proofs.Math.Arith.{digits_lt}
use Rattle.std.proofs.Math.Dec.{T, ltb, eqb, leb→le, eqb→eq, not_T}
use Rattle.std.proofs.Math.ListN.{length, get_or}
use borrow.Author.Tests.{eq-eqb, lt-ltb}
use Rattle.fold.specs.Test.{of_true, both, both_of, left, not_of}
use Rattle.fold.specs.Listed.{joined}
use Rattle.model.specs.Model.{group_of}
use Rattle.day.specs.Sound.{within, group_ranges, group_sound}
use Rattle.day.specs.SoundLaws.{is_within}
use Rattle.day.specs.declared.Limits.{Limits}
use Rattle.dayfile.specs.Reading.{field1, field2, position, is_listed, pair_after, stored_groups}
use Rattle.dayfile.specs.Writing.{member_rows, group_rows}
use Rattle.dayfile.specs.Sections.{FineGroups, some_group}
use Rattle.dayfile.specs.Trains.{Rising, InLimits}
use Rattle.dayfile.specs.Places.{number_there, position_same, less_number, less_position, position_there, listed_more, more-listed, later_place, later_pair}
use Rattle.dayfile.specs.Stored.{In, in_joined, joined_in, Rise, rise_wider, rise_joined, rise_from, zero_sound, Made, Holds, rows_same, table_back, stored_holds}

-- ---- a row that keeps the rules but for its order and the other rows' trains

record Member (l : Limits) (numbers r : List ℕ) : Type 0 where
  fields : length r ≡ 2
  limits : T (within (group_ranges l) r)
  train : T (is_listed numbers (field2 r))

-- the rows of a column, of n trains
abbrev pub groups_of : Limits → List ℕ → ℕ → List ℕ → List (List ℕ)
groups_of l groups n numbers = joined l.groups λ g. group_rows n numbers groups (suc g)

two_fields : (r : List ℕ) → length r ≡ 2 → field1 r ∷ field2 r ∷ [] ≡ r
two_fields [] e = absurd (omega arith)
two_fields (a ∷ []) e = absurd (omega arith)
two_fields (a ∷ b ∷ []) e = refl
two_fields (a ∷ b ∷ c ∷ r) e = absurd (omega arith)

module _ (l : Limits) (numbers : List ℕ) where
  -- the position of a row's train, and the row of position i in group g
  abbrev train : List ℕ → ℕ
  train r = position numbers (field2 r)

  abbrev member_row : ℕ → ℕ → List ℕ
  member_row i g = g ∷ get_or numbers i 0 ∷ []

  member_listed : (r : List ℕ) → Member l numbers r → train r < length numbers
  member_listed r g = ltb→lt (train r) (length numbers) g.train

  -- what the check of a row's train and order says
  row_tests : (taken before r : List ℕ) → T (is_listed numbers (field2 r) && not (is_listed taken (field2 r)) && pair_after before r)
      → T (is_listed numbers (field2 r)) × (T (is_listed taken (field2 r)) → ⊥) × T (pair_after before r)
  row_tests taken before r t =
      let (a, c) = both_of (is_listed numbers (field2 r) && not (is_listed taken (field2 r))) (pair_after before r) t in
      let (e, b) = both_of (is_listed numbers (field2 r)) (not (is_listed taken (field2 r))) a in
      (e, not_of (is_listed taken (field2 r)) b, c)

  member_of : (taken before r : List ℕ) (rows : List (List ℕ)) → FineGroups l numbers taken before (r ∷ rows) → Member l numbers r
  member_of taken before r rows f = record { fields = f.0; limits = f.1.0; train = (row_tests taken before r f.1.1.0).0 }

  fine_member : (rows : List (List ℕ)) (taken before : List ℕ) → FineGroups l numbers taken before rows → (r : List ℕ) → In r rows → Member l numbers r
  fine_member [] taken before f r x'' = elim x'' [ ]
  fine_member (s ∷ rows) taken before f r (inl e) = subst (λ (x : List ℕ). Member l numbers x) (sym e) (member_of taken before s rows f)
  fine_member (s ∷ rows) taken before f r (inr m) = fine_member rows (field2 s ∷ taken) s f.2 r m

  -- ---- each train is in one row

  fine_free : (rows : List (List ℕ)) (taken before : List ℕ) → FineGroups l numbers taken before rows → (r : List ℕ) → In r rows → T (is_listed taken (field2 r)) → ⊥
  fine_free [] taken before f r x3 t = elim x3 [ ]
  fine_free (s ∷ rows) taken before f r (inl e) t =
      (row_tests taken before s f.1.1.0).1 (subst (λ (x : List ℕ). T (is_listed taken (field2 x))) e t)
  fine_free (s ∷ rows) taken before f r (inr m) t = fine_free rows (field2 s ∷ taken) s f.2 r m (more-listed (field2 s) taken (field2 r) (inr t))

  fine_once : (rows : List (List ℕ)) (taken before : List ℕ) → FineGroups l numbers taken before rows → (r s : List ℕ) → In r rows → In s rows
      → field2 r ≡ field2 s → r ≡ s
  fine_once [] taken before f r s x4 _ q = elim x4 [ ]
  fine_once (x ∷ rows) taken before f r s (inl d) (inl e) q = d ∙ sym e
  fine_once (x ∷ rows) taken before f r s (inl d) (inr n) q =
      absurd (fine_free rows (field2 x ∷ taken) x f.2 s n (more-listed (field2 x) taken (field2 s) (inl (ap field2 (sym d) ∙ q))))
  fine_once (x ∷ rows) taken before f r s (inr m) (inl e) q =
      absurd (fine_free rows (field2 x ∷ taken) x f.2 r m (more-listed (field2 x) taken (field2 r) (inl (ap field2 (sym e) ∙ sym q))))
  fine_once (x ∷ rows) taken before f r s (inr m) (inr n) q = fine_once rows (field2 x ∷ taken) x f.2 r s m n q

  module _ (width : ℕ) (few : length numbers ≤ width) (up : Rising numbers) where
    -- a row's place in the order of group and train
    abbrev order : List ℕ → ℕ
    order r = field1 r * width + train r

    -- a column and the rows of its groups
    abbrev Column : List ℕ → List (List ℕ) → Type 0
    Column = Holds order train field1 member_row width

    member_made : (r : List ℕ) → Member l numbers r → Made train field1 member_row width r
    member_made r g =
        let h = member_listed r g in
        record {
          inside = omega arith;
          some = (some_group l r g.fields g.limits).0;
          row = rw (number_there numbers (field2 r) h) (two_fields r g.fields);
        }

    -- ---- rows that keep the rules: they rise, so the column holds them

    fine_rise : (rows : List (List ℕ)) (taken before : List ℕ) (p : ℕ)
        → ((r : List ℕ) → Member l numbers r → T (pair_after before r) → p ≤ order r)
        → FineGroups l numbers taken before rows → Rise order p (suc l.groups * width) rows
    fine_rise [] taken before p gap f = tt
    fine_rise (r ∷ rows) taken before p gap f =
        let g = member_of taken before r rows f in
        let h = member_listed r g in
        let most = (some_group l r g.fields g.limits).1 in (
          gap r g (row_tests taken before r f.1.1.0).2,
          digits_lt {q = field1 r} {m = suc l.groups} {r = train r} {c = width} (omega arith) (omega arith),
          fine_rise rows (field2 r ∷ taken) r (suc (order r))
              (λ s o t.
              later_place width r s (field1 r) (train r) (field1 s) (train s) (omega arith) (λ a. a) (λ e. e)
              (less_position numbers (field2 r) (field2 s) h (member_listed s o) up) t)
              f.2,
        )

    fine_column : (rows : List (List ℕ)) → FineGroups l numbers [] (0 ∷ 0 ∷ []) rows → Column (stored_groups numbers (replicate width 0) rows) rows
    fine_column rows f =
        let member = fine_member rows [] (0 ∷ 0 ∷ []) f in
        stored_holds order train field1 member_row width rows (suc l.groups * width)
        (fine_rise rows [] (0 ∷ 0 ∷ []) 0 (λ r g t. omega arith) f) (λ r m. member_made r (member r m))
        (λ r s m n e.
        fine_once rows [] (0 ∷ 0 ∷ []) f r s m n
        (position_same numbers (field2 r) (field2 s) (member_listed r (member r m)) (member_listed s (member s n)) e))

    -- every group of that column is sound
    pub groups_sound : (rows : List (List ℕ)) → FineGroups l numbers [] (0 ∷ 0 ∷ []) rows → (i : ℕ) → i < width
        → T (group_sound l (length numbers) (stored_groups numbers (replicate width 0) rows) i)
    unfolding group_sound
    groups_sound rows f i h =
        let column : List ℕ = stored_groups numbers (replicate width 0) rows in
        let held = fine_column rows f in
        ⊎_elim
        (λ z. rw z (zero_sound (ltb i (length numbers)) l.groups))
        (λ w.
        let (r, m, e) = w in
        let x : get_or column i 0 ≡ field1 r = ap (λ q. get_or column q 0) (sym e) ∙ held.there r m in
        let g = fine_member rows [] (0 ∷ 0 ∷ []) f r m in
        rw (x, lt-ltb i (length numbers) (omega (arith, e, member_listed r g))) (le→leb (field1 r) l.groups (some_group l r g.fields g.limits).1))
        (held.elsewhere i h)

    -- ---- the rows of a column, which come in the order of group and train

    module _ (column : List ℕ) (numbered : InLimits l numbers)
        (sound : (i : ℕ) → i < width → T (group_sound l (length numbers) column i)) where
      abbrev rows_in : ℕ → List (List ℕ)
      rows_in g = group_rows (length numbers) numbers column (suc g)

      abbrev rows : List (List ℕ)
      rows = groups_of l column (length numbers) numbers

      -- each train has one group, and its row comes in its order, so no train is in two rows
      rise_fine : (rows : List (List ℕ)) (taken before : List ℕ) (a b : ℕ) → Rise order a b rows
          → ((r : List ℕ) → In r rows → Member l numbers r × (group_of column (train r) ≡ field1 r))
          → ((r : List ℕ) → In r rows → T (is_listed taken (field2 r)) → ⊥)
          → ((r : List ℕ) → Member l numbers r → a ≤ order r → T (pair_after before r)) → FineGroups l numbers taken before rows
      rise_fine [] taken before a b rise held free gap = tt
      rise_fine (r ∷ rows) taken before a b (after, below, rest) held free gap =
          let (g, x) = held r (inl refl) in (
            g.fields,
            (
              g.limits,
              (
                both (is_listed numbers (field2 r) && not (is_listed taken (field2 r))) (pair_after before r)
                    (both (is_listed numbers (field2 r)) (not (is_listed taken (field2 r))) g.train (not_T (is_listed taken (field2 r)) (free r (inl refl))))
                    (gap r g after),
                tt,
              ),
            ),
            rise_fine rows (field2 r ∷ taken) r (suc (order r)) b rest (λ s m. held s (inr m))
                (λ s m t.
                ⊎_elim
                (λ e.
                let (o, z) = held s (inr m) in
                let same : order r ≡ order s =
                ap₂ (λ k i. k * width + i) (sym x ∙ ap (λ k. group_of column (position numbers k)) e ∙ z) (ap (position numbers) e) in
                omega (arith, rise_from order rows (suc (order r)) b s rest m))
                (free s (inr m))
                (listed_more (field2 r) taken (field2 s) t))
                (λ s o h.
                later_pair width r s (field1 r) (train r) (field1 s) (train s) (omega (arith, member_listed s o)) (λ a. a) (λ e. e)
                (less_number numbers (field2 r) (field2 s) (member_listed r g) (member_listed s o) up) h),
          )

      -- the row of position i in group g + 1
      made_member : (g i : ℕ) → g < l.groups → i < length numbers → Member l numbers (member_row i (suc g)) × (train (member_row i (suc g)) ≡ i)
      unfolding group_ranges
      made_member g i h m =
          let p = position_there numbers up i m in (
            record {
              fields = refl;
              limits = is_within (group_ranges l) (member_row i (suc g)) ((omega arith, h), (numbered i m, tt));
              train = rw p (lt→ltb i (length numbers) m);
            },
            p,
          )

      member_in : (g i : ℕ) (r : List ℕ) → In r (member_rows numbers column g i) → (group_of column i ≡ g) × (r ≡ member_row i g)
      unfolding member_rows
      member_in g i r m = go (eqb (group_of column i) g) refl m
        where
          go : (b : Bool) → eqb (group_of column i) g ≡ b → In r (cond b (member_row i g ∷ []) []) → (group_of column i ≡ g) × (r ≡ member_row i g)
          go true e (inl d) = (eqb→eq (group_of column i) g (of_true e), d)
          go true e (inr n) = absurd n
          go false e m = absurd m

      rows_in_lem : (r : List ℕ) → In r rows → Member l numbers r × (group_of column (train r) ≡ field1 r)
      unfolding group_rows
      rows_in_lem r m =
          let (g, h, n) = joined_in rows_in r l.groups m in
          let (i, k, o) = joined_in (member_rows numbers column (suc g)) r (length numbers) n in
          let (x, e) = member_in (suc g) i r o in
          let (good, p) = made_member g i h k in
          rw e (good, ap (group_of column) p ∙ x)

      rows_rise : Rise order (1 * width) (suc l.groups * width) rows
      unfolding group_rows member_rows
      rows_rise =
          rise_joined order (λ g. suc g * width) (λ g. omega (arith, suc-mul (suc g) width)) rows_in l.groups
          (λ g h.
          rise_wider order (rows_in g) (suc g * width + 0) (suc g * width + length numbers) (suc g * width) (suc (suc g) * width)
          (omega arith) (omega (arith, suc-mul (suc g) width))
          (rise_joined order (λ i. suc g * width + i) (λ i. omega arith) (member_rows numbers column (suc g)) (length numbers)
          (λ i m. one g i (eqb (group_of column i) (suc g)) (made_member g i h m).1)))
        where
          one : (g i : ℕ) (b : Bool) → train (member_row i (suc g)) ≡ i
              → Rise order (suc g * width + i) (suc g * width + suc i) (cond b (member_row i (suc g) ∷ []) [])
          one g i true e = (omega (arith, e), omega (arith, e), tt)
          one g i false e = tt

      -- a position with a group has a train
      group_of_lem : (i g : ℕ) → i < width → group_of column i ≡ suc g → (i < length numbers) × (g < l.groups)
      unfolding group_sound
      group_of_lem i g h e =
          go (ltb i (length numbers)) refl (subst (λ k. T (cond (ltb i (length numbers)) (leb k l.groups) (eqb k 0))) e (sound i h))
        where
          go : (b : Bool) → ltb i (length numbers) ≡ b → T (cond b (leb (suc g) l.groups) (eqb (suc g) 0)) → (i < length numbers) × (g < l.groups)
          go true p t = (ltb→lt i (length numbers) (of_true p), leb→le (suc g) l.groups t)
          go false p t = absurd (let z = eqb→eq (suc g) 0 t in omega arith)

      there : (i x : ℕ) → i < width → group_of column i ≡ x → (group_of column i ≡ 0) ⊎ ((r : List ℕ) × In r rows × (train r ≡ i))
      unfolding group_rows member_rows
      there i zero h e = inl e
      there i (suc g) h e =
          let (m, low) = group_of_lem i g h e in
          let r : List ℕ = member_row i (suc g) in
          inr (
            r,
            in_joined rows_in r l.groups g low
                (in_joined (member_rows numbers column (suc g)) r (length numbers) i m (rw (eq-eqb (group_of column i) (suc g) e) (inl refl))),
            (made_member g i low m).1,
          )

      column_rows : Column column rows
      column_rows = record {
        last = suc l.groups * width;
        rise = rise_wider order rows (1 * width) (suc l.groups * width) 0 (suc l.groups * width) (omega arith) (omega arith) rows_rise;
        made = λ r m. member_made r (rows_in_lem r m).0;
        there = λ r m. (rows_in_lem r m).1;
        elsewhere = λ i h. there i (group_of column i) h refl;
      }

      pub column_fine : FineGroups l numbers [] (0 ∷ 0 ∷ []) (groups_of l column (length numbers) numbers)
      column_fine =
          rise_fine rows [] (0 ∷ 0 ∷ []) (1 * width) (suc l.groups * width) rows_rise rows_in_lem (λ r m t. omega (arith, ltb→lt (position [] (field2 r)) 0 t))
          (λ r g h. left (ltb 0 (field1 r)) (eqb 0 (field1 r) && ltb 0 (field2 r)) (lt→ltb 0 (field1 r) (some_group l r g.fields g.limits).0))

      -- the column from its rows
      pub groups_back : length column ≡ width → stored_groups numbers (replicate width 0) (groups_of l column (length numbers) numbers) ≡ column
      groups_back long = table_back order train field1 member_row width column rows long column_rows

    -- the rows from their column
    pub members_back : (members : List (List ℕ)) → InLimits l numbers
        → FineGroups l numbers [] (0 ∷ 0 ∷ []) members → groups_of l (stored_groups numbers (replicate width 0) members) (length numbers) numbers ≡ members
    members_back members numbered f =
        let column : List ℕ = stored_groups numbers (replicate width 0) members in
        rows_same order train field1 member_row width column (groups_of l column (length numbers) numbers) members
        (column_rows column numbered (groups_sound members f)) (fine_column members f)
