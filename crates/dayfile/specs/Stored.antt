-- Rows in some order and the table that they are stored in, each with its value at its place, determine each other: the moves and the
-- table of boxes, the groups and their column.
-- Assumes nothing.
use Rattle.std.specs.Prelude.{◌≡◌, Bool, true, false, cond, ◌⊎◌, ◌≢◌, T, leb, eqb, length, set, replicate}
use Rattle.std.proofs.Math.Path.{refl, sym, ap}
use Rattle.std.proofs.Common.{ap₂, ◌∙◌, subst, le_trans, le→leb, ext_get_or}
use mathlib.Core.List.{List, [], ◌∷◌, ◌++◌}
use Rattle.std.proofs.Math.Logic.{inl, inr, ⊎_elim}
use Prim.Native.Nat.{ℕ, zero, suc, ◌≤◌, ◌<◌}
use Rattle.std.proofs.Math.Nat.{le_refl}
use native.Mathlib.Omega.{arith}
use Rattle.std.proofs.Math.ListN.{get_or, length-set}
use Rattle.std.proofs.lemmas.List.{length-replicate, get_or-replicate}
use Rattle.std.proofs.Math.Seq.{get_or-set_same, get_or-set_other}
use Rattle.fold.specs.Fold.{below_suc}
use Rattle.fold.specs.Counting.{same_or}
use Rattle.fold.specs.Listed.{joined}
use Rattle.dayfile.specs.Reading.{stored}

-- ---- the rows of a list

abbrev pub In : List ℕ → List (List ℕ) → Type 0
In r [] = ⊥
In r (s ∷ rows) = (r ≡ s) ⊎ In r rows

in_front : (r : List ℕ) (xs ys : List (List ℕ)) → In r xs → In r (xs ++ ys)
in_front r [] ys x' = elim x' [ ]
in_front r (x ∷ xs) ys (inl e) = inl e
in_front r (x ∷ xs) ys (inr m) = inr (in_front r xs ys m)

in_behind : (r : List ℕ) (xs ys : List (List ℕ)) → In r ys → In r (xs ++ ys)
in_behind r [] ys m = m
in_behind r (x ∷ xs) ys m = inr (in_behind r xs ys m)

in_either : (r : List ℕ) (xs ys : List (List ℕ)) → In r (xs ++ ys) → In r xs ⊎ In r ys
in_either r [] ys m = inr m
in_either r (x ∷ xs) ys (inl e) = inl (inl e)
in_either r (x ∷ xs) ys (inr m) = ⊎_elim (λ a. inl (inr a)) inr (in_either r xs ys m)

module _ (f : ℕ → List (List ℕ)) (r : List ℕ) where
  pub in_joined : (k i : ℕ) → i < k → In r (f i) → In r (joined k f)
  unfolding joined
  in_joined zero i h m = absurd (omega arith)
  in_joined (suc k) i h m =
      below_suc (λ i. In r (f i) → In r (joined k f ++ f k)) k (λ i l m. in_front r (joined k f) (f k) (in_joined k i l m)) (in_behind r (joined k f) (f k)) i h m

  pub joined_in : (k : ℕ) → In r (joined k f) → (i : ℕ) × (i < k) × In r (f i)
  unfolding joined
  joined_in zero m = absurd m
  joined_in (suc k) m =
      ⊎_elim (λ a. let (i, h, n) = joined_in k a in (i, omega arith, n)) (λ b. (k, le_refl (suc k), b)) (in_either r (joined k f) (f k) m)

-- ---- rows that rise in an order, from a on and below b

abbrev pub Rise : (List ℕ → ℕ) → ℕ → ℕ → List (List ℕ) → Type 0
Rise order a b [] = Unit
Rise order a b (r ∷ rows) = (a ≤ order r) × (order r < b) × Rise order (suc (order r)) b rows

module _ (order : List ℕ → ℕ) where
  pub rise_wider : (rows : List (List ℕ)) (a b c d : ℕ) → c ≤ a → b ≤ d → Rise order a b rows → Rise order c d rows
  rise_wider [] a b c d h g f = tt
  rise_wider (r ∷ rows) a b c d h g (after, below, rest) =
      (le_trans h after, le_trans below g, rise_wider rows (suc (order r)) b (suc (order r)) d (le_refl (suc (order r))) g rest)

  rise_append : (xs ys : List (List ℕ)) (a b c : ℕ) → a ≤ b → b ≤ c → Rise order a b xs → Rise order b c ys → Rise order a c (xs ++ ys)
  rise_append [] ys a b c h g f e = rise_wider ys b c a c h (le_refl c) e
  rise_append (x ∷ xs) ys a b c h g (after, below, rest) e = (after, le_trans below g, rise_append xs ys (suc (order x)) b c below g rest e)

  -- lists one behind the other, the list i from h i on and below h (i + 1)
  module _ (h : ℕ → ℕ) (up : (i : ℕ) → h i ≤ h (suc i)) (f : ℕ → List (List ℕ)) where
    from_first : (k : ℕ) → h 0 ≤ h k
    from_first zero = le_refl (h 0)
    from_first (suc k) = le_trans (from_first k) (up k)

    pub rise_joined : (k : ℕ) → ((i : ℕ) → i < k → Rise order (h i) (h (suc i)) (f i)) → Rise order (h 0) (h k) (joined k f)
    unfolding joined
    rise_joined zero e = tt
    rise_joined (suc k) e =
        rise_append (joined k f) (f k) (h 0) (h k) (h (suc k)) (from_first k) (up k) (rise_joined k (λ i l. e i (omega arith))) (e k (le_refl (suc k)))

  pub rise_from : (rows : List (List ℕ)) (a b : ℕ) (r : List ℕ) → Rise order a b rows → In r rows → a ≤ order r
  rise_from [] a b r _ x3 = elim x3 [ ]
  rise_from (x ∷ rows) a b r (after, below, rest) (inl e) = rw e after
  rise_from (x ∷ rows) a b r (after, below, rest) (inr m) = omega (arith, rise_from rows (suc (order x)) b r rest m)

  -- each place of the order is one row's
  pub rise_one : (rows : List (List ℕ)) (a b : ℕ) (r s : List ℕ) → Rise order a b rows → In r rows → In s rows → order r ≡ order s → r ≡ s
  rise_one [] a b r s _ x5 _ q = elim x5 [ ]
  rise_one (x ∷ rows) a b r s (after, below, rest) (inl d) (inl e) q = d ∙ sym e
  rise_one (x ∷ rows) a b r s (after, below, rest) (inl d) (inr n) q = absurd (omega (arith, ap order d, rise_from rows (suc (order x)) b s rest n))
  rise_one (x ∷ rows) a b r s (after, below, rest) (inr m) (inl e) q = absurd (omega (arith, ap order e, rise_from rows (suc (order x)) b r rest m))
  rise_one (x ∷ rows) a b r s (after, below, rest) (inr m) (inr n) q = rise_one rows (suc (order x)) b r s rest m n q

  -- so two lists that rise and have the same rows are equal
  rise_same : (xs ys : List (List ℕ)) (a b c d : ℕ) → Rise order a b xs → Rise order c d ys
      → ((r : List ℕ) → In r xs → In r ys) → ((r : List ℕ) → In r ys → In r xs) → xs ≡ ys
  rise_same [] [] a b c d e f to back = refl
  rise_same [] (y ∷ ys) a b c d e f to back = absurd (back y (inl refl))
  rise_same (x ∷ xs) [] a b c d e f to back = absurd (to x (inl refl))
  rise_same (x ∷ xs) (y ∷ ys) a b c d e f to back =
      ap₂ (λ (r : List ℕ) (rows : List (List ℕ)). r ∷ rows) first
      (rise_same xs ys (suc (order x)) b (suc (order y)) d e.2 f.2
      (λ r m. ⊎_elim (λ q. absurd (omega (arith, ap order (q ∙ sym first), rise_from xs (suc (order x)) b r e.2 m))) (λ n. n) (to r (inr m)))
      (λ r m. ⊎_elim (λ q. absurd (omega (arith, ap order (q ∙ first), rise_from ys (suc (order y)) d r f.2 m))) (λ n. n) (back r (inr m))))
    where
      first : x ≡ y
      first =
          ⊎_elim (λ q. q)
          (λ m. ⊎_elim sym (λ n. absurd (omega (arith, rise_from ys (suc (order y)) d x f.2 m, rise_from xs (suc (order x)) b y e.2 n))) (back y (inl refl)))
          (to x (inl refl))

-- ---- the table

module _ (place value : List ℕ → ℕ) where
  pub length-stored : (rows : List (List ℕ)) (table : List ℕ) → length (stored place value table rows) ≡ length table
  unfolding stored
  length-stored [] table = refl
  length-stored (r ∷ rows) table = length-stored rows (set table (place r) (value r)) ∙ length-set table (place r) (value r)

  -- at a place that no row has it is unchanged; else it has the value of a row of that place
  stored_at : (rows : List (List ℕ)) (table : List ℕ) (q : ℕ) → q < length table
      → (((r : List ℕ) → In r rows → place r ≡ q → ⊥) × (get_or (stored place value table rows) q 0 ≡ get_or table q 0))
      ⊎ ((r : List ℕ) × In r rows × (place r ≡ q) × (get_or (stored place value table rows) q 0 ≡ value r))
  unfolding stored
  stored_at [] table q h = inl (λ r m e. m, refl)
  stored_at (r ∷ rows) table q h =
      ⊎_elim
      (λ w.
      let (none, same) = w in
      ⊎_elim
      (λ (e : q ≡ place r). inr (r, inl refl, sym e, same ∙ ap (λ k. get_or (set table (place r) (value r)) k 0) e ∙ get_or-set_same table (place r) (value r) 0 (omega arith)))
      (λ (d : q ≢ place r).
      inl (λ s m e. ⊎_elim (λ z. d (sym e ∙ ap place z)) (λ n. none s n e) m, same ∙ get_or-set_other table (place r) q (value r) 0 d))
      (same_or q (place r)))
      (λ w. let (s, m, e, v) = w in inr (s, inr m, e, v))
      (stored_at rows (set table (place r) (value r)) q (omega (arith, length-set table (place r) (value r))))

-- 0 passes the test of an entry, whether or not there may be a value
pub zero_sound : (b : Bool) (greatest : ℕ) → T (cond b (leb 0 greatest) (eqb 0 0))
zero_sound true greatest = le→leb 0 greatest (omega arith)
zero_sound false greatest = tt

-- ---- rows and a table that hold the same

-- a row that is known by its place and its value, which is not 0
pub record Made (place value : List ℕ → ℕ) (make : ℕ → ℕ → List ℕ) (size : ℕ) (r : List ℕ) : Type 0 where
  pub inside : place r < size
  pub some : 1 ≤ value r
  pub row : make (place r) (value r) ≡ r

-- `table` has each row's value at its place, and elsewhere 0
pub record Holds (order place value : List ℕ → ℕ) (make : ℕ → ℕ → List ℕ) (size : ℕ) (table : List ℕ) (rows : List (List ℕ)) : Type 0 where
  pub last : ℕ
  pub rise : Rise order 0 last rows
  pub made : (r : List ℕ) → In r rows → Made place value make size r
  pub there : (r : List ℕ) → In r rows → get_or table (place r) 0 ≡ value r
  pub elsewhere : (q : ℕ) → q < size → (get_or table q 0 ≡ 0) ⊎ ((r : List ℕ) × In r rows × (place r ≡ q))

module _ (order place value : List ℕ → ℕ) (make : ℕ → ℕ → List ℕ) (size : ℕ) where
  -- what one list has, every other list of the same table has
  holds_in : (table : List ℕ) (xs ys : List (List ℕ)) → Holds order place value make size table xs → Holds order place value make size table ys
      → (r : List ℕ) → In r xs → In r ys
  holds_in table xs ys f g r m =
      let a = f.made r m in
      ⊎_elim (λ z. absurd (omega (arith, a.some, f.there r m)))
      (λ w.
      let (s, n, e) = w in
      let v : value s ≡ value r = sym (g.there s n) ∙ ap (λ q. get_or table q 0) e ∙ f.there r m in
      subst (λ (x : List ℕ). In x ys) (sym (g.made s n).row ∙ ap₂ make e v ∙ a.row) n)
      (g.elsewhere (place r) a.inside)

  -- so a table has one list of rows
  pub rows_same : (table : List ℕ) (xs ys : List (List ℕ)) → Holds order place value make size table xs → Holds order place value make size table ys → xs ≡ ys
  rows_same table xs ys f g = rise_same order xs ys 0 f.last 0 g.last f.rise g.rise (holds_in table xs ys f g) (holds_in table ys xs g f)

  -- and the rows' table is the one that they are stored in
  pub table_back : (table : List ℕ) (rows : List (List ℕ)) → length table ≡ size → Holds order place value make size table rows
      → stored place value (replicate size 0) rows ≡ table
  table_back table rows long f =
      let zeros = length-replicate {A = ℕ} size 0 in
      ext_get_or 0 (stored place value (replicate size 0) rows) table (length-stored place value rows (replicate size 0) ∙ zeros ∙ sym long)
      (λ q h.
      let l : q < size = omega (arith, h, length-stored place value rows (replicate size 0), zeros) in
      ⊎_elim
      (λ w.
      let (none, same) = w in
      same ∙ get_or-replicate size q 0 0 l ∙ ⊎_elim sym (λ u. let (r, m, e) = u in absurd (none r m e)) (f.elsewhere q l))
      (λ w. let (r, m, e, v) = w in v ∙ sym (f.there r m) ∙ ap (λ k. get_or table k 0) e)
      (stored_at place value rows (replicate size 0) q (omega arith)))

  -- rows of which no two have one place are held by the table that they are stored in
  pub stored_holds : (rows : List (List ℕ)) (last : ℕ) → Rise order 0 last rows → ((r : List ℕ) → In r rows → Made place value make size r)
      → ((r s : List ℕ) → In r rows → In s rows → place r ≡ place s → r ≡ s) → Holds order place value make size (stored place value (replicate size 0) rows) rows
  stored_holds rows last rise made once = record {
    last = last;
    rise = rise;
    made = made;
    there = λ r m. ⊎_elim (λ w. absurd (w.0 r m refl)) (λ w. let (s, n, e, v) = w in v ∙ ap value (once s r n m e)) (at (place r) (made r m).inside);
    elsewhere = λ q l. ⊎_elim (λ w. inl (w.1 ∙ get_or-replicate size q 0 0 l)) (λ w. let (r, m, e, v) = w in inr (r, m, e)) (at q l);
  }
    where
      at : (q : ℕ) → q < size
          → (((r : List ℕ) → In r rows → place r ≡ q → ⊥) × (get_or (stored place value (replicate size 0) rows) q 0 ≡ get_or (replicate size 0) q 0))
          ⊎ ((r : List ℕ) × In r rows × (place r ≡ q) × (get_or (stored place value (replicate size 0) rows) q 0 ≡ value r))
      at q l = stored_at place value rows (replicate size 0) q (omega (arith, length-replicate {A = ℕ} size 0))
