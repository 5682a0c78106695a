-- The trains of a file and of a day: rows that keep the rules make sound positions, and sound positions give such rows; the rows and
-- the three lists of the record determine each other.
-- Assumes nothing.
use Rattle.std.specs.Prelude.{◌≡◌, cond, ◌&&◌, leb, get_or}
use Rattle.std.proofs.Math.Path.{refl, ap, subst}
use Rattle.std.proofs.Common.{sym, ◌∙◌, le_of_suc-le-suc, eq-or-lt_of_le, arith, ltb→lt, length-append, ext_get_or, lt-ltb, le-ltb}
use mathlib.Core.List.{List, [], ◌∷◌, ◌++◌, map}
use Rattle.std.proofs.Math.Logic.{⊎_elim}
use Prim.Native.Nat.{ℕ, zero, suc, ◌+◌, ◌-◌, ◌≤◌, ◌<◌}
use Rattle.std.proofs.Math.Dec.{T, ltb}
use Rattle.std.proofs.Math.ListN.{length, replicate, get_or-map, get_or-eq_default}
use Rattle.std.proofs.lemmas.List.{length-replicate, length-map}
use Rattle.fold.specs.Test.{both, both_of}
use Rattle.fold.specs.Counting.{le_or_lt}
use Rattle.fold.specs.Listed.{listed, length-listed, listed_at}
use Rattle.day.specs.AnswerLaws.{AllHold}
use Rattle.day.specs.Sound.{within, train_ranges, train_row, number_before, train_sound, unused, position_sound}
use Rattle.day.specs.SoundLaws.{Within, within_is}
use Rattle.day.specs.declared.Limits.{Limits}
use Rattle.dayfile.specs.Reading.{field1, field2, field3, train_checks, numbers_of, padded}
use Rattle.dayfile.specs.Sections.{FineTrains}

-- ---- lists padded with zeros

pub padded-at : (l : List ℕ) (m i : ℕ) → get_or (l ++ replicate m 0) i 0 ≡ get_or l i 0
padded-at [] zero i = refl
padded-at [] (suc m) zero = refl
padded-at [] (suc m) (suc i) = padded-at [] m i
padded-at (x ∷ l) m zero = refl
padded-at (x ∷ l) m (suc i) = padded-at l m i

pub length-padded : (width : ℕ) (l : List ℕ) → length l ≤ width → length (padded width l) ≡ width
length-padded width l h = length-append l (replicate (width - length l) 0) ∙ ap (λ (k : ℕ). length l + k) (length-replicate (width - length l) 0) ∙ omega arith

-- a row of three values is that of its fields
pub three_fields : (r : List ℕ) → length r ≡ 3 → field1 r ∷ field2 r ∷ field3 r ∷ [] ≡ r
three_fields [] e = absurd (omega arith)
three_fields (a ∷ []) e = absurd (omega arith)
three_fields (a ∷ b ∷ []) e = absurd (omega arith)
three_fields (a ∷ b ∷ c ∷ []) e = refl
three_fields (a ∷ b ∷ c ∷ d ∷ r) e = absurd (omega arith)

-- ---- rows by their index

-- the train number of the row before the row j
abbrev pub row_before : ℕ → List (List ℕ) → ℕ → ℕ
row_before before rows zero = before
row_before before rows (suc j) = field1 (get_or rows j [])

module _ (l : Limits) (slots : ℕ) where
  pub trains_at : (rows : List (List ℕ)) (before : ℕ) → FineTrains l slots before rows → (j : ℕ) → j < length rows
      → (length (get_or rows j []) ≡ 3) × AllHold (train_checks l slots (row_before before rows j) 0 (get_or rows j []))
  trains_at [] before f j h = absurd (omega arith)
  trains_at (r ∷ rows) before f zero h = (f.0, f.1)
  trains_at (r ∷ rows) before f (suc zero) h = trains_at rows (field1 r) f.2 zero (omega arith)
  trains_at (r ∷ rows) before f (suc (suc j)) h = trains_at rows (field1 r) f.2 (suc j) (omega arith)

  pub trains_from : (rows : List (List ℕ)) (before : ℕ)
      → ((j : ℕ) → j < length rows → (length (get_or rows j []) ≡ 3) × AllHold (train_checks l slots (row_before before rows j) 0 (get_or rows j [])))
      → FineTrains l slots before rows
  trains_from [] before h = tt
  trains_from (r ∷ rows) before h =
      let (a, b) = h 0 (omega arith) in
      (a, b, trains_from rows (field1 r) (λ j g. shift j (h (suc j) (omega arith))))
    where
      shift : (j : ℕ) → (length (get_or rows j []) ≡ 3) × AllHold (train_checks l slots (field1 (get_or (r ∷ rows) j [])) 0 (get_or rows j []))
          → (length (get_or rows j []) ≡ 3) × AllHold (train_checks l slots (row_before (field1 r) rows j) 0 (get_or rows j []))
      shift zero p = p
      shift (suc j) p = p

-- ---- numbers that rise

abbrev pub Rising : List ℕ → Type 0
Rising numbers = (i j : ℕ) → i < j → j < length numbers → get_or numbers i 0 < get_or numbers j 0

number_at : (rows : List (List ℕ)) (i : ℕ) → get_or (numbers_of rows) i 0 ≡ field1 (get_or rows i [])
number_at rows i = get_or-map field1 rows i []

pub rising : (l : Limits) (slots : ℕ) (rows : List (List ℕ)) → FineTrains l slots 0 rows → Rising (numbers_of rows)
rising l slots rows f i zero h g = absurd (omega arith)
rising l slots rows f i (suc j) h g =
    let b = length-map rows field1 in
    let (a, (w, (up, t))) = trains_at l slots rows 0 f (suc j) (omega arith) in
    let u : get_or (numbers_of rows) j 0 < get_or (numbers_of rows) (suc j) 0 =
    rw (number_at rows j, number_at rows (suc j)) (ltb→lt (field1 (get_or rows j [])) (field1 (get_or rows (suc j) [])) up) in
    ⊎_elim (λ (e : i ≡ j). rw e u) (λ (m : i < j). let r = rising l slots rows f i j m (omega arith) in omega arith) (eq-or-lt_of_le (le_of_suc-le-suc h))

-- numbers that lie in 1 to their limit
abbrev pub InLimits : Limits → List ℕ → Type 0
InLimits l numbers = (i : ℕ) → i < length numbers → (1 ≤ get_or numbers i 0) × (get_or numbers i 0 ≤ l.number)

pub in_limits_lem : (l : Limits) (slots : ℕ) (rows : List (List ℕ)) → FineTrains l slots 0 rows → InLimits l (numbers_of rows)
unfolding train_ranges
in_limits_lem l slots rows f i h =
    let (e, (inside, t)) = trains_at l slots rows 0 f i (omega (arith, length-map rows field1)) in
    rw (number_at rows i) (first (get_or rows i []) e (within_is (train_ranges l slots) (get_or rows i []) inside))
  where
    first : (r : List ℕ) → length r ≡ 3 → Within (train_ranges l slots) r → (1 ≤ field1 r) × (field1 r ≤ l.number)
    first [] e w = absurd (omega arith)
    first (a ∷ r) e w = w.0

-- ---- from rows to the record's lists

module _ (l : Limits) (slots : ℕ) (rows : List (List ℕ)) (m : ℕ) where
  -- the fields of position i are those of its row, zeros where there is none
  column : (g : List ℕ → ℕ) (i : ℕ) → g [] ≡ 0 → get_or (map g rows ++ replicate m 0) i 0 ≡ g (get_or rows i [])
  column g i z = padded-at (map g rows) m i ∙ ap (get_or (map g rows) i) (sym z) ∙ get_or-map g rows i []

  pub train_row_lem : (i : ℕ) → length (get_or rows i []) ≡ 3
      → train_row (map field1 rows ++ replicate m 0) (map field2 rows ++ replicate m 0) (map field3 rows ++ replicate m 0) i ≡ get_or rows i []
  train_row_lem i e = rw (column field1 i refl, column field2 i refl, column field3 i refl) (three_fields (get_or rows i []) e)

  number-before : (i : ℕ) → number_before (map field1 rows ++ replicate m 0) i ≡ row_before 0 rows i
  unfolding number_before
  number-before zero = refl
  number-before (suc j) = column field1 j refl

  pub positions_sound : FineTrains l slots 0 rows → (i : ℕ)
      → T (position_sound l (length rows) slots (map field1 rows ++ replicate m 0) (map field2 rows ++ replicate m 0) (map field3 rows ++ replicate m 0) i)
  unfolding position_sound train_sound unused
  positions_sound f i = ⊎_elim (λ (g : length rows ≤ i). rw (le-ltb i (length rows) g) (idle g)) (λ (g : i < length rows). rw (lt-ltb i (length rows) g) (busy g)) (le_or_lt (length rows) i)
    where
      idle : length rows ≤ i → T (unused (map field1 rows ++ replicate m 0) (map field2 rows ++ replicate m 0) (map field3 rows ++ replicate m 0) i)
      idle g =
          rw (column field1 i refl, column field2 i refl, column field3 i refl, get_or-eq_default rows [] g) tt

      busy : i < length rows → T (train_sound l slots (map field1 rows ++ replicate m 0) (map field2 rows ++ replicate m 0) (map field3 rows ++ replicate m 0) i)
      busy g =
          let (e, (inside, (up, (window, t)))) = trains_at l slots rows 0 f i g in
          let r : List ℕ = get_or rows i [] in
          rw (train_row_lem i e, number-before i, column field1 i refl, column field2 i refl, column field3 i refl)
          (both (within (train_ranges l slots) r && ltb (row_before 0 rows i) (field1 r)) (leb (field2 r) (field3 r))
          (both (within (train_ranges l slots) r) (ltb (row_before 0 rows i) (field1 r)) inside up) window)

-- ---- from the record's lists to rows

module _ (l : Limits) (n slots : ℕ) (numbers first last : List ℕ) where
  pub rows_fine : ((i : ℕ) → i < n → T (position_sound l n slots numbers first last i)) → FineTrains l slots 0 (listed n (train_row numbers first last))
  unfolding position_sound train_sound number_before
  rows_fine sound =
      trains_from l slots (listed n (train_row numbers first last)) 0
      (λ j h.
      let g = subst (λ k. j < k) (length-listed n (train_row numbers first last)) h in
      let t = subst (λ b. T (cond b (train_sound l slots numbers first last j) (unused numbers first last j))) (lt-ltb j n g) (sound j g) in
      let fields = within (train_ranges l slots) (train_row numbers first last j) in
      let rises = ltb (number_before numbers j) (get_or numbers j 0) in
      let (a, window) = both_of (fields && rises) (leb (get_or first j 0) (get_or last j 0)) t in
      let (inside, up) = both_of fields rises a in
      rw (listed_at n (train_row numbers first last) [] j g, before j g) (refl, (inside, (up, (window, tt)))))
    where
      before : (j : ℕ) → j < n → row_before 0 (listed n (train_row numbers first last)) j ≡ number_before numbers j
      before zero g = refl
      before (suc j) g = ap field1 (listed_at n (train_row numbers first last) [] j (omega arith))

-- a column of the record, from its rows
pub column_back : (g : List ℕ → ℕ) (n width : ℕ) (row : ℕ → List ℕ) (column : List ℕ) → g [] ≡ 0 → length column ≡ width → n ≤ width
    → ((i : ℕ) → i < n → g (row i) ≡ get_or column i 0) → ((i : ℕ) → n ≤ i → i < width → get_or column i 0 ≡ 0)
    → padded width (map g (listed n row)) ≡ column
column_back g n width row column z size few same rest =
    ext_get_or 0 (padded width (map g (listed n row))) column (length-padded width (map g (listed n row)) (omega (arith, count)) ∙ sym size)
    (λ i h. at i (omega (arith, h, length-padded width (map g (listed n row)) (omega (arith, count)))))
  where
    count : length (map g (listed n row)) ≡ n
    count = length-map (listed n row) g ∙ length-listed n row

    at : (i : ℕ) → i < width → get_or (padded width (map g (listed n row))) i 0 ≡ get_or column i 0
    at i h =
        padded-at (map g (listed n row)) (width - length (map g (listed n row))) i ∙ ap (get_or (map g (listed n row)) i) (sym z)
        ∙ get_or-map g (listed n row) i []
        ∙ ⊎_elim
        (λ (k : n ≤ i). ap g (get_or-eq_default (listed n row) [] (omega (arith, length-listed n row))) ∙ z ∙ sym (rest i k h))
        (λ (k : i < n). ap g (listed_at n row [] i k) ∙ same i k)
        (le_or_lt n i)
