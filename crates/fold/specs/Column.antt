-- Columns, lists by position, and tables of pairs of positions, as a day record keeps them: w places, of which the first m are used, and 0
-- past those; and the laws of a loop that fills a column of zeros.
-- Assumes nothing.
use Rattle.std.specs.Prelude.{◌≡◌, refl, Bool, true, false, ◌&&◌, List, ◌⊎◌, ◌≢◌, ℕ, ◌+◌, ◌*◌, ◌/◌, ◌%◌, ◌≤◌, ◌<◌, length, get_or, set, replicate}
use Rattle.std.proofs.Common.{sym, ◌∙◌, subst, inl, inr, ⊎_elim, mul_comm, mod-lt, div-lt_iff_lt-mul, arith, length-set, ext_get_or, get_or-set_same, get_or-set_other, lt-ltb, le-ltb}
use Rattle.std.proofs.Math.Path.{ap, ap₂}
use Rattle.std.proofs.Math.Bool.{cond}
use Rattle.std.proofs.Math.Nat.{div-add-mod}
use Rattle.std.proofs.Math.Arith.{digits_lt, digits_div, digits_mod}
use Rattle.std.proofs.Math.Dec.{ltb}
use Rattle.std.proofs.lemmas.List.{length-replicate, get_or-replicate}
use Rattle.std.proofs.Math.ListN.{get_or-eq_default}
use Rattle.fold.specs.Fold.{at_end}
use Rattle.fold.specs.Counting.{le_or_lt, same_or}
use Rattle.fold.specs.Listed.{listed, length-listed, listed_at, listed_all, listed_ext}

-- ---- definitions

-- what f gives to the first m of w positions, and z past them
unfoldable pub filled : {X : Type 0} → X → ℕ → ℕ → (ℕ → X) → List X
filled z w m f = listed w λ i. cond (ltb i m) (f i) z

-- with 0 past them
abbrev pub column : ℕ → ℕ → (ℕ → ℕ) → List ℕ
column = filled 0

-- what f gives to the pairs of the first m of w positions, and 0 elsewhere; row after row, so that entry q is that of row q / w
unfoldable pub table_entry : ℕ → ℕ → (ℕ → ℕ → ℕ) → ℕ → ℕ
table_entry w m f q = cond (ltb (q / w) m && ltb (q % w) m) (f (q / w) (q % w)) 0

unfoldable pub table : ℕ → ℕ → (ℕ → ℕ → ℕ) → List ℕ
table w m f = listed (w * w) (table_entry w m f)

-- ---- a list that is filled up to a place

module _ {X : Type 0} (z : X) (w m : ℕ) (f : ℕ → X) where
  pub filled-length : length (filled z w m f) ≡ w
  unfolding filled
  filled-length = length-listed w λ i. cond (ltb i m) (f i) z

  pub filled_at : (i : ℕ) → i < w → i < m → get_or (filled z w m f) i z ≡ f i
  unfolding filled
  filled_at i h l = listed_at w (λ i. cond (ltb i m) (f i) z) z i h ∙ ap (λ b. cond b (f i) z) (lt-ltb i m l)

  -- z past that place, within the list and behind it
  pub filled_past : (i : ℕ) → m ≤ i → get_or (filled z w m f) i z ≡ z
  filled_past i l =
      ⊎_elim (λ (g : w ≤ i). get_or-eq_default (filled z w m f) z (subst_le g)) (λ (g : i < w). inside g) (le_or_lt w i)
    where
      subst_le : w ≤ i → length (filled z w m f) ≤ i
      subst_le g = omega (arith, filled-length)

      inside : i < w → get_or (filled z w m f) i z ≡ z
      inside g = unfold filled in (listed_at w (λ i. cond (ltb i m) (f i) z) z i g ∙ ap (λ b. cond b (f i) z) (le-ltb i m l))

-- a loop that fills it: where it begins, its next turn, its end
module _ {X : Type 0} (z : X) (w : ℕ) (f : ℕ → X) where
  pub filled_none : replicate w z ≡ filled z w 0 f
  filled_none =
      ext_get_or z (replicate w z) (filled z w 0 f) (length-replicate w z ∙ sym (filled-length z w 0 f))
      (λ i h. get_or-replicate w i z z (let e = length-replicate w z in omega arith) ∙ sym (filled_past z w 0 f i (omega arith)))

  filled_next : (k : ℕ) (v : X) → k < w → v ≡ f k → set (filled z w k f) k v ≡ filled z w (k + 1) f
  filled_next k v l e =
      ext_get_or z (set (filled z w k f) k v) (filled z w (k + 1) f) (long ∙ sym (filled-length z w (k + 1) f)) (λ i h. at i (omega (arith, long)) (same_or i k))
    where
      long : length (set (filled z w k f) k v) ≡ w
      long = length-set (filled z w k f) k v ∙ filled-length z w k f

      at : (i : ℕ) → i < w → (i ≡ k) ⊎ (i ≢ k) → get_or (set (filled z w k f) k v) i z ≡ get_or (filled z w (k + 1) f) i z
      at i h (inl q) =
          ap (λ j. get_or (set (filled z w k f) k v) j z) q ∙ get_or-set_same (filled z w k f) k v z (omega (arith, filled-length z w k f)) ∙ e
          ∙ sym (ap (λ j. get_or (filled z w (k + 1) f) j z) q ∙ filled_at z w (k + 1) f k l (omega arith))
      at i h (inr d) =
          get_or-set_other (filled z w k f) k i v z d
          ∙ ⊎_elim (λ (g : k ≤ i). filled_past z w k f i g ∙ sym (filled_past z w (k + 1) f i (omega arith)))
          (λ (g : i < k). filled_at z w k f i h g ∙ sym (filled_at z w (k + 1) f i h (omega arith))) (le_or_lt k i)

  pub filled_fill : {r : List X} (k : ℕ) (v : X) → r ≡ filled z w k f → k < w → v ≡ f k → set r k v ≡ filled z w (k + 1) f
  filled_fill k v e l h = ap (λ l. set l k v) e ∙ filled_next k v l h

  pub filled_end : {r : List X} (k n : ℕ) → r ≡ filled z w k f → k ≤ n → n ≤ k → r ≡ filled z w n f
  filled_end k n e a b = e ∙ at_end (λ k. filled z w k f) k n a b

-- ---- a column

module _ (w m : ℕ) (f : ℕ → ℕ) where
  pub column-length : length (column w m f) ≡ w
  column-length = filled-length 0 w m f

  pub column-at : (i : ℕ) → i < w → i < m → get_or (column w m f) i 0 ≡ f i
  column-at = filled_at 0 w m f

  pub column_past : (i : ℕ) → m ≤ i → get_or (column w m f) i 0 ≡ 0
  column_past = filled_past 0 w m f

-- columns of functions that agree below m are equal
pub column_ext : (w m : ℕ) (f g : ℕ → ℕ) → ((i : ℕ) → i < m → f i ≡ g i) → column w m f ≡ column w m g
unfolding filled
column_ext w m f g e =
    listed_ext w (λ i. cond (ltb i m) (f i) 0) (λ i. cond (ltb i m) (g i) 0)
    (λ i h. ⊎_elim (λ (l : m ≤ i). rw (le-ltb i m l)) (λ (l : i < m). rw (lt-ltb i m l, e i l)) (le_or_lt m i))

-- a list of w places with 0 past m is a column
pub is_column : (w m : ℕ) (l : List ℕ) → length l ≡ w → ((i : ℕ) → m ≤ i → get_or l i 0 ≡ 0) → column w m (λ i. get_or l i 0) ≡ l
is_column w m l long past =
    ext_get_or 0 (column w m (λ i. get_or l i 0)) l (column-length w m (λ i. get_or l i 0) ∙ sym long)
    (λ i h. ⊎_elim (λ (g : m ≤ i). column_past w m (λ i. get_or l i 0) i g ∙ sym (past i g)) (λ (g : i < m). column-at w m (λ i. get_or l i 0) i (omega (arith, column-length w m (λ i. get_or l i 0))) g) (le_or_lt m i))

-- a list of zeros has 0 at every place, and behind it
pub zeros-at : (w i : ℕ) → ◌≡◌ {A = ℕ} (get_or (replicate w 0) i 0) 0
zeros-at w i =
    ⊎_elim (λ (h : w ≤ i). get_or-eq_default (replicate w 0) 0 (let e = length-replicate {A = ℕ} w 0 in omega arith)) (λ (h : i < w). get_or-replicate w i 0 0 h) (le_or_lt w i)

-- ---- a loop that fills a column of zeros

pub column_none : (w : ℕ) (f : ℕ → ℕ) → replicate w 0 ≡ column w 0 f
column_none = filled_none 0

pub column_fill : {r : List ℕ} (w k : ℕ) (f : ℕ → ℕ) (v : ℕ) → r ≡ column w k f → k < w → v ≡ f k → set r k v ≡ column w (k + 1) f
column_fill w k f v e l h = filled_fill 0 w f k v e l h

pub column_next : (w k : ℕ) (f : ℕ → ℕ) (v : ℕ) → k < w → v ≡ f k → set (column w k f) k v ≡ column w (k + 1) f
column_next w k f v l h = column_fill w k f v refl l h

pub column_end : {r : List ℕ} (w k n : ℕ) (f : ℕ → ℕ) → r ≡ column w k f → k ≤ n → n ≤ k → r ≡ column w n f
column_end w k n f = filled_end 0 w f k n

-- ---- a table

pub entry_in : (w m : ℕ) (f : ℕ → ℕ → ℕ) (q : ℕ) → q / w < m → q % w < m → table_entry w m f q ≡ f (q / w) (q % w)
unfolding table_entry
entry_in w m f q a b = rw (lt-ltb (q / w) m a, lt-ltb (q % w) m b)

pub entry_row_past : (w m : ℕ) (f : ℕ → ℕ → ℕ) (q : ℕ) → m ≤ q / w → table_entry w m f q ≡ 0
unfolding table_entry
entry_row_past w m f q a = rw (le-ltb (q / w) m a)

pub entry_column_past : (w m : ℕ) (f : ℕ → ℕ → ℕ) (q : ℕ) → q / w < m → m ≤ q % w → table_entry w m f q ≡ 0
unfolding table_entry
entry_column_past w m f q a b = rw (lt-ltb (q / w) m a, le-ltb (q % w) m b)

-- a table is the column of its entries
pub table-column : (w m : ℕ) (f : ℕ → ℕ → ℕ) → column (w * w) (w * w) (table_entry w m f) ≡ table w m f
unfolding filled table
table-column w m f =
    listed_ext (w * w) (λ q. cond (ltb q (w * w)) (table_entry w m f q) 0) (table_entry w m f) (λ q h. ap (λ b. cond b (table_entry w m f q) 0) (lt-ltb q (w * w) h))

pub table_ext : (w m : ℕ) (f g : ℕ → ℕ → ℕ) → ((i j : ℕ) → i < m → j < m → f i j ≡ g i j) → table w m f ≡ table w m g
unfolding table
table_ext w m f g e = listed_ext (w * w) (table_entry w m f) (table_entry w m g) (λ q h. at q (le_or_lt m (q / w)) (le_or_lt m (q % w)))
  where
    at : (q : ℕ) → (m ≤ q / w) ⊎ (q / w < m) → (m ≤ q % w) ⊎ (q % w < m) → table_entry w m f q ≡ table_entry w m g q
    at q (inl a) b = entry_row_past w m f q a ∙ sym (entry_row_past w m g q a)
    at q (inr a) (inl b) = entry_column_past w m f q a b ∙ sym (entry_column_past w m g q a b)
    at q (inr a) (inr b) = entry_in w m f q a b ∙ e (q / w) (q % w) a b ∙ sym (entry_in w m g q a b)

module _ (w m : ℕ) (f : ℕ → ℕ → ℕ) where
  pub table-length : length (table w m f) ≡ w * w
  unfolding table
  table-length = length-listed (w * w) (table_entry w m f)

  pub table-cell : (i j : ℕ) → i < w → j < w → get_or (table w m f) (i * w + j) 0 ≡ cond (ltb i m && ltb j m) (f i j) 0
  unfolding table table_entry
  table-cell i j hi hj =
      listed_at (w * w) (table_entry w m f) 0 (i * w + j) (digits_lt {q = i} {m = w} {r = j} {c = w} hi hj)
      ∙ ap₂ (λ a b. cond (ltb a m && ltb b m) (f a b) 0) (digits_div i {m = w} {r = j} hj) (digits_mod i {m = w} {r = j} hj)

  pub table_at : (i j : ℕ) → i < w → j < w → i < m → j < m → get_or (table w m f) (i * w + j) 0 ≡ f i j
  table_at i j hi hj li lj = table-cell i j hi hj ∙ rw (lt-ltb i m li, lt-ltb j m lj)

  pub table_past : (i j : ℕ) → i < w → j < w → (m ≤ i) ⊎ (m ≤ j) → get_or (table w m f) (i * w + j) 0 ≡ 0
  table_past i j hi hj past = table-cell i j hi hj ∙ ⊎_elim (λ (l : m ≤ i). rw (le-ltb i m l)) (λ (l : m ≤ j). ap (λ b. cond b (f i j) 0) (ap (λ b. ltb i m && b) (le-ltb j m l) ∙ and_false (ltb i m))) past
    where
      and_false : (b : Bool) → (b && false) ≡ false
      and_false true = refl
      and_false false = refl

-- a list of w rows of w places with 0 past m is a table
pub is_table : (w m : ℕ) (l : List ℕ) → length l ≡ w * w
    → ((i j : ℕ) → i < w → j < w → (m ≤ i) ⊎ (m ≤ j) → get_or l (i * w + j) 0 ≡ 0) → table w m (λ i j. get_or l (i * w + j) 0) ≡ l
unfolding table
is_table w m l long past =
    subst (λ k. listed k (table_entry w m f) ≡ l) long
    (listed_ext (length l) (table_entry w m f) (λ q. get_or l q 0) (λ q h. at q (omega (arith, long))) ∙ listed_all l 0)
  where
    f : ℕ → ℕ → ℕ
    f i j = get_or l (i * w + j) 0

    same : (q : ℕ) → f (q / w) (q % w) ≡ get_or l q 0
    same q = ap (λ k. get_or l k 0) (let e : q / w * w + q % w ≡ q = omega (arith, div-add-mod q w, mul_comm (q / w) w) in e)

    at : (q : ℕ) → q < w * w → table_entry w m f q ≡ get_or l q 0
    at q h =
        let above : 0 < w = ⊎_elim (λ (z : w ≤ 0). let e : w ≡ 0 = omega arith in absurd (let g : q < 0 = subst (λ k. q < k * k) e h in omega arith)) (λ (z : 0 < w). z) (le_or_lt w 0) in
        let row : q / w < w = (div-lt_iff_lt-mul above).1 h in
        let column : q % w < w = mod-lt q above in
        go (le_or_lt m (q / w)) (le_or_lt m (q % w)) row column
      where
        go : (m ≤ q / w) ⊎ (q / w < m) → (m ≤ q % w) ⊎ (q % w < m) → q / w < w → q % w < w → table_entry w m f q ≡ get_or l q 0
        go (inl a) b r c = entry_row_past w m f q a ∙ sym (past (q / w) (q % w) r c (inl a)) ∙ same q
        go (inr a) (inl b) r c = entry_column_past w m f q a b ∙ sym (past (q / w) (q % w) r c (inr b)) ∙ same q
        go (inr a) (inr b) r c = entry_in w m f q a b ∙ same q
