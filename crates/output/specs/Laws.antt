-- Texts put one after the other: bytes, fields, rows, the rows of a section; and a whole text at the front of an output.
-- Assumes nothing.
use Rattle.std.specs.Prelude.{◌≡◌, refl, ℕ, zero, suc, ◌+◌, ◌≤◌, ◌<◌, leb, length, get_or, set, take, drop}
use Rattle.std.proofs.Common.{sym, ap, ◌∙◌, add_assoc, le_antisymm, zero-add, add-one, arith, leb→le, length-append, take-suc}
use mathlib.Core.List.{List, [], ◌∷◌, ◌++◌, append_assoc}
use Rattle.std.proofs.lemmas.List.Edits.{sets-eq}
use Rattle.std.proofs.Math.Seq.{take-length, take-append_seam, drop-append_seam}
use borrow.Author.Tests.{le-leb, lt-leb}
use Rattle.fold.specs.Listed.{listed, joined, joined_none, joined-next, joined_cons, joined_front}
use Rattle.day.specs.Answer.{Answer, gives, refuses, Check, must, checked}
use Rattle.day.specs.AnswerLaws.{AllHold, gives_same, checked_holds, checked_gives, checked_refuses}
use Rattle.decimal.specs.Place.{Put}
use Rattle.decimal.specs.PlaceLaws.{put_text, put_byte}
use Rattle.lines.specs.Lines.{field_text, row_text, rows_text}
use Rattle.output.specs.Output.{writes, out_after, leaves}

-- ---- bytes stored one after the other

module _ {l m : List ℕ} {p : ℕ} (word : List ℕ) (i : ℕ) where
  pub put_next : i < length word → Put l m p (p + i) (take i word) → Put l (set m (p + i) (get_or word i 0)) p (p + (i + 1)) (take (i + 1) word)
  put_next h b = rw (← add_assoc p i 1, add-one i, take-suc word i 0 h) (put_byte (get_or word i 0) b)

  pub put_all : i ≤ length word → length word ≤ i → Put l m p (p + i) (take i word) → Put l m p (p + length word) word
  put_all h g b = rw (le_antisymm h g, take-length word) at b

-- ---- the text of a row, value by value

pub put_row : {l m n : List ℕ} {i j k : ℕ} (v w : ℕ) (vs : List ℕ) → Put l m i j (field_text v 32) → Put m n j k (row_text (w ∷ vs)) → Put l n i k (row_text (v ∷ w ∷ vs))
unfolding row_text
put_row v w vs p q = put_text p q

-- ---- rows, one after the other

module _ {l : List ℕ} {i : ℕ} (f : ℕ → List ℕ) where
  pub put_none : Put l l i i (joined 0 f)
  put_none = rw (joined_none f) (record { next = omega arith; list = refl })

  pub put_more : {m n : List ℕ} {j h : ℕ} (k : ℕ) → Put l m i j (joined k f) → Put m n j h (f k) → Put l n i h (joined (k + 1) f)
  put_more k p q = rw (joined-next k f) (put_text p q)

  pub put_end : {m : List ℕ} {j : ℕ} (k n : ℕ) → k ≤ n → n ≤ k → Put l m i j (joined k f) → Put l m i j (joined n f)
  put_end k n h g p = rw (le_antisymm h g) at p

-- the text of listed and of joined rows
rows_append : (a b : List (List ℕ)) → rows_text (a ++ b) ≡ rows_text a ++ rows_text b
unfolding rows_text
rows_append [] b = refl
rows_append (r ∷ a) b = ap (λ (s : List ℕ). row_text r ++ s) (rows_append a b) ∙ sym (append_assoc (row_text r) (rows_text a) (rows_text b))

pub rows_listed : (n : ℕ) (f : ℕ → List ℕ) → rows_text (listed n f) ≡ joined n λ i. row_text (f i)
unfolding rows_text listed
rows_listed zero f = sym (joined_none _)
rows_listed (suc n) f =
    ap (λ (s : List ℕ). row_text (f 0) ++ s) (rows_listed n λ i. f (suc i)) ∙ sym (joined_cons n λ i. row_text (f i))

pub rows_joined : (n : ℕ) (f : ℕ → List (List ℕ)) → rows_text (joined n f) ≡ joined n λ i. rows_text (f i)
unfolding rows_text joined
rows_joined zero f = refl
rows_joined (suc n) f = rows_append (joined n f) (f n) ∙ ap (λ (s : List ℕ). s ++ rows_text (f n)) (rows_joined n f)

-- where a section has room its names line has, and so has each row after those before it
module _ (names : List ℕ) where
  pub names_fit : (rows : List ℕ) → length names ≤ length (names ++ rows)
  names_fit rows = omega (arith, length-append names rows)

  pub row_fits : (f : ℕ → List ℕ) (k n : ℕ) → k < n → length names + length (joined k f) + length (f k) ≤ length (names ++ joined n f)
  row_fits f k n h =
      omega (arith, joined_front (k + 1) n f (omega arith), ap length (joined-next k f), length-append (joined k f) (f k), length-append names (joined n f))

-- ---- what is put at the front: it stands there, and the bytes beyond stay

module _ {l m : List ℕ} {j : ℕ} {a : List ℕ} (p : Put l m 0 j a) where
  pub put_count : j ≡ length a
  put_count = p.next ∙ zero-add (length a)

  pub put_list : length a ≤ length l → m ≡ a ++ drop (length a) l
  put_list h = p.list ∙ sets-eq a l 0 (omega arith) ∙ ap (λ (n : ℕ). a ++ drop n l) (zero-add (length a))

  pub put_front : length a ≤ length l → take j m ≡ a
  put_front h = rw (put_count, put_list h) (take-append_seam a (drop (length a) l))

-- ---- a whole text: the answer and what is left, by the checks and by whether it fits

module _ (text out : List ℕ) where
  pub says_short : length out < length text → (refuses 10 (0 ∷ []) ≡ writes [] text (length out)) × (out ≡ leaves [] text out)
  unfolding writes leaves
  says_short h = let e = lt-leb (length text) (length out) h in (simp e, simp e)

  pub says_whole : {after : List ℕ} {next : ℕ} → length text ≤ length out → Put out after 0 next text
      → (gives (length text) ≡ writes [] text (length out)) × (after ≡ leaves [] text out)
  unfolding writes leaves
  says_whole h p = let e = le-leb (length text) (length out) h in (simp e, put_list p h ∙ simp e)

  module _ (checks : List Check) where
    -- a check that fails, whatever would be given
    pub says_refused : {X : Type 0} (x : X) {k : ℕ} {carries : List ℕ} → checked checks (gives x) ≡ refuses k carries
        → (refuses k carries ≡ writes checks text (length out)) × (out ≡ leaves checks text out)
    unfolding writes leaves
    says_refused x e = let q = checked_refuses checks x (writes [] text (length out)) e in (sym q, rw q)

    module _ (hold : AllHold checks) where
      passed : writes checks text (length out) ≡ writes [] text (length out)
      unfolding writes
      passed = checked_holds checks (writes [] text (length out)) hold

      pub says_text : {put after : List ℕ} {said : Answer ℕ} → put ≡ text → said ≡ writes [] put (length out) → after ≡ leaves [] put out
          → (said ≡ writes checks text (length out)) × (after ≡ leaves checks text out)
      unfolding leaves
      says_text t a f = (a ∙ rw (t, passed), f ∙ rw (t, passed))

      -- in an output that is long enough the text stands in the first bytes
      pub fits : length text ≤ length out → (writes checks text (length out) ≡ gives (length text)) × (take (length text) (leaves checks text out) ≡ text)
      unfolding writes leaves
      fits h = rw passed (let e = le-leb (length text) (length out) h in (simp e, simp e (take-append_seam text (drop (length text) out))))

-- the count of bytes is no more than the output has
pub count_fits : (checks : List Check) (text : List ℕ) (size k : ℕ) → gives k ≡ writes checks text size → k ≤ size
unfolding writes
count_fits checks text size k e =
    let room = must (leb (length text) size) 10 (0 ∷ []) ∷ [] in
    let q = (checked_gives checks (checked room (gives (length text))) k (sym e)).1 in
    let (h, r) = checked_gives room (gives (length text)) k q in
    let same : length text ≡ k = cc in
    omega (arith, same, leb→le (length text) size h.0)

-- ---- 01's words: the first bytes of the output are filled and their count is returned, the bytes beyond stay; a refusal changes no byte

pub record Filled (text out : List ℕ) (said : Answer ℕ) (after : List ℕ) : Type 0 where
  pub given : (k : ℕ) → said ≡ gives k → (k ≡ length text) × ((take k after ≡ text) × (drop k after ≡ drop k out))
  pub refused : (k : ℕ) (carries : List ℕ) → said ≡ refuses k carries → after ≡ out

pub filled : (checks : List Check) (text out : List ℕ) → Filled text out (writes checks text (length out)) (leaves checks text out)
unfolding writes leaves
filled checks text out = go (writes checks text (length out)) refl
  where
    room : List Check
    room = must (leb (length text) (length out)) 10 (0 ∷ []) ∷ []

    counted : (k : ℕ) → writes checks text (length out) ≡ gives k → k ≡ length text
    counted k e =
        let q = (checked_gives checks (checked room (gives (length text))) k e).1 in
        sym (gives_same (checked_gives room (gives (length text)) k q).1)

    go : (a : Answer ℕ) → writes checks text (length out) ≡ a → Filled text out a (out_after a text out)
    go (gives n) e =
        let long = counted n e in
        record {
          given = λ k q.
              let same : k ≡ length text = sym (gives_same q) ∙ long in
              (same, (rw same (take-append_seam text (drop (length text) out)), rw same (drop-append_seam text (drop (length text) out))));
          refused = λ k carries q. absurd (let z : ◌≡◌ {A = ℕ} 0 1 = cc in omega arith);
        }
    go (refuses m values) e = record { given = λ k q. absurd (let z : ◌≡◌ {A = ℕ} 0 1 = cc in omega arith); refused = λ k carries q. refl }
