-- What a copy stores, and the text of a row by how many values are left.
use Rattle.std.proofs.Common.{◌≡◌, ℕ, List, [], ◌∷◌, ◌+◌, ◌-◌, ◌≤◌, ◌<◌, ◌++◌, length, take, drop, refl, sym, ap, ◌∙◌, arith, slice_index_or, length-append}
use Rattle.std.proofs.lemmas.Slice.{put_mid-paste}
use Rattle.std.proofs.lemmas.List.Edits.{sets-eq}
use Rattle.std.proofs.Math.Seq.{take-length}
use borrow.Rule.Slice.PartMut.{put_mid}
use Rattle.decimal.specs.Place.{Put}
use Rattle.lines.specs.Lines.{field_text, row_text}

pub put_copy : (l word part : List ℕ) (i k : ℕ) → i + length word ≤ length l → part ≡ word → length word ≡ k → Put l (put_mid i k l part) i (i + length word) word
put_copy l word part i k fits e n = record {
  next = refl;
  list =
      put_mid-paste i k l part word (length word) e n refl
      ∙ ap (λ (w : List ℕ). take i l ++ w ++ drop (i + length word) l) (take-length word)
      ∙ sym (sets-eq word l i fits);
}

pub row_none : (values : List ℕ) → length values < 1 → row_text values ≡ []
unfolding row_text
row_none [] h = refl
row_none (v ∷ values) h = absurd (omega arith)

pub row_alone : (values : List ℕ) → 1 ≤ length values → length values < 2 → row_text values ≡ field_text (slice_index_or values 0 0) 10
unfolding row_text
row_alone [] h k = absurd (omega arith)
row_alone (v ∷ []) h k = refl
row_alone (v ∷ w ∷ values) h k = absurd (omega arith)

pub row_first : (values : List ℕ) → 2 ≤ length values
    → row_text values ≡ field_text (slice_index_or values 0 0) 32 ++ row_text (take (length values - 1) (drop 1 values))
unfolding row_text
row_first [] h = absurd (omega arith)
row_first (v ∷ []) h = absurd (omega arith)
row_first (v ∷ w ∷ values) h =
    let e : length (v ∷ w ∷ values) - 1 ≡ length (w ∷ values) = omega arith in
    ap (λ (more : List ℕ). field_text v 32 ++ row_text more) (sym (ap (λ n. take n (w ∷ values)) e ∙ take-length (w ∷ values)))

pub row_first-length : (values : List ℕ) → 2 ≤ length values
    → length (row_text values) ≡ length (field_text (slice_index_or values 0 0) 32) + length (row_text (take (length values - 1) (drop 1 values)))
row_first-length values h =
    ap length (row_first values h) ∙ length-append (field_text (slice_index_or values 0 0) 32) (row_text (take (length values - 1) (drop 1 values)))
