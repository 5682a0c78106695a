-- The laws that the proofs of writing cite: the rows of boxes, and the text of a day in its sections.
-- Assumes nothing.
use Rattle.std.specs.Prelude.{◌≡◌, List, [], ◌++◌, ℕ, ◌+◌, ◌*◌, ◌/◌, ◌%◌, ◌<◌, T, length, get_or}
use Rattle.std.proofs.Common.{ap, ◌∙◌, append_assoc, append-nil, ⊎_elim, mod-lt, div-lt_iff_lt-mul, eq-zero-or-pos, arith, length-append, eq-eqb, ne_eqb}
use Rattle.model.specs.Model.{Yard}
use Rattle.model.specs.Groups.{GroupsUpTo}
use Rattle.day.specs.Parts.{part_yard}
use Rattle.day.specs.Sound.{head_row, sound}
use Rattle.day.specs.SoundLaws.{sound_is}
use Rattle.day.specs.declared.Parts.{Parts}
use Rattle.day.specs.declared.Limits.{Limits}
use Rattle.decimal.specs.Place.{Put}
use Rattle.decimal.specs.PlaceLaws.{put_text}
use Rattle.lines.specs.Lines.{row_text, rows_text}
use Rattle.output.specs.Laws.{rows_listed, rows_joined}
use Rattle.dayfile.specs.Writing.{file_text, move_row, move_rows, file_of_lem, day_text}
use Rattle.groups_text.specs.Texts.{sets_text}
use Rattle.groups_text.specs.Laws.{sets_text_lem}
use Rattle.day_text.specs.Writes.{head_text, trains_text, move_text, moves_text, Writable}

-- ---- the row of a place of the table

module _ (numbers : List ℕ) (width : ℕ) (boxes : List ℕ) (q : ℕ) where
  pub move_none : get_or boxes q 0 ≡ 0 → move_text numbers width boxes q ≡ []
  unfolding rows_text move_rows
  move_none e = rw (eq-eqb (get_or boxes q 0) 0 e)

  pub move_some : (get_or boxes q 0 ≡ 0 → ⊥) → move_text numbers width boxes q ≡ row_text (move_row numbers width q (get_or boxes q 0))
  unfolding rows_text move_rows
  move_some h = rw (ne_eqb (get_or boxes q 0) 0 h) (append-nil _)

-- its receiver and its supplier
module _ {width q : ℕ} (h : q < width * width) where
  pub wide : 0 < width
  wide = ⊎_elim (λ (z : width ≡ 0). absurd (omega (arith, ap (λ (w : ℕ). w * w) z))) (λ p. p) (eq-zero-or-pos width)

  pub receiver_below : q / width < width
  receiver_below = (div-lt_iff_lt-mul wide).1 h

  pub supplier_below : q % width < width
  supplier_below = mod-lt q wide

-- ---- the text of a day, section by section

module _ (l : Limits) (y : Yard) (low : GroupsUpTo l.groups y.trains y.groups) where
  day_text_lem : day_text l y
      ≡ head_text (head_row y) ++ trains_text y.numbers y.first y.last y.trains ++ moves_text y.numbers y.width y.boxes
      ++ sets_text l.groups y.trains y.numbers y.groups
  unfolding day_text file_text file_of_lem
  day_text_lem = rw (rows_listed, rows_joined, sets_text_lem l.groups y.trains y.numbers y.groups low) (simp append_assoc)

  -- the sections put one after the other, and the length of all
  pub put_sections : {k m n o q : List ℕ} {i j h g : ℕ} → Put k m 0 i (head_text (head_row y)) → Put m n i j (trains_text y.numbers y.first y.last y.trains)
      → Put n o j h (moves_text y.numbers y.width y.boxes) → Put o q h g (sets_text l.groups y.trains y.numbers y.groups) → Put k q 0 g (day_text l y)
  put_sections a b c d = rw day_text_lem (put_text (put_text (put_text a b) c) d)

  pub day_length : length (day_text l y)
      ≡ length (head_text (head_row y)) + length (trains_text y.numbers y.first y.last y.trains) + length (moves_text y.numbers y.width y.boxes)
      + length (sets_text l.groups y.trains y.numbers y.groups)
  day_length = ap length day_text_lem ∙ simp length-append

-- a sound day can be written
pub writable : (p : Parts) → T (sound p.limits (part_yard p)) → Writable p
writable p t =
    let is = sound_is p.limits (part_yard p) t in
    record {
      numbered = omega (arith, is.trains.1, is.shape.numbers);
      firsts = omega (arith, is.trains.1, is.shape.first);
      lasts = omega (arith, is.trains.1, is.shape.last);
      members = omega (arith, is.trains.1, is.shape.groups);
      places = omega (arith, is.shape.numbers);
      table = omega (arith, is.shape.boxes);
      low = is.groups;
    }
