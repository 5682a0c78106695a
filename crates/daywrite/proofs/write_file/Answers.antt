-- Each return is one of the laws `says_..` of output; the text of a sound day fits the buffer.
use Rattle.std.proofs.Common.{sym, ap, ◌∙◌, arith, length}
use Rattle.fold.specs.Test.{of_true}
use Rattle.dayfile.specs.Calls.{day_checks}
use Rattle.output.specs.Laws.{put_count, put_front, says_refused, says_text}
use Rattle.day_text.specs.Laws.{writable}
use Rattle.daywrite.proofs.write_file.Goals as goal

pub returns-then-not-is_file_sound : goal.returns-then-not-is_file_sound
returns-then-not-is_file_sound c =
    let e = sym c.is_file_sound.ensures ∙ c.if-not-is_file_sound.true in
    let s = says_refused _ _ (day_checks _ _) (tt {0}) (rw e) in
    record { result_value = s.0; out_after = s.1 }

pub put_file-count-requires : goal.put_file-count-requires
put_file-count-requires c =
    let t = of_true (sym c.is_file_sound.ensures ∙ c.if-not-is_file_sound.false) in
    record { writable = writable _ t; room = c.requires.room t }

pub slice_bounds-write_text-end : goal.slice_bounds-write_text-end
slice_bounds-write_text-end c =
    let t = of_true (sym c.is_file_sound.ensures ∙ c.if-not-is_file_sound.false) in
    omega (arith, put_count c.put_file-count.ensures, c.requires.room t, c.put_file-count.auto.out)

pub slice_bounds-write_text-end-2 : goal.slice_bounds-write_text-end-2
slice_bounds-write_text-end-2 c =
    let t = of_true (sym c.is_file_sound.ensures ∙ c.if-not-is_file_sound.false) in
    omega (arith, put_count c.put_file-count.ensures, c.requires.room t, ap length (put_front c.put_file-count.ensures (c.requires.room t)))

pub returns : goal.returns
returns c =
    let t = of_true (sym c.is_file_sound.ensures ∙ c.if-not-is_file_sound.false) in
    let front = put_front c.put_file-count.ensures (c.requires.room t) in
    let s = says_text _ _ (day_checks _ _) (t, tt) front c.write_text.ensures.result_value c.write_text.ensures.out_after in
    record { result_value = s.0; out_after = s.1 }
