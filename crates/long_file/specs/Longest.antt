-- The greatest size of a long day's file (`long_accepted_size`, LongFile.antt) is reached: the fullest day with windows of two digits is
-- sound, and its text has just as many bytes. They are counted row by row, not computed.
-- Assumes nothing.
use Rattle.std.specs.Prelude.{◌≡◌, refl, Bool, true, false, cond, List, [], ℕ, zero, suc, ◌+◌, ◌/◌, ◌%◌, ◌<◌, T, eqb, length, get_or, replicate}
use Rattle.std.proofs.Common.{ap, ◌∙◌, arith, length-append}
use Rattle.std.proofs.lemmas.List.{length-replicate, get_or-replicate}
use Rattle.fold.specs.Fold.{sum, some}
use Rattle.fold.specs.Sums.{sum_ext}
use Rattle.fold.specs.Listed.{joined, listed_at}
use Rattle.model.specs.Model.{Yard}
use Rattle.model.specs.Groups.{GroupsUpTo}
use Rattle.day.specs.Sound.{sound, head_row, train_row}
use Rattle.lines.specs.Lines.{row_text}
use Rattle.lines.specs.RowSize.{in_row, digits_size, row_bytes}
use Rattle.dayfile.specs.Reading.{head_names, train_names, move_names}
use Rattle.dayfile.specs.Writing.{move_row, day_text}
use Rattle.groups_text.specs.Texts.{sets_text}
use Rattle.day_text.specs.Writes.{head_text, train_text, trains_text, move_text, moves_text}
use Rattle.day_text.specs.Laws.{move_none, move_some, day_length}
use Rattle.long_day.specs.LongDay.{long_limits}
use Rattle.long_file.specs.LongFile.{long_bytes}
use Rattle.long_file.specs.Full.{full_boxes, full_numbers, full_day}

-- every train has the window 12..12
abbrev pub twelves : List ℕ
twelves = replicate 36 12

abbrev pub longest : Yard
longest = full_day (replicate 36 12) (replicate 36 12)
