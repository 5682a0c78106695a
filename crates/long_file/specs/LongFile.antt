-- The file of a long day (order 9 of document 02): the form of the day file and its own limits. Both round trips, the greatest size, and
-- that there is no fourth section: the names line `group train` among the moves is a row of another form.
-- Assumes nothing.
use Rattle.std.specs.Prelude.{◌≡◌, refl, List, [], ◌∷◌, ◌++◌, ◌↔◌, ℕ, zero, suc, ◌≤◌, T, length, take}
use Rattle.std.proofs.Common.{ap, arith}
use Rattle.model.specs.Model.{Yard}
use Rattle.day.specs.Answer.{gives, refuses, code}
use Rattle.day.specs.Sound.{head_ranges, train_ranges, move_ranges, within, sound}
use Rattle.decimal.specs.Decimal.{more, value}
use Rattle.lines.specs.Lines.{ascii, byte, names, field, row}
use Rattle.lines.specs.RowSize.{most_in_row, digits_size}
use Rattle.dayfile.specs.Reading.{head_names, train_names, move_names, group_names, moves_end, read_trains, read_moves, read_file, read_day}
use Rattle.dayfile.specs.Writing.{day_text, Short}
use Rattle.dayfile.specs.RoundTrip.{read_sound, read_write, sound_is_read}
use Rattle.dayfile.specs.Calls.{day_writes, day_leaves, written_reads, read_writes}
use Rattle.dayfile.specs.Size.{most_bytes, day_size}
use Rattle.long_day.specs.LongDay.{long_limits}

-- ---- the greatest size

abbrev pub long_bytes : ℕ
long_bytes = 20677

-- the text of a day of one train is accepted, and not with a group behind it
unfoldable pub one_train : List ℕ
one_train = ascii "trains tracks slots revisit split\n1 1 1 0 0\ntrain first last\n7 1 1\nto from boxes\n"
