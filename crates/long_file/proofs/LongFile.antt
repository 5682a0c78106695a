-- Laws of LongFile.antt of specs/.
-- The file of a long day (order 9 of document 02): the form of the day file and its own limits. Both round trips, the greatest size, and
-- that there is no fourth section: the names line `group train` among the moves is a row of another form.
-- Assumes nothing.
use Rattle.std.specs.Prelude.{◌≡◌, refl, List, [], ◌∷◌, ◌++◌, ◌↔◌, ℕ, zero, suc, ◌≤◌, T, length, take}
use Rattle.std.proofs.Common.{ap, arith}
use Rattle.model.specs.Model.{Yard}
use Rattle.day.specs.Answer.{gives, refuses, code}
use Rattle.day.specs.Sound.{head_ranges, train_ranges, move_ranges, within, sound}
use Rattle.decimal.specs.Decimal.{more, value}
use Rattle.lines.specs.Lines.{ascii, byte, names, field, row}
use Rattle.lines.specs.RowSize.{most_in_row, digits_size}
use Rattle.dayfile.specs.Reading.{head_names, train_names, move_names, group_names, moves_end, read_trains, read_moves, read_file, read_day}
use Rattle.dayfile.specs.Writing.{day_text, Short}
use Rattle.dayfile.specs.RoundTrip.{read_sound, read_write, sound_is_read}
use Rattle.dayfile.specs.Calls.{day_writes, day_leaves, written_reads, read_writes}
use Rattle.dayfile.specs.Size.{most_bytes, day_size}
use Rattle.long_day.specs.LongDay.{long_limits}
use Rattle.long_file.specs.LongFile.{long_bytes, one_train}

-- ---- the round trips: no limit has more than five digits

pub long_short : Short long_limits
long_short =
    record { trains = omega arith; tracks = omega arith; slots = omega arith; weight = omega arith; number = omega arith; boxes = omega arith; groups = omega arith }

-- what writing leaves in a long enough output, read, gives the day
pub long_written_reads : (y : Yard) (out : List ℕ) → T (sound long_limits y) → length (day_text long_limits y) ≤ length out
    → (k : ℕ) × (day_writes long_limits y (length out) ≡ gives k) × (read_day long_limits (take k (day_leaves long_limits y out)) ≡ gives y)
long_written_reads = written_reads long_limits long_short

-- what reading accepts, written into a long enough output, gives the same bytes
pub long_read_writes : (text : List ℕ) (y : Yard) (out : List ℕ) → read_day long_limits text ≡ gives y → length text ≤ length out
    → (day_writes long_limits y (length out) ≡ gives (length text)) × (take (length text) (day_leaves long_limits y out) ≡ text)
long_read_writes = read_writes long_limits long_short

-- a record is sound exactly where some text reads to it
pub long_sound_is_read : (y : Yard) → T (sound long_limits y) ↔ ((text : List ℕ) × (read_day long_limits text ≡ gives y))
long_sound_is_read y = sound_is_read long_limits y long_short

pub long_most : most_bytes long_limits ≡ long_bytes
unfolding most_bytes most_in_row head_ranges train_ranges move_ranges head_names train_names move_names
long_most =
    omega (
      arith,
      digits_size 1 36 (omega arith) (omega arith),
      digits_size 0 4 (omega arith) (omega arith),
      digits_size 1 12 (omega arith) (omega arith),
      digits_size 4 65535 (omega arith) (omega arith),
      digits_size 4 99999 (omega arith) (omega arith),
      digits_size 2 255 (omega arith) (omega arith),
    )

pub long_size : (y : Yard) → T (sound long_limits y) → length (day_text long_limits y) ≤ long_bytes
long_size y s = omega (arith, day_size long_limits y s, long_most)

pub long_accepted_size : (text : List ℕ) (y : Yard) → read_day long_limits text ≡ gives y → length text ≤ long_bytes
long_accepted_size text y r = omega (arith, ap length (read_write long_limits text y r), long_size y (read_sound long_limits text y r))

-- ---- no groups: 2 with the line of `group train`, wherever among the moves it stands and whatever follows it

pub long_group_line : (numbers : List ℕ) (k : ℕ) (before : List ℕ) (line : ℕ) (s : List ℕ)
    → read_moves long_limits numbers k before line (group_names ++ s) ≡ refuses 2 (line ∷ [])
unfolding read_moves moves_end group_names row field value
long_group_line numbers zero before line s = refl
long_group_line numbers (suc k) before line s = refl

pub long_ungrouped : code (read_day long_limits one_train) ≡ 0
unfolding one_train read_day read_file read_trains read_moves moves_end head_names train_names move_names names byte row field value more within head_ranges train_ranges
long_ungrouped = refl

pub long_grouped : read_day long_limits (one_train ++ group_names ++ ascii "1 7\n") ≡ refuses 2 (6 ∷ [])
unfolding one_train read_day read_file read_trains read_moves moves_end head_names train_names move_names group_names names byte row field value more within head_ranges train_ranges
long_grouped = refl
