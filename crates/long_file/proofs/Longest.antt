-- Laws of Longest.antt of specs/.
-- The greatest size of a long day's file (`long_accepted_size`, LongFile.antt) is reached: the fullest day with windows of two digits is
-- sound, and its text has just as many bytes. They are counted row by row, not computed.
-- Assumes nothing.
use Rattle.std.specs.Prelude.{◌≡◌, refl, Bool, true, false, cond, List, [], ℕ, zero, suc, ◌+◌, ◌/◌, ◌%◌, ◌<◌, T, eqb, length, get_or, replicate}
use Rattle.std.proofs.Common.{ap, ◌∙◌, arith, length-append}
use Rattle.std.proofs.lemmas.List.{length-replicate, get_or-replicate}
use Rattle.fold.specs.Fold.{sum, some}
use Rattle.fold.specs.Sums.{sum_ext}
use Rattle.fold.specs.Listed.{joined, listed_at}
use Rattle.model.specs.Model.{Yard}
use Rattle.model.specs.Groups.{GroupsUpTo}
use Rattle.day.specs.Sound.{sound, head_row, train_row}
use Rattle.lines.specs.Lines.{row_text}
use Rattle.lines.specs.RowSize.{in_row, digits_size, row_bytes}
use Rattle.dayfile.specs.Reading.{head_names, train_names, move_names}
use Rattle.dayfile.specs.Writing.{move_row, day_text}
use Rattle.groups_text.specs.Texts.{sets_text}
use Rattle.day_text.specs.Writes.{head_text, train_text, trains_text, move_text, moves_text}
use Rattle.day_text.specs.Laws.{move_none, move_some, day_length}
use Rattle.long_day.specs.LongDay.{long_limits}
use Rattle.long_file.specs.LongFile.{long_bytes}
use Rattle.long_file.specs.Full.{full_boxes, full_numbers, full_day}
use Rattle.long_file.proofs.Full.{full-number, full-sound}
use Rattle.long_file.specs.Longest.{twelves, longest}

twelve-at : (i : ℕ) → i < 36 → get_or twelves i 0 ≡ 12
twelve-at i h = get_or-replicate 36 i 12 0 h

pub longest-sound : T (sound long_limits longest)
longest-sound =
    let long = length-replicate {A = ℕ} 36 12 in
    full-sound twelves twelves long long (λ i h. let e = twelve-at i h in (omega arith, omega arith, omega arith))

-- ---- the bytes of lists joined

pub joined_length : {X : Type 0} (k : ℕ) (f : ℕ → List X) → length (joined k f) ≡ sum k (λ i. length (f i))
unfolding joined sum
joined_length zero f = refl
joined_length (suc k) f = omega (arith, length-append (joined k f) (f k), joined_length k f)

-- ---- the sections

head_bytes : length (head_text (head_row longest)) ≡ 34 + 20
unfolding head_names in_row
head_bytes =
    omega (
      arith,
      length-append head_names (row_text (head_row longest)),
      row_bytes (head_row longest),
      digits_size 1 36 (omega arith) (omega arith),
      digits_size 0 4 (omega arith) (omega arith),
      digits_size 1 12 (omega arith) (omega arith),
      digits_size 4 65535 (omega arith) (omega arith),
    )

train_bytes : (i : ℕ) → i < 36 → length (train_text full_numbers twelves twelves i) ≡ 12
unfolding in_row
train_bytes i h =
    let n = full-number i h in
    let e = twelve-at i h in
    omega (
      arith,
      row_bytes (train_row full_numbers twelves twelves i),
      digits_size 4 (get_or full_numbers i 0) (omega arith) (omega arith),
      digits_size 1 (get_or twelves i 0) (omega arith) (omega arith),
    )

trains_bytes : length (trains_text full_numbers twelves twelves 36) ≡ 17 + 432
unfolding train_names sum
trains_bytes =
    omega (
      arith,
      length-append train_names (joined 36 (train_text full_numbers twelves twelves)),
      joined_length 36 (train_text full_numbers twelves twelves),
      sum_ext 36 (λ i. length (train_text full_numbers twelves twelves i)) (λ i. 12) train_bytes,
    )

-- no row where a train would meet itself, else three values of five, five and three digits
move_bytes : (q : ℕ) → q < 1296 → length (move_text full_numbers 36 longest.boxes q) ≡ cond (eqb (q / 36) (q % 36)) 0 16
unfolding full_boxes in_row
move_bytes q h = go (eqb (q / 36) (q % 36)) (listed_at 1296 full_boxes 0 q h)
  where
    go : (b : Bool) → get_or longest.boxes q 0 ≡ cond b 0 255 → length (move_text full_numbers 36 longest.boxes q) ≡ cond b 0 16
    go true e = ap length (move_none full_numbers 36 longest.boxes q e)
    go false e =
        let to : q / 36 < 36 = omega arith in
        let from : q % 36 < 36 = omega arith in
        let a = full-number (q / 36) to in
        let b = full-number (q % 36) from in
        ap length (move_some full_numbers 36 longest.boxes q (λ z. omega arith))
        ∙ omega (
          arith,
          row_bytes (move_row full_numbers 36 q (get_or longest.boxes q 0)),
          digits_size 4 (get_or full_numbers (q / 36) 0) (omega arith) (omega arith),
          digits_size 4 (get_or full_numbers (q % 36) 0) (omega arith) (omega arith),
          digits_size 2 (get_or longest.boxes q 0) (omega arith) (omega arith),
        )

-- 1,260 of the 1,296 places have a row
pairs_bytes : sum 1296 (λ q. cond (eqb (q / 36) (q % 36)) 0 16) ≡ 20160
unfolding sum
pairs_bytes = refl

rows_bytes : length (joined 1296 (move_text full_numbers 36 longest.boxes)) ≡ 20160
rows_bytes =
    joined_length 1296 (move_text full_numbers 36 longest.boxes)
    ∙ sum_ext 1296 (λ q. length (move_text full_numbers 36 longest.boxes q)) (λ q. cond (eqb (q / 36) (q % 36)) 0 16) move_bytes
    ∙ pairs_bytes

moves_bytes : length (moves_text full_numbers 36 longest.boxes) ≡ 14 + 20160
unfolding move_names
moves_bytes = omega (arith, length-append move_names (joined 1296 (move_text full_numbers 36 longest.boxes)), rows_bytes)

sets_bytes : sets_text 0 36 full_numbers longest.groups ≡ []
unfolding some
sets_bytes = refl

low : GroupsUpTo 0 36 longest.groups
low i h = omega (arith, get_or-replicate {A = ℕ} 36 i 0 0 h)

-- ---- the text

pub long_reached : length (day_text long_limits longest) ≡ long_bytes
long_reached = omega (arith, day_length long_limits longest low, head_bytes, trains_bytes, moves_bytes, ap (λ (t : List ℕ). length t) sets_bytes)
