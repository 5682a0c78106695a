-- Demand 2 for the day file, over any limits of at most five digits:
--     write_read    a sound day written reads back as that day
--     read-write    an accepted text is what its day is written as
--     read-sound    what a text reads to is sound
-- So a record is sound exactly where some text reads to it.
-- Assumes nothing.
use Rattle.std.specs.Prelude.{◌≡◌, refl, cond, ◌&&◌, ◌↔◌, replicate}
use Rattle.std.proofs.Math.Path.{sym, ap, subst}
use Rattle.std.proofs.Common.{ap₂, ◌∙◌, le_trans, arith, le-ltb}
use mathlib.Core.List.{List, [], ◌∷◌, ◌++◌, map}
use Prim.Native.Nat.{ℕ, suc, ◌-◌, ◌*◌, ◌/◌, ◌%◌, ◌≤◌, ◌<◌}
use Rattle.std.proofs.Math.Dec.{T, eqb, eqb→eq}
use Rattle.std.proofs.Math.ListN.{length, get_or, length-map, length-replicate}
use Rattle.fold.specs.Test.{both_of}
use Rattle.fold.specs.Fold.{each_at, each_i}
use Rattle.fold.specs.Listed.{listed, length-listed, listed_all, listed_ext, joined_ext}
use Rattle.model.specs.Model.{Yard, group_of}
use Rattle.day.specs.Answer.{Answer, gives, on_given}
use Rattle.day.specs.AnswerLaws.{given_then}
use Rattle.day.specs.Sound.{day_limits, head_ranges, train_row, train_sound, unused, position_sound, group_sound, pair_sound, receiver_sound, sound}
use Rattle.day.specs.SoundLaws.{Within, within_is, Shaped, Sound, sound_tests, tests_sound, shaped_is, is_shaped, sound_is}
use Rattle.day.specs.declared.Limits.{Limits}
use Rattle.dayfile.specs.Reading.{field1, field2, field3, File, numbers_of, read_file, padded, position, place_of, stored_moves, stored_groups, day_of, read_day}
use Rattle.dayfile.specs.Writing.{file_text, move_rows, member_rows, group_rows, file_of_lem, day_text, Short}
use Rattle.dayfile.specs.Sections.{FineTrains, FineMoves, FineGroups}
use Rattle.dayfile.specs.Files.{Fine, file_written, file_read}
use Rattle.dayfile.specs.Trains.{padded-at, length-padded, trains_at, Rising, rising, InLimits, in_limits_lem, train_row_lem, positions_sound, rows_fine, column_back}
use Rattle.dayfile.specs.Stored.{length-stored}
use Rattle.dayfile.specs.Moves.{moves_of, pairs-sound, table_fine, boxes_back, moves_back}
use Rattle.dayfile.specs.Groups.{groups_of, groups_sound, column_fine, groups_back, members_back}

-- ---- zeros behind the numbers change no row

moves_unpadded : (width : ℕ) (boxes numbers : List ℕ) (m : ℕ) → moves_of width boxes (numbers ++ replicate m 0) ≡ moves_of width boxes numbers
unfolding move_rows
moves_unpadded width boxes numbers m =
    joined_ext (width * width) _ _
    (λ q h. ap₂ (λ a b. cond (eqb (get_or boxes q 0) 0) [] ((a ∷ b ∷ get_or boxes q 0 ∷ []) ∷ [])) (padded-at numbers m (q / width)) (padded-at numbers m (q % width)))

groups_unpadded : (l : Limits) (groups : List ℕ) (n : ℕ) (numbers : List ℕ) (m : ℕ) → groups_of l groups n (numbers ++ replicate m 0) ≡ groups_of l groups n numbers
unfolding group_rows member_rows
groups_unpadded l groups n numbers m =
    joined_ext l.groups _ _
    (λ g h. joined_ext n _ _ (λ i k. ap (λ a. cond (eqb (group_of groups i) (suc g)) ((suc g ∷ a ∷ []) ∷ []) []) (padded-at numbers m i)))

-- ---- a sound day's rows keep the rules, and give the day back

module _ (l : Limits) (y : Yard) (sound-y : T (sound l y)) where
  shape : Shaped l y
  shape = shaped_is l y (sound_tests l y sound-y).0

  is : Sound l y
  is = sound_is l y sound-y

  few : y.trains ≤ l.trains
  few = is.trains.1

  abbrev row : ℕ → List ℕ
  row = train_row y.numbers y.first y.last

  abbrev rows : List (List ℕ)
  rows = listed y.trains (train_row y.numbers y.first y.last)

  train_sound_lem : (i : ℕ) → i < l.trains → T (position_sound l y.trains y.slots y.numbers y.first y.last i)
  train_sound_lem i h = each_at l.trains _ (sound_tests l y sound-y).2 i h

  unused-at : (i : ℕ) → y.trains ≤ i → i < l.trains → (get_or y.numbers i 0 ≡ 0) × (get_or y.first i 0 ≡ 0) × (get_or y.last i 0 ≡ 0)
  unfolding position_sound unused
  unused-at i g h =
      let t = subst (λ b. T (cond b (train_sound l y.slots y.numbers y.first y.last i) (unused y.numbers y.first y.last i))) (le-ltb i y.trains g) (train_sound_lem i h) in
      let (a, c) = both_of (eqb (get_or y.numbers i 0) 0 && eqb (get_or y.first i 0) 0) (eqb (get_or y.last i 0) 0) t in
      let (d, b) = both_of (eqb (get_or y.numbers i 0) 0) (eqb (get_or y.first i 0) 0) a in
      (eqb→eq _ _ d, eqb→eq _ _ b, eqb→eq _ _ c)

  numbers_back : padded l.trains (numbers_of rows) ≡ y.numbers
  numbers_back = column_back field1 y.trains l.trains row y.numbers refl shape.numbers few (λ i h. refl) (λ i g h. (unused-at i g h).0)

  first_back : padded l.trains (map field2 rows) ≡ y.first
  first_back = column_back field2 y.trains l.trains row y.first refl shape.first few (λ i h. refl) (λ i g h. (unused-at i g h).1)

  last_back : padded l.trains (map field3 rows) ≡ y.last
  last_back = column_back field3 y.trains l.trains row y.last refl shape.last few (λ i h. refl) (λ i g h. (unused-at i g h).2)

  trains_fine : FineTrains l y.slots 0 rows
  trains_fine = rows_fine l y.trains y.slots y.numbers y.first y.last (λ i h. train_sound_lem i (le_trans h few))

  abbrev numbers : List ℕ
  numbers = numbers_of rows

  count : length numbers ≡ y.trains
  count = length-map rows field1 ∙ length-listed y.trains row

  pairs : (i j : ℕ) → i < l.trains → j < l.trains → T (pair_sound l (length numbers) l.trains y.boxes i j)
  unfolding receiver_sound
  pairs i j hi hj =
      let t = each_at l.trains (receiver_sound l y.trains y.width y.boxes) (sound_tests l y sound-y).3 i hi in
      let u = each_at l.trains (pair_sound l y.trains y.width y.boxes i) t j hj in
      subst (λ w. T (pair_sound l (length numbers) w y.boxes i j)) shape.width (subst (λ k. T (pair_sound l k y.width y.boxes i j)) (sym count) u)

  groups_kept : (i : ℕ) → i < l.trains → T (group_sound l (length numbers) y.groups i)
  groups_kept i h = subst (λ k. T (group_sound l k y.groups i)) (sym count) (each_at l.trains _ (sound_tests l y sound-y).4 i h)

  few_numbers : length numbers ≤ l.trains
  few_numbers = omega (arith, count, few)

  up : Rising numbers
  up = rising l y.slots rows trains_fine

  numbered : InLimits l numbers
  numbered = in_limits_lem l y.slots rows trains_fine

  -- the moves and the groups of the record, in the rows' numbers
  moves_same : (file_of_lem l y).moves ≡ moves_of l.trains y.boxes numbers
  unfolding file_of_lem
  moves_same =
      ap (λ w. moves_of w y.boxes y.numbers) shape.width ∙ ap (moves_of l.trains y.boxes) (sym numbers_back)
      ∙ moves_unpadded l.trains y.boxes numbers (l.trains - length numbers)

  groups_same : (file_of_lem l y).groups ≡ groups_of l y.groups (length numbers) numbers
  unfolding file_of_lem
  groups_same =
      ap (λ n. groups_of l y.groups n y.numbers) (sym count) ∙ ap (groups_of l y.groups (length numbers)) (sym numbers_back)
      ∙ groups_unpadded l y.groups (length numbers) numbers (l.trains - length numbers)

  pub day_fine : Fine l (file_of_lem l y)
  unfolding file_of_lem
  day_fine = record {
    fields = refl;
    head = (sound_tests l y sound-y).1;
    count = length-listed y.trains row;
    trains = trains_fine;
    moves = subst (λ (m : List (List ℕ)). FineMoves l numbers (0 ∷ 0 ∷ 0 ∷ []) m) (sym moves_same) (table_fine l numbers l.trains few_numbers up y.boxes numbered pairs);
    groups = subst (λ (m : List (List ℕ)). FineGroups l numbers [] (0 ∷ 0 ∷ []) m) (sym groups_same) (column_fine l numbers l.trains few_numbers up y.groups numbered groups_kept);
  }

  day_back : day_of l (file_of_lem l y) ≡ y
  unfolding day_of file_of_lem
  day_back =
      let boxes : stored_moves numbers l.trains (replicate (l.trains * l.trains) 0) (file_of_lem l y).moves ≡ y.boxes =
      ap (stored_moves numbers l.trains (replicate (l.trains * l.trains) 0)) moves_same
      ∙ boxes_back l numbers l.trains few_numbers up y.boxes numbered pairs shape.boxes in
      let groups : stored_groups numbers (replicate l.trains 0) (file_of_lem l y).groups ≡ y.groups =
      ap (stored_groups numbers (replicate l.trains 0)) groups_same
      ∙ groups_back l numbers l.trains few_numbers up y.groups numbered groups_kept shape.groups in
      λ i. record {
        trains = y.trains;
        tracks = y.tracks;
        slots = y.slots;
        revisit = y.revisit;
        split = y.split;
        numbers = numbers_back i;
        first = first_back i;
        last = last_back i;
        groups = groups i;
        width = sym shape.width i;
        boxes = boxes i;
      }

-- ---- rows that keep the rules make a sound day, whose rows they are

five_fields : (v : List ℕ) → length v ≡ 5 → get_or v 0 0 ∷ get_or v 1 0 ∷ get_or v 2 0 ∷ get_or v 3 0 ∷ get_or v 4 0 ∷ [] ≡ v
five_fields [] e = absurd (omega arith)
five_fields (a ∷ []) e = absurd (omega arith)
five_fields (a ∷ b ∷ []) e = absurd (omega arith)
five_fields (a ∷ b ∷ c ∷ []) e = absurd (omega arith)
five_fields (a ∷ b ∷ c ∷ d ∷ []) e = absurd (omega arith)
five_fields (a ∷ b ∷ c ∷ d ∷ g ∷ []) e = refl
five_fields (a ∷ b ∷ c ∷ d ∷ g ∷ h ∷ v) e = absurd (omega arith)

module _ (l : Limits) (f : File) (fine : Fine l f) where
  abbrev names : List ℕ
  names = numbers_of f.trains

  names-count : length names ≡ get_or f.head 0 0
  names-count = length-map f.trains field1 ∙ fine.count

  trains_few : get_or f.head 0 0 ≤ l.trains
  unfolding head_ranges
  trains_few = first f.head fine.fields (within_is (head_ranges l) f.head fine.head)
    where
      first : (v : List ℕ) → length v ≡ 5 → Within (head_ranges l) v → get_or v 0 0 ≤ l.trains
      first [] e w = absurd (omega arith)
      first (a ∷ v) e w = w.0.1

  names_few : length names ≤ l.trains
  names_few = omega (arith, names-count, trains_few)

  names_up : Rising names
  names_up = rising l (get_or f.head 2 0) f.trains fine.trains

  names-numbered : InLimits l names
  names-numbered = in_limits_lem l (get_or f.head 2 0) f.trains fine.trains

  file-sound : T (sound l (day_of l f))
  unfolding day_of receiver_sound
  file-sound =
      tests_sound l (day_of l f)
      (is_shaped l (day_of l f) (record {
        width = refl;
        numbers = length-padded l.trains names names_few;
        first = length-padded l.trains (map field2 f.trains) (omega (arith, length-map f.trains field2, fine.count, trains_few));
        last = length-padded l.trains (map field3 f.trains) (omega (arith, length-map f.trains field3, fine.count, trains_few));
        groups = length-stored (λ r. position names (field2 r)) field1 f.groups (replicate l.trains 0) ∙ length-replicate {A = ℕ} l.trains 0;
        boxes = length-stored (place_of names l.trains) field3 f.moves (replicate (l.trains * l.trains) 0) ∙ length-replicate {A = ℕ} (l.trains * l.trains) 0;
      }))
      (rw (five_fields f.head fine.fields) fine.head)
      (each_i l.trains _ (λ i h. rw (← fine.count, length-map f.trains field1, length-map f.trains field2, length-map f.trains field3) (positions_sound l (get_or f.head 2 0) f.trains (l.trains - length f.trains) fine.trains i)))
      (each_i l.trains _ (λ i hi. each_i l.trains _ (λ j hj. rw (← names-count) (pairs-sound l names l.trains names_few names_up f.moves fine.moves i j hi hj))))
      (each_i l.trains _ (λ i h. rw (← names-count) (groups_sound l names l.trains names_few names_up f.groups fine.groups i h)))

  file_back : file_of_lem l (day_of l f) ≡ f
  unfolding file_of_lem day_of
  file_back =
      let pad : ℕ = l.trains - length f.trains in
      let trains : listed (get_or f.head 0 0) (train_row (padded l.trains names) (padded l.trains (map field2 f.trains)) (padded l.trains (map field3 f.trains))) ≡ f.trains =
      rw (length-map f.trains field1, length-map f.trains field2, length-map f.trains field3, ← fine.count)
      (listed_ext (length f.trains) _ (λ i. get_or f.trains i []) (λ i h. train_row_lem l (get_or f.head 2 0) f.trains pad i (trains_at l (get_or f.head 2 0) f.trains 0 fine.trains i h).0)
      ∙ listed_all f.trains []) in
      let table : List ℕ = stored_moves names l.trains (replicate (l.trains * l.trains) 0) f.moves in
      let moves : moves_of l.trains table (padded l.trains names) ≡ f.moves =
      moves_unpadded l.trains table names (l.trains - length names)
      ∙ moves_back l names l.trains names_few names_up f.moves names-numbered fine.moves in
      let column : List ℕ = stored_groups names (replicate l.trains 0) f.groups in
      let groups : groups_of l column (get_or f.head 0 0) (padded l.trains names) ≡ f.groups =
      ap (λ n. groups_of l column n (padded l.trains names)) (sym names-count)
      ∙ groups_unpadded l column (length names) names (l.trains - length names)
      ∙ members_back l names l.trains names_few names_up f.groups names-numbered fine.groups in
      let head = five_fields f.head fine.fields in
      λ i. record { head = head i; trains = trains i; moves = moves i; groups = groups i }

-- ---- the laws

pub write_read : (l : Limits) (y : Yard) → Short l → T (sound l y) → read_day l (day_text l y) ≡ gives y
unfolding read_day day_text
write_read l y short s = ap (λ (a : Answer File). on_given a λ f. gives (day_of l f)) (file_written l (file_of_lem l y) short (day_fine l y s)) ∙ ap gives (day_back l y s)

pub read_sound : (l : Limits) (text : List ℕ) (y : Yard) → read_day l text ≡ gives y → T (sound l y)
unfolding read_day
read_sound l text y h =
    given_then (read_file l text) _ h λ f e g.
    let same : day_of l f ≡ y = cc in
    subst (λ (z : Yard). T (sound l z)) same (file-sound l f (file_read l text f e).fine)

pub read_write : (l : Limits) (text : List ℕ) (y : Yard) → read_day l text ≡ gives y → text ≡ day_text l y
unfolding read_day day_text
read_write l text y h =
    given_then (read_file l text) _ h λ f e g.
    let same : day_of l f ≡ y = cc in
    let r = file_read l text f e in
    r.text ∙ ap file_text (sym (file_back l f r.fine) ∙ ap (file_of_lem l) same)

-- 01: a day record is sound if some day file reads to it
pub sound_is_read : (l : Limits) (y : Yard) → Short l → T (sound l y) ↔ ((text : List ℕ) × (read_day l text ≡ gives y))
sound_is_read l y short = (λ s. (day_text l y, write_read l y short s), λ w. read_sound l w.0 y w.1)

-- ---- the day file's limits have at most five digits, so these laws hold of them

pub day_short : Short day_limits
day_short =
    record { trains = omega arith; tracks = omega arith; slots = omega arith; weight = omega arith; number = omega arith; boxes = omega arith; groups = omega arith }

pub day_written_reads : (y : Yard) → T (sound day_limits y) → read_day day_limits (day_text day_limits y) ≡ gives y
day_written_reads y = write_read day_limits y day_short

pub day_sound_is_read : (y : Yard) → T (sound day_limits y) ↔ ((text : List ℕ) × (read_day day_limits text ≡ gives y))
day_sound_is_read y = sound_is_read day_limits y day_short
