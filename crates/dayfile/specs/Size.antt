-- The greatest size of a day file: the text of a sound day has at most as many bytes as the limits allow, and so has every text that
-- is accepted; with `day_limits` these are `day_bytes`. Stated over any limits: others only change the number.
-- Assumes nothing.
use Rattle.std.specs.Prelude.{◌≡◌, Bool, cond, ◌&&◌, leb, eqb, get_or}
use Rattle.std.proofs.Math.Path.{refl, ap, subst}
use Rattle.std.proofs.Math.Bool.{true, false, not}
use mathlib.Core.List.{List, [], ◌∷◌, ◌++◌}
use Prim.Native.Nat.{ℕ, zero, suc, ◌+◌, ◌-◌, ◌*◌, ◌≤◌, ◌<◌}
use Rattle.std.proofs.Common.{le_trans, add-zero, add-suc, mul-le-mul_right, eqb→eq, eq-eqb, lt-ltb}
use Rattle.std.proofs.Math.Nat.{suc-mul, mul_comm}
use native.Mathlib.Omega.{arith}
use Rattle.std.proofs.Math.Dec.{T, ltb}
use Rattle.std.proofs.Math.ListN.{length, length-append}
use Rattle.fold.specs.Test.{of_true}
use Rattle.fold.specs.Fold.{each_at}
use Rattle.fold.specs.Listed.{joined}
use Rattle.model.specs.Model.{Yard, cell, group_of}
use Rattle.day.specs.Answer.{gives}
use Rattle.day.specs.Sound.{day_limits, head_ranges, train_ranges, move_ranges, group_ranges, head_row, receiver_sound, pair_sound, sound}
use Rattle.day.specs.SoundLaws.{within_is, shaped_is, sound_tests, sound_is}
use Rattle.day.specs.declared.Limits.{Limits}
use Rattle.lines.specs.Lines.{row_text, rows_text}
use Rattle.lines.specs.RowSize.{most_in_row, digits_rise, digits_size, row_size}
use Rattle.dayfile.specs.Reading.{head_names, train_names, move_names, group_names, field1, field2, numbers_of, File, read_day}
use Rattle.dayfile.specs.Writing.{groups_text, file_text, move_row, move_rows, member_rows, group_rows, file_of_lem, day_text}
use Rattle.dayfile.specs.Sections.{FineTrains, FineMoves, FineGroups, some_group}
use Rattle.dayfile.specs.RoundTrip.{day_fine, read_sound, read_write}

-- ---- the greatest size

-- of a text: three names lines, one row, a row for each train, a row for each pair of different trains; where there are groups, a fourth
-- names line and at most one row for each train
unfoldable pub most_bytes : Limits → ℕ
most_bytes l =
    length head_names + length train_names + length move_names + most_in_row (head_ranges l)
    + l.trains * most_in_row (train_ranges l l.slots)
    + l.trains * (l.trains - 1) * most_in_row (move_ranges l)
    + cond (ltb 0 l.groups) (length group_names + l.trains * most_in_row (group_ranges l)) 0

-- ---- rows of at most so many bytes

abbrev AtMost : ℕ → List (List ℕ) → Type 0
AtMost most [] = Unit
AtMost most (r ∷ rows) = (length (row_text r) ≤ most) × AtMost most rows

rows_size : (most n : ℕ) (rows : List (List ℕ)) → AtMost most rows → length rows ≤ n → length (rows_text rows) ≤ n * most
unfolding rows_text
rows_size most n rows f h = omega (arith, all rows f, mul-le-mul_right {m = length rows} {n = n} most h)
  where
    all : (rows : List (List ℕ)) → AtMost most rows → length (rows_text rows) ≤ length rows * most
    all [] f = omega arith
    all (r ∷ rows) f = omega (arith, length-append (row_text r) (rows_text rows), suc-mul (length rows) most, f.0, all rows f.1)

module _ (l : Limits) where
  -- a day of fewer slots has no longer rows
  train_row_lem : (slots : ℕ) → slots ≤ l.slots → most_in_row (train_ranges l slots) ≤ most_in_row (train_ranges l l.slots)
  unfolding most_in_row train_ranges
  train_row_lem slots few = omega (arith, digits_rise slots l.slots few)

  trains_most : (slots : ℕ) (rows : List (List ℕ)) (before : ℕ) → slots ≤ l.slots → FineTrains l slots before rows → AtMost (most_in_row (train_ranges l l.slots)) rows
  trains_most slots [] before few f = tt
  trains_most slots (r ∷ rows) before few f =
      let w = row_size (train_ranges l slots) r (unfold train_ranges in f.0) (within_is (train_ranges l slots) r f.1.0) in
      (le_trans w (train_row_lem slots few), trains_most slots rows (field1 r) few f.2)

  moves_most : (numbers : List ℕ) (rows : List (List ℕ)) (before : List ℕ) → FineMoves l numbers before rows → AtMost (most_in_row (move_ranges l)) rows
  moves_most numbers [] before f = tt
  moves_most numbers (r ∷ rows) before f =
      (row_size (move_ranges l) r (unfold move_ranges in f.0) (within_is (move_ranges l) r f.1.0), moves_most numbers rows r f.2)

  groups_most : (numbers : List ℕ) (rows : List (List ℕ)) (taken before : List ℕ) → FineGroups l numbers taken before rows → AtMost (most_in_row (group_ranges l)) rows
  groups_most numbers [] taken before f = tt
  groups_most numbers (r ∷ rows) taken before f =
      (row_size (group_ranges l) r (unfold group_ranges in f.0) (within_is (group_ranges l) r f.1.0), groups_most numbers rows (field2 r ∷ taken) r f.2)

  -- the fourth section: where it stands, the limits have groups
  section_most : (numbers : List ℕ) (rows : List (List ℕ)) (taken before : List ℕ) → FineGroups l numbers taken before rows → length rows ≤ l.trains
      → length (groups_text rows) ≤ cond (ltb 0 l.groups) (length group_names + l.trains * most_in_row (group_ranges l)) 0
  section_most numbers [] taken before f h = omega arith
  section_most numbers (r ∷ rows) taken before f h =
      let (a, b) = some_group l r f.0 f.1.0 in
      rw (lt-ltb 0 l.groups (omega arith))
      (omega (
        arith,
        length-append group_names (rows_text (r ∷ rows)),
        rows_size (most_in_row (group_ranges l)) l.trains (r ∷ rows) (groups_most numbers (r ∷ rows) taken before f) h,
      ))

-- ---- at most one row at each place of the table, and none where a train would meet itself

module _ {X : Type 0} (f : ℕ → List X) (one : (q : ℕ) → length (f q) ≤ 1) where
  places : (m k : ℕ) → length (joined (m + k) f) ≤ length (joined m f) + k
  unfolding joined
  places m zero = rw (add-zero m) (omega arith)
  places m (suc k) = rw (add-suc m k) (omega (arith, length-append (joined (m + k) f) (f (m + k)), one (m + k), places m k))

  -- between one such place and the next there are w others
  pairs-between : (w d : ℕ) → ((i : ℕ) → i ≤ d → f (i * w + i) ≡ []) → length (joined (suc (d * w + d)) f) ≤ d * w
  unfolding joined
  pairs-between w zero none =
      let e : 0 * w + 0 ≡ 0 = omega arith in
      omega (
        arith,
        length-append (joined (0 * w + 0) f) (f (0 * w + 0)),
        ap (λ (k : ℕ). length (joined k f)) e,
        ap (λ (r : List X). length r) (none 0 (omega arith)),
      )
  pairs-between w (suc d) none =
      let e : suc d * w + suc d ≡ suc (d * w + d) + w = omega (arith, suc-mul d w) in
      omega (
        arith,
        length-append (joined (suc d * w + suc d) f) (f (suc d * w + suc d)),
        ap (λ (r : List X). length r) (none (suc d) (omega arith)),
        ap (λ (k : ℕ). length (joined k f)) e,
        places (suc (d * w + d)) w,
        pairs-between w d (λ i h. none i (omega arith)),
        suc-mul d w,
      )

  pairs_size : (w : ℕ) → ((i : ℕ) → i < w → f (i * w + i) ≡ []) → length (joined (w * w) f) ≤ w * (w - 1)
  unfolding joined
  pairs_size zero none = omega arith
  pairs_size (suc v) none =
      let e : suc v * suc v ≡ suc (v * suc v + v) = omega (arith, suc-mul v (suc v)) in
      let d : suc v - 1 ≡ v = omega arith in
      rw (d, e, mul_comm (suc v) v) (pairs-between (suc v) v (λ i h. none i (omega arith)))

-- ---- at most one row of a group for each train

-- lists joined side by side
joined_beside : (k : ℕ) (f h : ℕ → List (List ℕ)) → length (joined k λ g. f g ++ h g) ≡ length (joined k f) + length (joined k h)
unfolding joined
joined_beside zero f h = refl
joined_beside (suc k) f h =
    omega (
      arith,
      length-append (joined k λ g. f g ++ h g) (f k ++ h k),
      length-append (f k) (h k),
      length-append (joined k f) (f k),
      length-append (joined k h) (h k),
      joined_beside k f h,
    )

module _ (numbers groups : List ℕ) where
  -- of the groups 1 to k a train has one at most, and none where its own is a later one
  one_group : (i k : ℕ) → (length (joined k λ g. member_rows numbers groups (suc g) i) ≤ 1)
      × (k < group_of groups i → length (joined k λ g. member_rows numbers groups (suc g) i) ≤ 0)
  unfolding joined member_rows
  one_group i zero = (omega arith, λ h. omega arith)
  one_group i (suc k) = go (eqb (group_of groups i) (suc k)) refl (one_group i k)
    where
      before : List (List ℕ)
      before = joined k λ g. member_rows numbers groups (suc g) i

      go : (b : Bool) → eqb (group_of groups i) (suc k) ≡ b → (length before ≤ 1) × (k < group_of groups i → length before ≤ 0)
          → (length (before ++ cond b ((suc k ∷ get_or numbers i 0 ∷ []) ∷ []) []) ≤ 1)
          × (suc k < group_of groups i → length (before ++ cond b ((suc k ∷ get_or numbers i 0 ∷ []) ∷ []) []) ≤ 0)
      go true e (few, none) =
          let q = eqb→eq (group_of groups i) (suc k) (of_true e) in
          (omega (arith, length-append before ((suc k ∷ get_or numbers i 0 ∷ []) ∷ []), none (omega arith)), λ h. absurd (omega arith))
      go false e (few, none) = (omega (arith, length-append before []), λ h. omega (arith, length-append before [], none (omega arith)))

  members-count : (k n : ℕ) → length (joined k λ g. group_rows n numbers groups (suc g)) ≤ n
  unfolding group_rows joined
  members-count k zero = none k
    where
      none : (k : ℕ) → length {A = List ℕ} (joined k λ g. []) ≤ 0
      none zero = omega arith
      none (suc k) = omega (arith, length-append {A = List ℕ} (joined k λ g. []) [], none k)
  members-count k (suc n) =
      omega (
        arith,
        joined_beside k (λ g. group_rows n numbers groups (suc g)) (λ g. member_rows numbers groups (suc g) n),
        members-count k n,
        (one_group n k).0,
      )

-- ---- the text of a sound day

file_size : (f : File) → length (file_text f)
    ≡ length head_names + length train_names + length move_names + length (row_text f.head) + length (rows_text f.trains) + length (rows_text f.moves)
    + length (groups_text f.groups)
unfolding file_text
file_size f = simp length-append (omega arith)

module _ (l : Limits) (y : Yard) (sound-y : T (sound l y)) where
  one_row : (q : ℕ) → length (move_rows y.numbers y.width y.boxes q) ≤ 1
  unfolding move_rows
  one_row q = go (eqb (get_or y.boxes q 0) 0)
    where
      go : (b : Bool) → length (cond b [] (move_row y.numbers y.width q (get_or y.boxes q 0) ∷ [])) ≤ 1
      go true = omega arith
      go false = omega arith

  no_row_lem : (i : ℕ) → i < l.trains → move_rows y.numbers y.width y.boxes (i * y.width + i) ≡ []
  unfolding move_rows receiver_sound pair_sound
  no_row_lem i h =
      let n : ℕ = y.trains in
      let x : ℕ = cell y.width y.boxes i i in
      let t = each_at l.trains (receiver_sound l n y.width y.boxes) (sound_tests l y sound-y).3 i h in
      let u = each_at l.trains (pair_sound l n y.width y.boxes i) t i h in
      rw (eq-eqb x 0 (eqb→eq x 0 (itself (ltb i n && ltb i n) (eqb i i) (leb x l.boxes) (eqb x 0) (of_true (eq-eqb i i refl)) u)))
    where
      itself : (b c p q : Bool) → T c → T (cond (b && not c) p q) → T q
      itself true true p q e t = t
      itself true false p q e t = absurd e
      itself false true p q e t = t
      itself false false p q e t = t

  moves_count : length (file_of_lem l y).moves ≤ l.trains * (l.trains - 1)
  unfolding file_of_lem
  moves_count =
      let e : y.width ≡ l.trains = (shaped_is l y (sound_tests l y sound-y).0).width in
      subst (λ (w : ℕ). length (joined (y.width * y.width) (move_rows y.numbers y.width y.boxes)) ≤ w * (w - 1)) e
      (pairs_size (move_rows y.numbers y.width y.boxes) one_row y.width (λ i h. no_row_lem i (omega arith)))

pub day_size : (l : Limits) (y : Yard) → T (sound l y) → length (day_text l y) ≤ most_bytes l
unfolding day_text most_bytes file_of_lem head_ranges
day_size l y s =
    let fine = day_fine l y s in
    let is = sound_is l y s in
    let trains : List (List ℕ) = (file_of_lem l y).trains in
    let moves : List (List ℕ) = (file_of_lem l y).moves in
    let groups : List (List ℕ) = (file_of_lem l y).groups in
    omega (
      arith,
      file_size (file_of_lem l y),
      row_size (head_ranges l) (head_row y) refl (within_is (head_ranges l) (head_row y) fine.head),
      rows_size (most_in_row (train_ranges l l.slots)) l.trains trains (trains_most l y.slots trains 0 is.slots.1 fine.trains) (omega (arith, fine.count, is.trains.1)),
      rows_size (most_in_row (move_ranges l)) (l.trains * (l.trains - 1)) moves (moves_most l (numbers_of trains) moves (0 ∷ 0 ∷ 0 ∷ []) fine.moves) (moves_count l y s),
      section_most l (numbers_of trains) groups [] (0 ∷ 0 ∷ []) fine.groups (omega (arith, members-count y.numbers y.groups l.groups y.trains, is.trains.1)),
    )

-- ---- with the day file's limits

abbrev pub day_bytes : ℕ
day_bytes = 2437

pub day_most : most_bytes day_limits ≡ day_bytes
unfolding most_bytes most_in_row head_ranges train_ranges move_ranges group_ranges head_names train_names move_names group_names
day_most =
    omega (
      arith,
      digits_size 1 12 (omega arith) (omega arith),
      digits_size 0 8 (omega arith) (omega arith),
      digits_size 4 65535 (omega arith) (omega arith),
      digits_size 4 99999 (omega arith) (omega arith),
      digits_size 2 255 (omega arith) (omega arith),
    )

pub accepted_size : (text : List ℕ) (y : Yard) → read_day day_limits text ≡ gives y → length text ≤ day_bytes
accepted_size text y r = omega (arith, ap length (read_write day_limits text y r), day_size day_limits y (read_sound day_limits text y r), day_most)
