-- Limits that allow greater train numbers and more groups: every text that was accepted is accepted, as the same day. So the day files of
-- before order 2 of document 02, whose train numbers went up to 255, and of before order 4, which had no groups, are read as they were.
-- Assumes nothing.
use Rattle.std.specs.Prelude.{◌≡◌, refl, cond, ◌&&◌, List, [], ℕ, zero, suc, ◌≤◌, ◌<◌, leb, eqb, get_or}
use Rattle.std.proofs.Common.{ap, ◌∙◌, append-nil, ⊎_elim, le_trans, le_of_suc-le-suc, eq-or-lt_of_le, arith, leb→le, ne_eqb}
use Rattle.std.proofs.Math.Bool.{Bool, true, false}
use Rattle.std.proofs.Math.Dec.{T, ltb, le→leb}
use Rattle.fold.specs.Test.{both, both_of}
use Rattle.fold.specs.Fold.{each_at, each_i}
use Rattle.fold.specs.Listed.{joined}
use Rattle.model.specs.Model.{Yard, group_of}
use Rattle.model.specs.Groups.{NoGroups}
use Rattle.day.specs.Answer.{gives}
use Rattle.day.specs.Sound.{day_limits, within, head_ranges, train_ranges, train_row, number_before, train_sound, unused, position_sound, group_sound, pair_sound, receiver_sound, shaped, sound}
use Rattle.day.specs.SoundLaws.{within_is, is_within, sound_tests, tests_sound, sound_is}
use Rattle.day.specs.declared.Limits.{Limits}
use Rattle.dayfile.specs.Reading.{read_day}
use Rattle.dayfile.specs.Writing.{member_rows, group_rows, file_of_lem, day_text, Short}
use Rattle.dayfile.specs.RoundTrip.{write_read, read_sound, read_write, day_short}

-- the same limits but for train numbers, which go up to k, and groups, which go up to j
abbrev pub wider : ℕ → ℕ → Limits → Limits
wider k j l = record { trains = l.trains; tracks = l.tracks; slots = l.slots; weight = l.weight; number = k; boxes = l.boxes; groups = j }

-- lists joined that are empty from i on
joined_empty : {X : Type 0} (i k : ℕ) (f : ℕ → List X) → i ≤ k → ((g : ℕ) → i ≤ g → f g ≡ []) → joined i f ≡ joined k f
unfolding joined
joined_empty i zero f h none = let e : i ≡ 0 = omega arith in rw e refl
joined_empty i (suc k) f h none =
    ⊎_elim (λ (e : i ≡ suc k). rw e refl)
    (λ (l : i < suc k). rw (none k (le_of_suc-le-suc l), append-nil (joined k f)) (joined_empty i k f (le_of_suc-le-suc l) none)) (eq-or-lt_of_le h)

-- no train has a later group than its own
no_members : (n : ℕ) (numbers groups : List ℕ) (g : ℕ) → ((i : ℕ) → i < n → group_of groups i < g) → group_rows n numbers groups g ≡ []
unfolding group_rows member_rows joined
no_members zero numbers groups g low = refl
no_members (suc n) numbers groups g low =
    let here = low n (omega arith) in
    rw (no_members n numbers groups g (λ i h. low i (omega arith)), ne_eqb (group_of groups n) g (λ e. omega arith))

module _ (l : Limits) (k j : ℕ) (up : l.number ≤ k) (more : l.groups ≤ j) where
  position-sound : (n slots : ℕ) (numbers first last : List ℕ) (i : ℕ) → T (position_sound l n slots numbers first last i)
      → T (position_sound (wider k j l) n slots numbers first last i)
  unfolding position_sound train_sound train_ranges
  position-sound n slots numbers first last i t = go (ltb i n) t
    where
      rises : Bool
      rises = ltb (number_before numbers i) (get_or numbers i 0)

      window : Bool
      window = leb (get_or first i 0) (get_or last i 0)

      fields : Limits → Bool
      fields m = within (train_ranges m slots) (train_row numbers first last i)

      go : (b : Bool) → T (cond b (fields l && rises && window) (unused numbers first last i))
          → T (cond b (fields (wider k j l) && rises && window) (unused numbers first last i))
      go true t =
          let (a, w) = both_of (fields l && rises) window t in
          let (f, r) = both_of (fields l) rises a in
          let (number, windows) = within_is (train_ranges l slots) (train_row numbers first last i) f in
          both (fields (wider k j l) && rises) window
          (both (fields (wider k j l)) rises
          (is_within (train_ranges (wider k j l) slots) (train_row numbers first last i) ((number.0, le_trans number.1 up), windows)) r) w
      go false t = t

  group_sound_lem : (n : ℕ) (groups : List ℕ) (i : ℕ) → T (group_sound l n groups i) → T (group_sound (wider k j l) n groups i)
  unfolding group_sound
  group_sound_lem n groups i t = go (ltb i n) t
    where
      go : (b : Bool) → T (cond b (leb (group_of groups i) l.groups) (eqb (group_of groups i) 0)) → T (cond b (leb (group_of groups i) j) (eqb (group_of groups i) 0))
      go true t = le→leb (group_of groups i) j (le_trans (leb→le (group_of groups i) l.groups t) more)
      go false t = t

  wider-sound : (y : Yard) → T (sound l y) → T (sound (wider k j l) y)
  unfolding shaped head_ranges receiver_sound pair_sound
  wider-sound y t =
      let (shape, head, positions, boxes, groups) = sound_tests l y t in
      tests_sound (wider k j l) y shape head
      (each_i l.trains _ (λ i h. position-sound y.trains y.slots y.numbers y.first y.last i (each_at l.trains _ positions i h)))
      boxes (each_i l.trains _ (λ i h. group_sound_lem y.trains y.groups i (each_at l.trains _ groups i h)))

  -- such a day is written as it was: no train is in one of the groups that come in addition
  same_text : (y : Yard) → T (sound l y) → day_text l y ≡ day_text (wider k j l) y
  unfolding day_text file_of_lem
  same_text y t =
      rw (joined_empty l.groups j (λ g. group_rows y.trains y.numbers y.groups (suc g)) more
      (λ g h. no_members y.trains y.numbers y.groups (suc g) (λ i b. omega (arith, (sound_is l y t).groups i b))))

  pub still_read : Short (wider k j l) → (text : List ℕ) (y : Yard) → read_day l text ≡ gives y → read_day (wider k j l) text ≡ gives y
  still_read short text y r =
      let s = read_sound l text y r in
      ap (read_day (wider k j l)) (read_write l text y r ∙ same_text y s) ∙ write_read (wider k j l) y short (wider-sound y s)

-- with the limits before order 2
pub accepted_before : (text : List ℕ) (y : Yard) → read_day (wider 255 0 day_limits) text ≡ gives y → read_day day_limits text ≡ gives y
accepted_before = still_read (wider 255 0 day_limits) day_limits.number day_limits.groups (omega arith) (omega arith) day_short

-- with those before order 4, and the day has no groups
pub accepted_before_groups : (text : List ℕ) (y : Yard) → read_day (wider day_limits.number 0 day_limits) text ≡ gives y
    → (read_day day_limits text ≡ gives y) × NoGroups y
accepted_before_groups text y r =
    let before : Limits = wider day_limits.number 0 day_limits in (
      still_read before day_limits.number day_limits.groups (omega arith) (omega arith) day_short text y r,
      λ i h. omega (arith, (sound_is before y (read_sound before text y r)).groups i h),
    )
