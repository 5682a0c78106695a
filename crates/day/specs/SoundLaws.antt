-- What the test of a sound day says, as statements that callers use.
-- Assumes nothing.
use Rattle.std.specs.Prelude.{◌≡◌, refl, Bool, cond, ◌&&◌, List, [], ◌∷◌, ℕ, zero, suc, ◌-◌, ◌*◌, ◌≤◌, ◌<◌, leb, length, get_or}
use Rattle.std.proofs.Common.{ap, arith, le→leb, lt-ltb, eq-eqb}
use Rattle.std.proofs.Math.Path.{subst}
use Rattle.std.proofs.Math.Bool.{true, false, not}
use Rattle.std.proofs.Math.Nat.{le_trans}
use Rattle.std.proofs.Math.Dec.{T, ltb, eqb, leb→le, ltb→lt, eqb→eq}
use Rattle.fold.specs.Test.{of_true, both, both_of}
use Rattle.fold.specs.Fold.{each, each_at}
use Rattle.model.specs.Model.{Yard, received, first_slot, last_slot, group_of}
use Rattle.day.specs.Sound.{Range, between, within, head_ranges, train_ranges, head_row, train_row, number_before, train_sound, unused, position_sound, group_sound, pair_sound, receiver_sound, shaped, sound}
use Rattle.day.specs.declared.Limits.{Limits}

-- ---- ranges

abbrev pub InRange : Range → ℕ → Type 0
InRange r x = (r.least ≤ x) × (x ≤ r.greatest)

abbrev pub Within : List Range → List ℕ → Type 0
Within [] values = Unit
Within (r ∷ ranges) [] = ⊥
Within (r ∷ ranges) (v ∷ values) = InRange r v × Within ranges values

pub within_is : (ranges : List Range) (values : List ℕ) → T (within ranges values) → Within ranges values
unfolding within
within_is [] values t = tt
within_is (r ∷ ranges) [] t = absurd t
within_is (r ∷ ranges) (v ∷ values) t =
    let (a, b) = both_of (between r v) (within ranges values) t in
    let (lo, hi) = both_of (leb r.least v) (leb v r.greatest) a in
    ((leb→le r.least v lo, leb→le v r.greatest hi), within_is ranges values b)

pub is_within : (ranges : List Range) (values : List ℕ) → Within ranges values → T (within ranges values)
unfolding within
is_within [] values w = tt
is_within (r ∷ ranges) [] w = absurd w
is_within (r ∷ ranges) (v ∷ values) w =
    both (between r v) (within ranges values)
    (both (leb r.least v) (leb v r.greatest) (le→leb r.least v w.0.0) (le→leb v r.greatest w.0.1)) (is_within ranges values w.1)

-- the number before a later position, as the code reads it
pub number-before : (numbers : List ℕ) (i : ℕ) → (i ≡ 0 → ⊥) → get_or numbers (i - 1) 0 ≡ number_before numbers i
unfolding number_before
number-before numbers zero h = absurd (h refl)
number-before numbers (suc i) h = ap (λ k. get_or numbers k 0) (omega arith)

pub number_first : (numbers : List ℕ) (i : ℕ) → i ≡ 0 → 0 ≡ number_before numbers i
unfolding number_before
number_first numbers zero h = refl
number_first numbers (suc i) h = absurd (omega arith)

-- ---- a sound day

pub record Shaped (l : Limits) (y : Yard) : Type 0 where
  pub width : y.width ≡ l.trains
  pub numbers : length y.numbers ≡ l.trains
  pub first : length y.first ≡ l.trains
  pub last : length y.last ≡ l.trains
  pub groups : length y.groups ≡ l.trains
  pub boxes : length y.boxes ≡ l.trains * l.trains

pub record Sound (l : Limits) (y : Yard) : Type 0 where
  pub shape : Shaped l y
  pub trains : (1 ≤ y.trains) × (y.trains ≤ l.trains)
  pub tracks : (1 ≤ y.tracks) × (y.tracks ≤ l.tracks)
  pub slots : (1 ≤ y.slots) × (y.slots ≤ l.slots)
  pub weights : (y.revisit ≤ l.weight) × (y.split ≤ l.weight)
  pub numbers : (i : ℕ) → i < y.trains → (1 ≤ get_or y.numbers i 0) × (get_or y.numbers i 0 ≤ l.number)
  pub windows : (i : ℕ) → i < y.trains → (1 ≤ first_slot y i) × (first_slot y i ≤ last_slot y i) × (last_slot y i ≤ y.slots)
  pub boxes : (i j : ℕ) → i < y.trains → j < y.trains → received y i j ≤ l.boxes
  pub own : (i : ℕ) → i < y.trains → received y i i ≡ 0
  pub groups : (i : ℕ) → i < y.trains → group_of y.groups i ≤ l.groups

module _ (l : Limits) (y : Yard) where
  positions : Bool
  positions = each l.trains (position_sound l y.trains y.slots y.numbers y.first y.last)

  tables : Bool
  tables = each l.trains (receiver_sound l y.trains y.width y.boxes)

  members : Bool
  members = each l.trains (group_sound l y.trains y.groups)

  -- the five tests of a sound day
  pub sound_tests : T (sound l y)
      → T (shaped l y) × T (within (head_ranges l) (head_row y))
      × T (each l.trains (position_sound l y.trains y.slots y.numbers y.first y.last))
      × T (each l.trains (receiver_sound l y.trains y.width y.boxes))
      × T (each l.trains (group_sound l y.trains y.groups))
  unfolding sound positions tables members
  sound_tests t =
      let (g, m) = both_of (shaped l y && within (head_ranges l) (head_row y) && positions && tables) members t in
      let (a, b) = both_of (shaped l y && within (head_ranges l) (head_row y) && positions) tables g in
      let (c, d) = both_of (shaped l y && within (head_ranges l) (head_row y)) positions a in
      let (e, f) = both_of (shaped l y) (within (head_ranges l) (head_row y)) c in
      (e, f, d, b, m)

  pub tests_sound : T (shaped l y) → T (within (head_ranges l) (head_row y))
      → T (each l.trains (position_sound l y.trains y.slots y.numbers y.first y.last))
      → T (each l.trains (receiver_sound l y.trains y.width y.boxes)) → T (each l.trains (group_sound l y.trains y.groups)) → T (sound l y)
  unfolding sound positions tables members
  tests_sound a b c d m =
      both (shaped l y && within (head_ranges l) (head_row y) && positions && tables) members
      (both (shaped l y && within (head_ranges l) (head_row y) && positions) tables
      (both (shaped l y && within (head_ranges l) (head_row y)) positions (both (shaped l y) (within (head_ranges l) (head_row y)) a b) c) d) m

  pub shaped_is : T (shaped l y) → Shaped l y
  unfolding shaped
  shaped_is t =
      let w = eqb y.width l.trains in
      let n = eqb (length y.numbers) l.trains in
      let e = eqb (length y.first) l.trains in
      let s = eqb (length y.last) l.trains in
      let g = eqb (length y.groups) l.trains in
      let (d, boxes) = both_of (w && n && e && s && g) (eqb (length y.boxes) (l.trains * l.trains)) t in
      let (a, groups) = both_of (w && n && e && s) g d in
      let (b, last) = both_of (w && n && e) s a in
      let (c, first) = both_of (w && n) e b in
      let (width, numbers) = both_of w n c in
      record { width = eqb→eq _ _ width; numbers = eqb→eq _ _ numbers; first = eqb→eq _ _ first; last = eqb→eq _ _ last; groups = eqb→eq _ _ groups; boxes = eqb→eq _ _ boxes }

  pub is_shaped : Shaped l y → T (shaped l y)
  unfolding shaped
  is_shaped h =
      let w = eqb y.width l.trains in
      let n = eqb (length y.numbers) l.trains in
      let e = eqb (length y.first) l.trains in
      let s = eqb (length y.last) l.trains in
      let g = eqb (length y.groups) l.trains in
      both (w && n && e && s && g) (eqb (length y.boxes) (l.trains * l.trains))
      (both (w && n && e && s) g
      (both (w && n && e) s (both (w && n) e (both w n (of_true (eq-eqb _ _ h.width)) (of_true (eq-eqb _ _ h.numbers))) (of_true (eq-eqb _ _ h.first))) (of_true (eq-eqb _ _ h.last)))
      (of_true (eq-eqb _ _ h.groups)))
      (of_true (eq-eqb _ _ h.boxes))

  -- position i of a train
  pub train_tests : (i : ℕ) → i < y.trains → T (position_sound l y.trains y.slots y.numbers y.first y.last i)
      → T (within (train_ranges l y.slots) (train_row y.numbers y.first y.last i))
      × (number_before y.numbers i < get_or y.numbers i 0) × (first_slot y i ≤ last_slot y i)
  unfolding position_sound train_sound
  train_tests i h t =
      let s = subst (λ b. T (cond b (train_sound l y.slots y.numbers y.first y.last i) (unused y.numbers y.first y.last i))) (lt-ltb i y.trains h) t in
      let fields = within (train_ranges l y.slots) (train_row y.numbers y.first y.last i) in
      let rises = ltb (number_before y.numbers i) (get_or y.numbers i 0) in
      let (a, window) = both_of (fields && rises) (leb (first_slot y i) (last_slot y i)) s in
      let (inside, up) = both_of fields rises a in
      (inside, ltb→lt _ _ up, leb→le _ _ window)

  -- the group of a train's position
  pub group_used : (i : ℕ) → i < y.trains → T (group_sound l y.trains y.groups i) → group_of y.groups i ≤ l.groups
  unfolding group_sound
  group_used i h t =
      leb→le (group_of y.groups i) l.groups
      (subst (λ b. T (cond b (leb (group_of y.groups i) l.groups) (eqb (group_of y.groups i) 0))) (lt-ltb i y.trains h) t)

  -- the boxes of a pair, of the same train too
  pair_limit : (i j : ℕ) → T (pair_sound l y.trains y.width y.boxes i j) → received y i j ≤ l.boxes
  unfolding pair_sound
  pair_limit i j t = go (ltb i y.trains && ltb j y.trains && not (eqb i j)) t
    where
      go : (b : Bool) → T (cond b (leb (received y i j) l.boxes) (eqb (received y i j) 0)) → received y i j ≤ l.boxes
      go true h = leb→le (received y i j) l.boxes h
      go false h = omega (arith, eqb→eq (received y i j) 0 h)

  -- a train receives none from itself
  pair_own : (i : ℕ) → T (pair_sound l y.trains y.width y.boxes i i) → received y i i ≡ 0
  unfolding pair_sound
  pair_own i t = go (ltb i y.trains && ltb i y.trains) (eqb i i) (eq-eqb i i refl) t
    where
      go : (b e : Bool) → e ≡ true → T (cond (b && not e) (leb (received y i i) l.boxes) (eqb (received y i i) 0)) → received y i i ≡ 0
      go true true q h = eqb→eq (received y i i) 0 h
      go false true q h = eqb→eq (received y i i) 0 h
      go b false q h = absurd (of_true q)

  -- the fields of position i's row
  train_fields : T positions → (i : ℕ) → i < y.trains → i < l.trains
      → Within (train_ranges l y.slots) (train_row y.numbers y.first y.last i) × (first_slot y i ≤ last_slot y i)
  unfolding positions
  train_fields p i h b =
      let (fields, up, window) = train_tests i h (each_at l.trains _ p i b) in
      (within_is (train_ranges l y.slots) (train_row y.numbers y.first y.last i) fields, window)

  pub sound_is : T (sound l y) → Sound l y
  unfolding head_ranges train_ranges receiver_sound positions
  sound_is t =
      let (shape, head, p, boxes, groups) = sound_tests t in
      let (n, (g, (s, (w1, (w2, u))))) = within_is (head_ranges l) (head_row y) head in
      let below : (i : ℕ) → i < y.trains → i < l.trains = λ i h. le_trans h n.1 in
      record {
        shape = shaped_is shape;
        trains = n;
        tracks = g;
        slots = s;
        weights = (w1.1, w2.1);
        numbers = λ i h. (train_fields p i h (below i h)).0.0;
        windows = λ i h.
            let ((number, (first, (last, u))), window) = train_fields p i h (below i h) in
            (first.0, window, last.1);
        boxes = λ i j a b. pair_limit i j (each_at l.trains _ (each_at l.trains _ boxes i (below i a)) j (below j b));
        own = λ i a. pair_own i (each_at l.trains _ (each_at l.trains _ boxes i (below i a)) i (below i a));
        groups = λ i h. group_used i h (each_at l.trains _ groups i (below i h));
      }
