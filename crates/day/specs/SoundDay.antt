-- The test of a sound day as statements, all of them, and that they make the test pass. (`Sound` of SoundLaws.antt has those that the calls
-- on a day use.)
-- Assumes nothing.
use Rattle.std.specs.Prelude.{◌≡◌, refl, Bool, false, cond, ◌&&◌, ◌⊎◌, ◌≢◌, get_or}
use Rattle.std.proofs.Common.{sym, inl, inr, le_of_suc-le-suc, eq-or-lt_of_le, arith, le→leb, lt→ltb, lt-ltb, le-ltb, eq-eqb, ne_eqb}
use Rattle.std.proofs.Math.Path.{subst}
use Rattle.std.proofs.Math.Bool.{true, not}
use Rattle.std.proofs.Math.Logic.{⊎_elim}
use Prim.Native.Nat.{ℕ, zero, suc, ◌≤◌, ◌<◌}
use Rattle.std.proofs.Math.Dec.{T, ltb, leb, eqb, eqb→eq}
use Rattle.fold.specs.Test.{of_true, both, both_of}
use Rattle.fold.specs.Fold.{each_at, each_i}
use Rattle.fold.specs.Counting.{le_or_lt, same_or}
use Rattle.model.specs.Model.{Yard, received, first_slot, last_slot, group_of}
use Rattle.day.specs.Sound.{within, head_ranges, train_ranges, head_row, train_row, number_before, train_sound, unused, position_sound, group_sound, pair_sound, receiver_sound, sound}
use Rattle.day.specs.SoundLaws.{Sound, sound_is, sound_tests, tests_sound, is_shaped, train_tests}
use Rattle.day.specs.declared.Limits.{Limits}

-- the train number at position i
abbrev pub number_at : Yard → ℕ → ℕ
number_at y i = get_or y.numbers i 0

pub record SoundDay (l : Limits) (y : Yard) : Type 0 where
  pub limits : Sound l y
  pub rising : (i : ℕ) → suc i < y.trains → number_at y i < number_at y (suc i)
  -- a position past the trains
  pub unused : (i : ℕ) → y.trains ≤ i → i < l.trains → (number_at y i ≡ 0) × (first_slot y i ≡ 0) × (last_slot y i ≡ 0)
  pub ungrouped : (i : ℕ) → y.trains ≤ i → i < l.trains → group_of y.groups i ≡ 0
  -- no boxes from a train to itself, to a position past the trains or from one
  pub without : (i j : ℕ) → i < l.trains → j < l.trains → (y.trains ≤ i) ⊎ ((y.trains ≤ j) ⊎ (i ≡ j)) → received y i j ≡ 0

-- a later train has a higher number
pub rises : (l : Limits) (y : Yard) → SoundDay l y → (i j : ℕ) → i < j → j < y.trains → number_at y i < number_at y j
rises l y s i zero h k = absurd (omega arith)
rises l y s i (suc j) h k =
    let up = s.rising j k in
    ⊎_elim (λ (e : i ≡ j). subst (λ x. number_at y x < number_at y (suc j)) (sym e) up)
    (λ (m : i < j). let r = rises l y s i j m (omega arith) in omega arith) (eq-or-lt_of_le (le_of_suc-le-suc h))

module _ (l : Limits) (y : Yard) where
  -- ---- from the test

  unused-at : (i : ℕ) → y.trains ≤ i → T (position_sound l y.trains y.slots y.numbers y.first y.last i)
      → (number_at y i ≡ 0) × (first_slot y i ≡ 0) × (last_slot y i ≡ 0)
  unfolding position_sound unused
  unused-at i h t =
      let u = subst (λ b. T (cond b (train_sound l y.slots y.numbers y.first y.last i) (unused y.numbers y.first y.last i))) (le-ltb i y.trains h) t in
      let (a, c) = both_of (eqb (number_at y i) 0 && eqb (first_slot y i) 0) (eqb (last_slot y i) 0) u in
      let (x, b) = both_of (eqb (number_at y i) 0) (eqb (first_slot y i) 0) a in
      (eqb→eq _ _ x, eqb→eq _ _ b, eqb→eq _ _ c)

  ungrouped_at : (i : ℕ) → y.trains ≤ i → T (group_sound l y.trains y.groups i) → group_of y.groups i ≡ 0
  unfolding group_sound
  ungrouped_at i h t =
      eqb→eq (group_of y.groups i) 0 (subst (λ b. T (cond b (leb (group_of y.groups i) l.groups) (eqb (group_of y.groups i) 0))) (le-ltb i y.trains h) t)

  -- boxes pass between two different trains only
  between_trains : (i j : ℕ) → (y.trains ≤ i) ⊎ ((y.trains ≤ j) ⊎ (i ≡ j)) → (ltb i y.trains && ltb j y.trains && not (eqb i j)) ≡ false
  between_trains i j c =
      ⊎_elim (λ (h : y.trains ≤ i). rw (le-ltb i y.trains h))
      (⊎_elim (λ (h : y.trains ≤ j). rw (le-ltb j y.trains h) (last_false (ltb i y.trains))) (λ (e : i ≡ j). rw (eq-eqb i j e) (and_false (ltb i y.trains && ltb j y.trains)))) c
    where
      and_false : (b : Bool) → (b && false) ≡ false
      and_false true = refl
      and_false false = refl

      last_false : (b : Bool) → (b && false && not (eqb i j)) ≡ false
      last_false true = refl
      last_false false = refl

  pub sound_day : T (sound l y) → SoundDay l y
  unfolding number_before receiver_sound pair_sound
  sound_day t =
      let (shape, head, positions, boxes, groups) = sound_tests l y t in
      let s = sound_is l y t in
      record {
        limits = s;
        rising = λ i h. (train_tests l y (suc i) h (each_at l.trains _ positions (suc i) (omega (arith, s.trains)))).1;
        unused = λ i h k. unused-at i h (each_at l.trains _ positions i k);
        ungrouped = λ i h k. ungrouped_at i h (each_at l.trains _ groups i k);
        without = λ i j hi hj c.
            eqb→eq (received y i j) 0
            (subst (λ b. T (cond b (leb (received y i j) l.boxes) (eqb (received y i j) 0))) (between_trains i j c) (each_at l.trains _ (each_at l.trains _ boxes i hi) j hj));
      }

  -- ---- to the test

  in_range : (a x b : ℕ) → a ≤ x → x ≤ b → T (leb a x && leb x b)
  in_range a x b h k = both (leb a x) (leb x b) (le→leb a x h) (le→leb x b k)

  pub head_within : (1 ≤ y.trains) × (y.trains ≤ l.trains) → (1 ≤ y.tracks) × (y.tracks ≤ l.tracks) → (1 ≤ y.slots) × (y.slots ≤ l.slots)
      → (y.revisit ≤ l.weight) × (y.split ≤ l.weight) → T (within (head_ranges l) (head_row y))
  unfolding within head_ranges
  head_within trains tracks slots weights =
      both (leb 1 y.trains && leb y.trains l.trains) _ (in_range 1 y.trains l.trains trains.0 trains.1)
      (both (leb 1 y.tracks && leb y.tracks l.tracks) _ (in_range 1 y.tracks l.tracks tracks.0 tracks.1)
      (both (leb 1 y.slots && leb y.slots l.slots) _ (in_range 1 y.slots l.slots slots.0 slots.1)
      (both (leb 0 y.revisit && leb y.revisit l.weight) _ (in_range 0 y.revisit l.weight (omega arith) weights.0)
      (both (leb 0 y.split && leb y.split l.weight) true (in_range 0 y.split l.weight (omega arith) weights.1) tt))))

  module _ (s : SoundDay l y) where
    head_passes : T (within (head_ranges l) (head_row y))
    head_passes = let d = s.limits in head_within d.trains d.tracks d.slots d.weights

    number_rises : (i : ℕ) → i < y.trains → number_before y.numbers i < number_at y i
    unfolding number_before
    number_rises zero h = (s.limits.numbers 0 h).0
    number_rises (suc i) h = s.rising i h

    train_passes : (i : ℕ) → i < y.trains → T (train_sound l y.slots y.numbers y.first y.last i)
    unfolding train_sound within train_ranges
    train_passes i h =
        let (a, b) = s.limits.numbers i h in
        let (c, d, e) = s.limits.windows i h in
        let fields = within (train_ranges l y.slots) (train_row y.numbers y.first y.last i) in
        let inside : T fields =
        both (leb 1 (number_at y i) && leb (number_at y i) l.number) _ (in_range 1 (number_at y i) l.number a b)
        (both (leb 1 (first_slot y i) && leb (first_slot y i) y.slots) _ (in_range 1 (first_slot y i) y.slots c (omega arith))
        (both (leb 1 (last_slot y i) && leb (last_slot y i) y.slots) true (in_range 1 (last_slot y i) y.slots (omega arith) e) tt)) in
        both (fields && ltb (number_before y.numbers i) (number_at y i)) (leb (first_slot y i) (last_slot y i))
        (both fields (ltb (number_before y.numbers i) (number_at y i)) inside (lt→ltb _ _ (number_rises i h))) (le→leb _ _ d)

    position-passes : (i : ℕ) → i < l.trains → T (position_sound l y.trains y.slots y.numbers y.first y.last i)
    unfolding position_sound unused
    position-passes i h =
        ⊎_elim
        (λ (k : y.trains ≤ i).
        let (a, b, c) = s.unused i k h in
        rw (le-ltb i y.trains k)
        (both (eqb (number_at y i) 0 && eqb (first_slot y i) 0) (eqb (last_slot y i) 0)
        (both (eqb (number_at y i) 0) (eqb (first_slot y i) 0) (of_true (eq-eqb (number_at y i) 0 a)) (of_true (eq-eqb (first_slot y i) 0 b))) (of_true (eq-eqb (last_slot y i) 0 c))))
        (λ (k : i < y.trains). rw (lt-ltb i y.trains k) (train_passes i k))
        (le_or_lt y.trains i)

    pair-passes : (i j : ℕ) → i < l.trains → j < l.trains → T (pair_sound l y.trains y.width y.boxes i j)
    unfolding pair_sound
    pair-passes i j hi hj = go (le_or_lt y.trains i) (le_or_lt y.trains j) (same_or i j)
      where
        none : (y.trains ≤ i) ⊎ ((y.trains ≤ j) ⊎ (i ≡ j)) → T (cond (ltb i y.trains && ltb j y.trains && not (eqb i j)) (leb (received y i j) l.boxes) (eqb (received y i j) 0))
        none c =
            subst (λ b. T (cond b (leb (received y i j) l.boxes) (eqb (received y i j) 0))) (sym (between_trains i j c))
            (of_true (eq-eqb (received y i j) 0 (s.without i j hi hj c)))

        go : (y.trains ≤ i) ⊎ (i < y.trains) → (y.trains ≤ j) ⊎ (j < y.trains) → (i ≡ j) ⊎ (i ≢ j)
            → T (cond (ltb i y.trains && ltb j y.trains && not (eqb i j)) (leb (received y i j) l.boxes) (eqb (received y i j) 0))
        go (inl a) b c = none (inl a)
        go (inr a) (inl b) c = none (inr (inl b))
        go (inr a) (inr b) (inl c) = none (inr (inr c))
        go (inr a) (inr b) (inr c) =
            rw (lt-ltb i y.trains a, lt-ltb j y.trains b, ne_eqb i j c) (le→leb (received y i j) l.boxes (s.limits.boxes i j a b))

    group_passes : (i : ℕ) → i < l.trains → T (group_sound l y.trains y.groups i)
    unfolding group_sound
    group_passes i h =
        ⊎_elim (λ (k : y.trains ≤ i). rw (le-ltb i y.trains k) (of_true (eq-eqb (group_of y.groups i) 0 (s.ungrouped i k h))))
        (λ (k : i < y.trains). rw (lt-ltb i y.trains k) (le→leb (group_of y.groups i) l.groups (s.limits.groups i k))) (le_or_lt y.trains i)

    pub day_sound : T (sound l y)
    unfolding receiver_sound
    day_sound =
        tests_sound l y (is_shaped l y s.limits.shape) head_passes
        (each_i l.trains _ position-passes) (each_i l.trains _ (λ i hi. each_i l.trains _ (λ j hj. pair-passes i j hi hj)))
        (each_i l.trains _ group_passes)
