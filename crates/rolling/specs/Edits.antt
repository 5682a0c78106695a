-- A day with a train less, with a train more, and with other boxes is sound where the one before was.
-- Assumes nothing.
use Rattle.std.specs.Prelude.{◌≡◌, refl, List, ◌⊎◌, ◌≢◌, ℕ, suc, ◌+◌, ◌-◌, ◌*◌, ◌/◌, ◌%◌, ◌≤◌, ◌<◌, length, set}
use Rattle.std.proofs.Common.{sym, ◌∙◌, subst, inl, inr, ⊎_elim, arith}
use Rattle.std.proofs.Math.Path.{ap}
use Rattle.std.proofs.Math.Arith.{digits_lt, digits_div, digits_mod}
use Rattle.std.proofs.Math.ListN.{get_or, length-set}
use Rattle.std.proofs.Math.Seq.{get_or-set_same, get_or-set_other}
use Rattle.fold.specs.Counting.{le_or_lt, same_or}
use Rattle.model.specs.Model.{Yard, received, first_slot, last_slot, group_of}
use Rattle.day.specs.SoundLaws.{Shaped}
use Rattle.day.specs.declared.Limits.{Limits}
use Rattle.fold.specs.Column.{column-length, column-at, column_past, table-length, table_at, table_past}
use Rattle.rolling.specs.Rolling.{moved, rearranged, source_without, source_with, without_train, with_train, with_boxes}
use Rattle.day.specs.SoundDay.{SoundDay, number_at, rises}
use Rattle.rolling.specs.Places.{without_before, without_after, with_before, with_here, with_after, before_or}

-- a train that may come in at position p: there is room, the fields lie in their ranges, and the numbers before and after it are lower and
-- higher
pub record NewTrain (l : Limits) (y : Yard) (p number first last : ℕ) : Type 0 where
  pub room : y.trains < l.trains
  pub at_most : p ≤ y.trains
  pub numbered : (1 ≤ number) × (number ≤ l.number)
  pub window : (1 ≤ first) × (first ≤ last) × (last ≤ y.slots)
  pub before : (i : ℕ) → i < p → number_at y i < number
  pub after : (i : ℕ) → p ≤ i → i < y.trains → number < number_at y i

-- ---- the boxes of a rearranged day

module _ {l : Limits} {y : Yard} (s : SoundDay l y) where
  box_limit : (i j : ℕ) → i < l.trains → j < l.trains → received y i j ≤ l.boxes
  box_limit i j hi hj =
      ⊎_elim (λ (a : y.trains ≤ i). let z = s.without i j hi hj (inl a) in omega arith)
      (λ (a : i < y.trains).
      ⊎_elim (λ (b : y.trains ≤ j). let z = s.without i j hi hj (inr (inl b)) in omega arith) (λ (b : j < y.trains). s.limits.boxes i j a b) (le_or_lt y.trains j))
      (le_or_lt y.trains i)

  module _ (m : ℕ) (source : ℕ → ℕ) (few : m ≤ l.trains) (there : (i : ℕ) → i < m → source i < l.trains) where
    fits : (i : ℕ) → i < l.trains → i < y.width
    fits i h = omega (arith, s.limits.shape.width)

    -- what position i holds
    moved_at : (c : List ℕ) (i : ℕ) → i < m → get_or (moved y.width m source c) i 0 ≡ get_or c (source i) 0
    moved_at c i h = column-at y.width m (λ i. get_or c (source i) 0) i (fits i (omega arith)) h

    moved_length : (c : List ℕ) → length (moved y.width m source c) ≡ l.trains
    moved_length c = column-length y.width m (λ i. get_or c (source i) 0) ∙ s.limits.shape.width

    moved_shape : Shaped l (rearranged m source y)
    moved_shape =
        let w = s.limits.shape.width in
        record {
          width = w;
          numbers = moved_length y.numbers;
          first = moved_length y.first;
          last = moved_length y.last;
          groups = moved_length y.groups;
          boxes = table-length y.width m (λ i j. received y (source i) (source j)) ∙ ap (λ k. k * k) w;
        }

    moved-received : (i j : ℕ) → i < m → j < m → received (rearranged m source y) i j ≡ received y (source i) (source j)
    moved-received i j hi hj = table_at y.width m (λ i j. received y (source i) (source j)) i j (fits i (omega arith)) (fits j (omega arith)) hi hj

    moved_limit : (i j : ℕ) → i < m → j < m → received (rearranged m source y) i j ≤ l.boxes
    moved_limit i j hi hj = let e = moved-received i j hi hj in let b = box_limit (source i) (source j) (there i hi) (there j hj) in omega arith

    moved_own : (i : ℕ) → i < m → received (rearranged m source y) i i ≡ 0
    moved_own i h = moved-received i i h h ∙ s.without (source i) (source i) (there i h) (there i h) (inr (inr refl))

    moved_without : (i j : ℕ) → i < l.trains → j < l.trains → (m ≤ i) ⊎ ((m ≤ j) ⊎ (i ≡ j)) → received (rearranged m source y) i j ≡ 0
    moved_without i j hi hj c =
        ⊎_elim (λ (a : m ≤ i). past (inl a))
        (λ (a : i < m).
        ⊎_elim (λ (b : m ≤ j). past (inr b))
        (λ (b : j < m). moved-received i j a b ∙ s.without (source i) (source j) (there i a) (there j b) (inr (inr (ap source (same a b c)))))
        (le_or_lt m j))
        (le_or_lt m i)
      where
        past : (m ≤ i) ⊎ (m ≤ j) → received (rearranged m source y) i j ≡ 0
        past = table_past y.width m (λ i j. received y (source i) (source j)) i j (fits i hi) (fits j hj)

        same : i < m → j < m → (m ≤ i) ⊎ ((m ≤ j) ⊎ (i ≡ j)) → i ≡ j
        same a b c = ⊎_elim (λ (h : m ≤ i). absurd (omega arith)) (⊎_elim (λ (h : m ≤ j). absurd (omega arith)) (λ (e : i ≡ j). e)) c

  -- ---- a train less

  module _ (p : ℕ) (there : p < y.trains) (others : 1 < y.trains) where
    pub from_trains : (i : ℕ) → i < y.trains - 1 → source_without p i < y.trains
    from_trains i h =
        ⊎_elim (λ (k : p ≤ i). let e = without_after p i k in omega arith) (λ (k : i < p). let e = without_before p i k in omega arith) (le_or_lt p i)

    from_rises : (i : ℕ) → source_without p i < source_without p (suc i)
    from_rises i =
        ⊎_elim (λ (k : p ≤ i). let e = without_after p i k in let f = without_after p (suc i) (omega arith) in omega arith)
        (λ (k : i < p).
        let e = without_before p i k in
        ⊎_elim (λ (g : p ≤ suc i). let f = without_after p (suc i) g in omega arith) (λ (g : suc i < p). let f = without_before p (suc i) g in omega arith) (le_or_lt p (suc i)))
        (le_or_lt p i)

    few : y.trains - 1 ≤ l.trains
    few = let t = s.limits.trains in omega arith

    from_places : (i : ℕ) → i < y.trains - 1 → source_without p i < l.trains
    from_places i h = let t = s.limits.trains in let g = from_trains i h in omega arith

    pub less_at : (c : List ℕ) (i : ℕ) → i < y.trains - 1 → get_or (moved y.width (y.trains - 1) (source_without p) c) i 0 ≡ get_or c (source_without p i) 0
    less_at = moved_at (y.trains - 1) (source_without p) few from_places

    pub less_received : (i j : ℕ) → i < y.trains - 1 → j < y.trains - 1 → received (without_train p y) i j ≡ received y (source_without p i) (source_without p j)
    less_received = moved-received (y.trains - 1) (source_without p) few from_places

    pub less_sound : SoundDay l (without_train p y)
    less_sound =
        let d = s.limits in
        record {
          limits = record {
            shape = moved_shape (y.trains - 1) (source_without p) few from_places;
            trains = (omega arith, few);
            tracks = d.tracks;
            slots = d.slots;
            weights = d.weights;
            numbers = λ i h. let e = less_at y.numbers i h in let g = d.numbers (source_without p i) (from_trains i h) in (omega arith, omega arith);
            windows = λ i h.
                let e = less_at y.first i h in
                let f = less_at y.last i h in
                let g = d.windows (source_without p i) (from_trains i h) in
                (omega arith, omega arith, omega arith);
            boxes = moved_limit (y.trains - 1) (source_without p) few from_places;
            own = moved_own (y.trains - 1) (source_without p) few from_places;
            groups = λ i h. let e = less_at y.groups i h in let g = d.groups (source_without p i) (from_trains i h) in omega arith;
          };
          rising = λ i h.
              let e = less_at y.numbers i (omega arith) in
              let f = less_at y.numbers (suc i) h in
              let g = rises l y s (source_without p i) (source_without p (suc i)) (from_rises i) (from_trains (suc i) h) in
              omega arith;
          unused = λ i h k. (
            column_past y.width (y.trains - 1) (λ i. get_or y.numbers (source_without p i) 0) i h,
            column_past y.width (y.trains - 1) (λ i. get_or y.first (source_without p i) 0) i h,
            column_past y.width (y.trains - 1) (λ i. get_or y.last (source_without p i) 0) i h,
          );
          ungrouped = λ i h k. column_past y.width (y.trains - 1) (λ i. get_or y.groups (source_without p i) 0) i h;
          without = moved_without (y.trains - 1) (source_without p) few from_places;
        }

  -- ---- a train more

  module _ {p number first last : ℕ} (new : NewTrain l y p number first last) where
    -- the train that a position other than p had
    pub old_train : (i : ℕ) → i ≢ p → i < suc y.trains → source_with y.trains p i < y.trains
    old_train i d h =
        ⊎_elim (λ (k : i < p). let e = with_before y.trains p i k in omega arith)
        (⊎_elim (λ (k : i ≡ p). absurd (d k)) (λ (k : p < i). let e = with_after y.trains p i k in omega arith)) (before_or i p)

    old_place : (i : ℕ) → i < suc y.trains → source_with y.trains p i < l.trains
    old_place i h =
        ⊎_elim (λ (e : i ≡ p). let f = with_here y.trains p i e in omega arith) (λ (d : i ≢ p). let f = old_train i d h in omega arith) (same_or i p)

    column_of : List ℕ → List ℕ
    column_of c = moved y.width (suc y.trains) (source_with y.trains p) c

    more-length : (c : List ℕ) → length (column_of c) ≡ l.trains
    unfolding column_of
    more-length c = moved_length (suc y.trains) (source_with y.trains p) new.room old_place c

    pub more-at : (c : List ℕ) (i : ℕ) → i < suc y.trains → get_or (moved y.width (suc y.trains) (source_with y.trains p) c) i 0 ≡ get_or c (source_with y.trains p i) 0
    more-at c i h = moved_at (suc y.trains) (source_with y.trains p) new.room old_place c i h

    pub more-received : (i j : ℕ) → i < suc y.trains → j < suc y.trains
        → received (with_train p number first last y) i j ≡ received y (source_with y.trains p i) (source_with y.trains p j)
    more-received = moved-received (suc y.trains) (source_with y.trains p) new.room old_place

    -- position p has the new value, another one that of its train
    pub new_at : (c : List ℕ) (x i : ℕ) → i ≡ p → get_or (set (moved y.width (suc y.trains) (source_with y.trains p) c) p x) i 0 ≡ x
    unfolding column_of
    new_at c x i e = ap (λ k. get_or (set (column_of c) p x) k 0) e ∙ get_or-set_same (column_of c) p x 0 (let q = more-length c in omega arith)

    pub old_at : (c : List ℕ) (x i : ℕ) → i ≢ p → i < suc y.trains
        → get_or (set (moved y.width (suc y.trains) (source_with y.trains p) c) p x) i 0 ≡ get_or c (source_with y.trains p i) 0
    unfolding column_of
    old_at c x i d h = get_or-set_other (column_of c) p i x 0 d ∙ more-at c i h

    past_at : (c : List ℕ) (x i : ℕ) → suc y.trains ≤ i → get_or (set (moved y.width (suc y.trains) (source_with y.trains p) c) p x) i 0 ≡ 0
    unfolding column_of
    past_at c x i h = get_or-set_other (column_of c) p i x 0 (λ e. omega arith) ∙ column_past y.width (suc y.trains) (λ i. get_or c (source_with y.trains p i) 0) i h

    set-length : (c : List ℕ) (x : ℕ) → length (set (moved y.width (suc y.trains) (source_with y.trains p) c) p x) ≡ l.trains
    unfolding column_of
    set-length c x = length-set (column_of c) p x ∙ more-length c

    abbrev new_day : Yard
    new_day = with_train p number first last y

    more_numbers : (i : ℕ) → i < suc y.trains → (1 ≤ number_at new_day i) × (number_at new_day i ≤ l.number)
    more_numbers i h =
        ⊎_elim (λ (e : i ≡ p). let q = new_at y.numbers number i e in (omega arith, omega arith))
        (λ (d : i ≢ p). let q = old_at y.numbers number i d h in let g = s.limits.numbers (source_with y.trains p i) (old_train i d h) in (omega arith, omega arith)) (same_or i p)

    more_windows : (i : ℕ) → i < suc y.trains → (1 ≤ first_slot new_day i) × (first_slot new_day i ≤ last_slot new_day i) × (last_slot new_day i ≤ y.slots)
    more_windows i h =
        ⊎_elim (λ (e : i ≡ p). let q = new_at y.first first i e in let r = new_at y.last last i e in (omega arith, omega arith, omega arith))
        (λ (d : i ≢ p).
        let q = old_at y.first first i d h in
        let r = old_at y.last last i d h in
        let g = s.limits.windows (source_with y.trains p i) (old_train i d h) in
        (omega arith, omega arith, omega arith)) (same_or i p)

    -- the new train is in no group
    more_groups : (i : ℕ) → i < suc y.trains → group_of new_day.groups i ≤ l.groups
    more_groups i h =
        let q = more-at y.groups i h in
        ⊎_elim (λ (e : i ≡ p). let f = ap (group_of y.groups) (with_here y.trains p i e) in let z = s.ungrouped y.trains (omega arith) new.room in omega arith)
        (λ (d : i ≢ p). let g = s.limits.groups (source_with y.trains p i) (old_train i d h) in omega arith) (same_or i p)

    -- the numbers still rise: before the new one, at it, behind it
    more_rising : (i : ℕ) → suc i < suc y.trains → number_at new_day i < number_at new_day (suc i)
    more_rising i h =
        ⊎_elim
        (λ (k : i < p).
        let q = old_at y.numbers number i (λ e. omega arith) (omega arith) in
        let e = with_before y.trains p i k in
        let qe = ap (number_at y) e in
        ⊎_elim
        (λ (g : suc i ≡ p). let r = new_at y.numbers number (suc i) g in let b = new.before i k in omega arith)
        (λ (g : suc i ≢ p).
        let r = old_at y.numbers number (suc i) g h in
        let f = with_before y.trains p (suc i) (omega arith) in
        let rf = ap (number_at y) f in
        let u = s.rising i (omega arith) in
        omega arith)
        (same_or (suc i) p))
        (λ (c : (i ≡ p) ⊎ (p < i)).
        let r = old_at y.numbers number (suc i) (after_p c) h in
        let f : source_with y.trains p (suc i) ≡ i = with_after y.trains p (suc i) (behind c) ∙ omega arith in
        let rf = ap (number_at y) f in
        ⊎_elim
        (λ (e : i ≡ p). let q = new_at y.numbers number i e in let b = new.after i (omega arith) (omega arith) in omega arith)
        (λ (k : p < i).
        let q = old_at y.numbers number i (λ e. omega arith) (omega arith) in
        let e : suc (source_with y.trains p i) ≡ i = let g = with_after y.trains p i k in omega arith in
        let b = rises l y s (source_with y.trains p i) i (omega arith) (omega arith) in
        omega arith)
        c)
        (before_or i p)
      where
        behind : (i ≡ p) ⊎ (p < i) → p < suc i
        behind c = ⊎_elim (λ (e : i ≡ p). omega arith) (λ (k : p < i). omega arith) c

        after_p : (i ≡ p) ⊎ (p < i) → suc i ≢ p
        after_p c e = let b = behind c in omega arith

    pub more-sound : SoundDay l new_day
    more-sound =
        let d = s.limits in
        let z = moved_shape (suc y.trains) (source_with y.trains p) new.room old_place in
        record {
          limits = record {
            shape = record { width = z.width; numbers = set-length y.numbers number; first = set-length y.first first; last = set-length y.last last; groups = z.groups; boxes = z.boxes };
            trains = (omega arith, new.room);
            tracks = d.tracks;
            slots = d.slots;
            weights = d.weights;
            numbers = more_numbers;
            windows = more_windows;
            boxes = moved_limit (suc y.trains) (source_with y.trains p) new.room old_place;
            own = moved_own (suc y.trains) (source_with y.trains p) new.room old_place;
            groups = more_groups;
          };
          rising = more_rising;
          unused = λ i h k. (past_at y.numbers number i h, past_at y.first first i h, past_at y.last last i h);
          ungrouped = λ i h k. column_past y.width (suc y.trains) (λ i. get_or y.groups (source_with y.trains p i) 0) i h;
          without = moved_without (suc y.trains) (source_with y.trains p) new.room old_place;
        }

    -- the new train has no boxes
    pub new_boxes : (i j : ℕ) → i < suc y.trains → j < suc y.trains → (i ≡ p) ⊎ (j ≡ p) → received new_day i j ≡ 0
    new_boxes i j hi hj c =
        moved-received (suc y.trains) (source_with y.trains p) new.room old_place i j hi hj
        ∙ ⊎_elim
        (λ (e : i ≡ p). s.without (source_with y.trains p i) (source_with y.trains p j) (old_place i hi) (old_place j hj) (inl (omega (arith, with_here y.trains p i e))))
        (λ (e : j ≡ p). s.without (source_with y.trains p i) (source_with y.trains p j) (old_place i hi) (old_place j hj) (inr (inl (omega (arith, with_here y.trains p j e))))) c

  -- ---- other boxes

  module _ (p q boxes : ℕ) (hp : p < y.trains) (hq : q < y.trains) (apart : p ≢ q) (limit : boxes ≤ l.boxes) where
    inside : p * y.width + q < length y.boxes
    inside =
        let w = s.limits.shape.width in
        let t = s.limits.trains in
        let b = s.limits.shape.boxes in
        let g = digits_lt {q = p} {m = l.trains} {r = q} {c = l.trains} (omega arith) (omega arith) in
        subst (λ k. p * k + q < length y.boxes) (sym w) (omega arith)

    -- an entry of the table is as before, or it is the one that was set
    pub index : (i j : ℕ) → i < l.trains → j < l.trains → (received (with_boxes p q boxes y) i j ≡ received y i j) ⊎ ((i ≡ p) × (j ≡ q) × (received (with_boxes p q boxes y) i j ≡ boxes))
    index i j hi hj =
        let w = s.limits.shape.width in
        let t = s.limits.trains in
        ⊎_elim
        (λ (e : i * y.width + j ≡ p * y.width + q).
        let jw : j < y.width = omega arith in
        let qw : q < y.width = omega arith in
        let ip : i ≡ p = sym (digits_div i {m = y.width} {r = j} jw) ∙ ap (λ k. k / y.width) e ∙ digits_div p {m = y.width} {r = q} qw in
        let jq : j ≡ q = sym (digits_mod i {m = y.width} {r = j} jw) ∙ ap (λ k. k % y.width) e ∙ digits_mod p {m = y.width} {r = q} qw in
        inr (
          ip,
          jq,
          ap (λ k. get_or (set y.boxes (p * y.width + q) boxes) k 0) e ∙ get_or-set_same y.boxes (p * y.width + q) boxes 0 inside,
        ))
        (λ (d : i * y.width + j ≢ p * y.width + q). inl (get_or-set_other y.boxes (p * y.width + q) (i * y.width + j) boxes 0 d))
        (same_or (i * y.width + j) (p * y.width + q))

    pub boxes_put : received (with_boxes p q boxes y) p q ≡ boxes
    boxes_put = get_or-set_same y.boxes (p * y.width + q) boxes 0 inside

    pub boxes_sound : SoundDay l (with_boxes p q boxes y)
    boxes_sound =
        let d = s.limits in
        record {
          limits = record {
            shape = record {
              width = d.shape.width;
              numbers = d.shape.numbers;
              first = d.shape.first;
              last = d.shape.last;
              groups = d.shape.groups;
              boxes = length-set y.boxes (p * y.width + q) boxes ∙ d.shape.boxes;
            };
            trains = d.trains;
            tracks = d.tracks;
            slots = d.slots;
            weights = d.weights;
            numbers = d.numbers;
            windows = d.windows;
            own = λ i h. unset i i (let t = d.trains in omega arith) (let t = d.trains in omega arith) (inr (inr refl));
            groups = d.groups;
            boxes = λ i j hi hj.
                ⊎_elim (λ e. let b = d.boxes i j hi hj in omega arith) (λ w. let e = w.2 in omega arith) (index i j (let t = d.trains in omega arith) (let t = d.trains in omega arith));
          };
          rising = s.rising;
          unused = s.unused;
          ungrouped = s.ungrouped;
          without = unset;
        }
      where
        never : (i j : ℕ) → (y.trains ≤ i) ⊎ ((y.trains ≤ j) ⊎ (i ≡ j)) → i ≡ p → j ≡ q → ⊥
        never i j c e f =
            ⊎_elim (λ (h : y.trains ≤ i). omega arith) (⊎_elim (λ (h : y.trains ≤ j). omega arith) (λ (g : i ≡ j). apart (sym e ∙ g ∙ f))) c

        unset : (i j : ℕ) → i < l.trains → j < l.trains → (y.trains ≤ i) ⊎ ((y.trains ≤ j) ⊎ (i ≡ j)) → received (with_boxes p q boxes y) i j ≡ 0
        unset i j hi hj c = ⊎_elim (λ e. e ∙ s.without i j hi hj c) (λ w. absurd (never i j c w.0 w.1)) (index i j hi hj)
