-- The day that is left to planning: it is sound, and its allowed rows are the day's allowed rows that keep served trains where they were and
-- put all others into open slots. So its best plan is the best of those.
-- Assumes nothing.
use Rattle.std.specs.Prelude.{◌≡◌, refl, List, ◌↔◌, ℕ, suc, ◌≤◌, ◌<◌, max, T, length}
use Rattle.std.proofs.Common.{◌∙◌, ⊎_elim, arith, eq-eqb, ne_eqb}
use Rattle.fold.specs.Counting.{le_or_lt}
use Rattle.model.specs.Model.{first_slot, last_slot, slot_of, cost, allowed, by_sets, precedes, Best}
use Rattle.model.proofs.Rows.{allowed_is, is_fitting, allowed_keeps, fits_allowed}
use Rattle.day.specs.Sound.{sound}
use Rattle.day.specs.declared.Limits.{Limits}
use Rattle.fold.specs.Column.{column-length, column-at, column_past}
use Rattle.rolling.specs.Rolling.{Account, cut_first, cut_last, cut, Keeps, BestKept}
use Rattle.day.specs.SoundDay.{SoundDay, day_sound}

-- an account that calls can come to: a sound day; each served train in a closed slot of its window; every other one has an open slot
pub record Standing (l : Limits) (a : Account) : Type 0 where
  pub is_sound : SoundDay l a.day
  pub closed : a.closed ≤ a.day.slots
  pub long : length a.served ≡ l.trains
  pub past : (i : ℕ) → a.day.trains ≤ i → slot_of a.served i ≡ 0
  pub served : (i : ℕ) → i < a.day.trains → 1 ≤ slot_of a.served i
      → (slot_of a.served i ≤ a.closed) × (first_slot a.day i ≤ slot_of a.served i) × (slot_of a.served i ≤ last_slot a.day i)
  pub waiting : (i : ℕ) → i < a.day.trains → slot_of a.served i ≡ 0 → a.closed < last_slot a.day i

module _ {l : Limits} {a : Account} (s : Standing l a) where
  trains_fit : (i : ℕ) → i < a.day.trains → i < a.day.width
  trains_fit i h = let d = s.is_sound.limits in omega (arith, d.trains, d.shape.width)

  -- ---- the cut windows

  pub first_served : (i : ℕ) → i < a.day.trains → 1 ≤ slot_of a.served i → first_slot (cut a) i ≡ slot_of a.served i
  unfolding cut_first
  first_served i h k = column-at a.day.width a.day.trains (cut_first a) i (trains_fit i h) h ∙ rw (ne_eqb (slot_of a.served i) 0 (λ e. omega arith))

  pub last_served : (i : ℕ) → i < a.day.trains → 1 ≤ slot_of a.served i → last_slot (cut a) i ≡ slot_of a.served i
  unfolding cut_last
  last_served i h k = column-at a.day.width a.day.trains (cut_last a) i (trains_fit i h) h ∙ rw (ne_eqb (slot_of a.served i) 0 (λ e. omega arith))

  pub first_waiting : (i : ℕ) → i < a.day.trains → slot_of a.served i ≡ 0 → first_slot (cut a) i ≡ max (first_slot a.day i) (suc a.closed)
  unfolding cut_first
  first_waiting i h e = column-at a.day.width a.day.trains (cut_first a) i (trains_fit i h) h ∙ rw (eq-eqb (slot_of a.served i) 0 e)

  pub last_waiting : (i : ℕ) → i < a.day.trains → slot_of a.served i ≡ 0 → last_slot (cut a) i ≡ last_slot a.day i
  unfolding cut_last
  last_waiting i h e = column-at a.day.width a.day.trains (cut_last a) i (trains_fit i h) h ∙ rw (eq-eqb (slot_of a.served i) 0 e)

  -- a train is served or not
  pub either_way : {P : Type 0} (i : ℕ) → (1 ≤ slot_of a.served i → P) → (slot_of a.served i ≡ 0 → P) → P
  either_way i f g = ⊎_elim (λ (h : 1 ≤ slot_of a.served i). f h) (λ (h : slot_of a.served i < 1). g (omega arith)) (le_or_lt 1 (slot_of a.served i))

  -- ---- the cut day is sound

  windows : (i : ℕ) → i < a.day.trains → (1 ≤ first_slot (cut a) i) × (first_slot (cut a) i ≤ last_slot (cut a) i) × (last_slot (cut a) i ≤ a.day.slots)
  windows i h =
      let (x, y, z) = s.is_sound.limits.windows i h in
      either_way i
      (λ k. let f = first_served i h k in let t = last_served i h k in let w = s.served i h k in (omega arith, omega arith, omega (arith, w.0, s.closed)))
      (λ e. let f = first_waiting i h e in let t = last_waiting i h e in let w = s.waiting i h e in (omega arith, omega arith, omega arith))

  cut_day : SoundDay l (cut a)
  cut_day =
      let y = a.day in
      let d = s.is_sound in
      record {
        limits = record {
          shape = record {
            width = d.limits.shape.width;
            numbers = d.limits.shape.numbers;
            first = column-length y.width y.trains (cut_first a) ∙ d.limits.shape.width;
            last = column-length y.width y.trains (cut_last a) ∙ d.limits.shape.width;
            groups = d.limits.shape.groups;
            boxes = d.limits.shape.boxes;
          };
          trains = d.limits.trains;
          tracks = d.limits.tracks;
          slots = d.limits.slots;
          weights = d.limits.weights;
          numbers = d.limits.numbers;
          windows = windows;
          boxes = d.limits.boxes;
          own = d.limits.own;
          groups = d.limits.groups;
        };
        rising = d.rising;
        unused = λ i h k. ((d.unused i h k).0, column_past y.width y.trains (cut_first a) i h, column_past y.width y.trains (cut_last a) i h);
        ungrouped = d.ungrouped;
        without = d.without;
      }

  -- nothing else is cut: the same trains, tracks and slots
  pub cut_head : ((cut a).trains ≡ a.day.trains) × ((cut a).tracks ≡ a.day.tracks) × ((cut a).slots ≡ a.day.slots)
  cut_head = (refl, refl, refl)

  pub cut-sound : T (sound l (cut a))
  cut-sound = day_sound l (cut a) cut_day

  -- ---- its allowed rows

  module _ (row : List ℕ) where
    pub keeps_cut : T (allowed a.day row) → Keeps a row → T (allowed (cut a) row)
    keeps_cut t k =
        let r = allowed_is a.day row t in
        fits_allowed (cut a) row
        (is_fitting (cut a) row
        (record {
          long = r.long;
          slotted = r.slotted;
          room = r.room;
          windowed = λ i h.
              let w = r.windowed i h in
              either_way i
              (λ g. let f = first_served i h g in let t = last_served i h g in let e = k.served i h g in (omega arith, omega arith))
              (λ e. let f = first_waiting i h e in let t = last_waiting i h e in let o = k.waiting i h e in (omega arith, omega arith));
        }))
        (allowed_keeps a.day row t)

    pub cut_keeps : T (allowed (cut a) row) → T (allowed a.day row) × Keeps a row
    cut_keeps t =
        let r = allowed_is (cut a) row t in (
          fits_allowed a.day row
              (is_fitting a.day row
              (record {
                long = r.long;
                slotted = r.slotted;
                room = r.room;
                windowed = λ i h.
                    let w = r.windowed i h in
                    either_way i
                    (λ g. let f = first_served i h g in let t = last_served i h g in let v = s.served i h g in (omega arith, omega arith))
                    (λ e. let f = first_waiting i h e in let t = last_waiting i h e in (omega arith, omega arith));
              }))
              (allowed_keeps (cut a) row t),
          record {
            served = λ i h g. let w = r.windowed i h in let f = first_served i h g in let t = last_served i h g in omega arith;
            waiting = λ i h e. let w = r.windowed i h in let f = first_waiting i h e in omega arith;
          },
        )

    pub cut-allowed : T (allowed (cut a) row) ↔ (T (allowed a.day row) × Keeps a row)
    cut-allowed = (cut_keeps, λ p. keeps_cut p.0 p.1)

  -- ---- its best plan

  pub best-kept : (row : List ℕ) → Best (cut a) row → BestKept a row
  unfolding cost precedes by_sets
  best-kept row b =
      let (t, k) = cut_keeps row b.is_allowed in
      record {
        is_allowed = t;
        keeps = k;
        least = λ other u v. b.least other (keeps_cut other u v);
        first = λ other u v. b.first other (keeps_cut other u v);
      }

  pub kept-best : (row : List ℕ) → BestKept a row → Best (cut a) row
  unfolding cost precedes by_sets
  kept-best row b = record {
    is_allowed = keeps_cut row b.is_allowed b.keeps;
    least = λ other u. let (t, k) = cut_keeps other u in b.least other t k;
    first = λ other u. let (t, k) = cut_keeps other u in b.first other t k;
  }
