-- Rows under way: each train has a slot in its window or none, and no slot holds more trains than tracks. Both procedures keep this, and a
-- row under way in which no train waits is allowed (`complete-allowed`).
-- Assumes nothing.
use Rattle.std.specs.Prelude.{◌≡◌, refl, Bool, ◌&&◌, ◌||◌, List, ◌⊎◌, ◌≢◌, leb, length, set, replicate}
use Rattle.std.proofs.Math.Path.{sym, ap, subst}
use Rattle.std.proofs.Common.{◌∙◌, inl, inr, arith, ltb→lt, length-set, get_or-set_same, get_or-set_other, eq-eqb}
use Rattle.std.proofs.Math.Bool.{true, false, cond}
use Rattle.std.proofs.Math.Logic.{⊎_elim}
use Prim.Native.Nat.{ℕ, zero, suc, ◌≤◌, ◌<◌}
use Rattle.std.proofs.Math.Nat.{le_refl}
use Rattle.std.proofs.Math.Dec.{T, ltb, eqb, eqb→eq}
use Rattle.std.proofs.lemmas.List.{length-replicate}
use Rattle.std.proofs.Math.ListN.{get_or-replicate}
use Rattle.fold.specs.Test.{of_true, both_of}
use Rattle.fold.specs.Fold.{lowest-passes}
use Rattle.fold.specs.Counting.{same_or, count_zero, count-more, count_le}
use Rattle.model.specs.Model.{Yard, received, first_slot, last_slot, slot_of, load, fitting, in_time}
use Rattle.model.proofs.Rows.{is_fitting, both_le}
use Rattle.procedures.specs.Procedures.{track_free, suits, waits, earliest, take_earliest, come_to, first_come, priority, select, serve_next, fill_to, served_to, myopic}

pub record Underway (y : Yard) (row : List ℕ) : Type 0 where
  pub long : length row ≡ y.trains
  pub placed : (i : ℕ) → i < y.trains → (slot_of row i ≡ 0) ⊎ ((first_slot y i ≤ slot_of row i) × (slot_of row i ≤ last_slot y i))
  pub room : (t : ℕ) → load y.trains row (suc t) ≤ y.tracks

-- ---- one train more

module _ (n : ℕ) (row : List ℕ) (i t : ℕ) (long : length row ≡ n) (h : i < n) where
  here : slot_of (set row i (suc t)) i ≡ suc t
  here = get_or-set_same row i (suc t) 0 (omega arith)

  others : (j : ℕ) → j ≢ i → slot_of (set row i (suc t)) j ≡ slot_of row j
  others j n = get_or-set_other row i j (suc t) 0 n

  -- its slot has one train more at most, and no other slot has
  more_here : load n (set row i (suc t)) (suc t) ≤ suc (load n row (suc t))
  unfolding load
  more_here =
      count-more (λ j. eqb (slot_of row j) (suc t)) (λ j. eqb (slot_of (set row i (suc t)) j) (suc t)) n i
      (λ j l n q. subst (λ x. T (eqb x (suc t))) (others j n) q)

  none_elsewhere : (u : ℕ) → u ≢ t → load n (set row i (suc t)) (suc u) ≤ load n row (suc u)
  unfolding load
  none_elsewhere u d =
      count_le (λ j. eqb (slot_of (set row i (suc t)) j) (suc u)) (λ j. eqb (slot_of row j) (suc u)) n
      (λ j l q.
      ⊎_elim
      (λ (e : j ≡ i). absurd (d (let same : suc t ≡ suc u = sym here ∙ ap (slot_of (set row i (suc t))) (sym e) ∙ eqb→eq _ _ q in omega arith)))
      (λ n. subst (λ x. T (eqb x (suc u))) (others j n) q)
      (same_or j i))

pub place_underway : {y : Yard} {row : List ℕ} (i t : ℕ) → Underway y row → i < y.trains → T (in_time y.first y.last i (suc t)) → load y.trains row (suc t) < y.tracks
    → Underway y (set row i (suc t))
unfolding in_time
place_underway {y} {row} i t u h w free =
    record {
      long = length-set row i (suc t) ∙ u.long;
      placed = λ j l.
          ⊎_elim
          (λ (e : j ≡ i). inr (subst (λ k. (first_slot y k ≤ slot_of (set row i (suc t)) k) × (slot_of (set row i (suc t)) k ≤ last_slot y k)) (sym e) (rw (here y.trains row i t u.long h) (both_le (first_slot y i) (suc t) (suc t) (last_slot y i) w))))
          (λ n. subst (λ x. (x ≡ 0) ⊎ ((first_slot y j ≤ x) × (x ≤ last_slot y j))) (sym (others y.trains row i t u.long h j n)) (u.placed j l))
          (same_or j i);
      room = λ v.
          ⊎_elim
          (λ (e : v ≡ t). subst (λ x. load y.trains (set row i (suc t)) (suc x) ≤ y.tracks) (sym e) (omega (arith, more_here y.trains row i t u.long h)))
          (λ n. omega (arith, none_elsewhere y.trains row i t u.long h v n, u.room v))
          (same_or v t);
    }

-- ---- no train has a slot

pub none_underway : (y : Yard) → Underway y (replicate y.trains 0)
unfolding load
none_underway y =
    record {
      long = length-replicate y.trains 0;
      placed = λ i h. inl (get_or-replicate y.trains i 0 0 h);
      room = λ t.
          omega (
            arith,
            count_zero (λ i. eqb (slot_of (replicate y.trains 0) i) (suc t)) y.trains (λ i h q.
                let e : slot_of (replicate y.trains 0) i ≡ 0 = get_or-replicate y.trains i 0 0 h in
                omega (arith, e, eqb→eq (slot_of (replicate y.trains 0) i) (suc t) q)),
          );
    }

-- ---- no train waits: the row fits

pub complete_fits : (y : Yard) (row : List ℕ) → ((i : ℕ) → i < y.trains → (1 ≤ first_slot y i) × (last_slot y i ≤ y.slots))
    → Underway y row → ((i : ℕ) → i < y.trains → T (waits row i) → ⊥) → T (fitting y row)
unfolding waits
complete_fits y row windows u complete =
    is_fitting y row
    record {
      long = u.long;
      slotted = λ i h. let w = inside i h in (omega (arith, w.0, (windows i h).0), omega (arith, w.1, (windows i h).1));
      windowed = inside;
      room = λ t h. u.room t;
    }
  where
    inside : (i : ℕ) → i < y.trains → (first_slot y i ≤ slot_of row i) × (slot_of row i ≤ last_slot y i)
    inside i h = ⊎_elim (λ e. absurd (complete i h (of_true (eq-eqb (slot_of row i) 0 e)))) (λ w. w) (u.placed i h)

-- ---- first come

module _ (y : Yard) where
  abbrev come : ℕ → List ℕ
  come = come_to y.trains y.tracks y.slots y.first y.last

  abbrev early : List ℕ → ℕ → ℕ
  early = earliest y.trains y.tracks y.slots y.first y.last

  come_step : (row : List ℕ) (k : ℕ) → k < y.trains → Underway y row → Underway y (take_earliest y.trains y.tracks y.slots y.first y.last k row)
  unfolding earliest suits track_free
  come_step row k h before =
      go (ltb (early row k) y.slots) (λ q. lowest-passes y.slots (suits y.trains y.tracks y.first y.last row k) (ltb→lt (early row k) y.slots q))
    where
      go : (b : Bool) → (T b → T (in_time y.first y.last k (suc (early row k)) && track_free y.trains y.tracks row (suc (early row k)))) → Underway y (cond b (set row k (suc (early row k))) row)
      go false passes = before
      go true passes =
          let (w, free) = both_of (in_time y.first y.last k (suc (early row k))) (track_free y.trains y.tracks row (suc (early row k))) (passes tt) in
          place_underway k (early row k) before h w (ltb→lt _ _ free)

  come_underway : (k : ℕ) → k ≤ y.trains → Underway y (come k)
  unfolding come_to
  come_underway zero h = none_underway y
  come_underway (suc k) h = come_step (come k) k (omega arith) (come_underway k (omega arith))

  pub first_underway : Underway y (first_come y)
  first_underway = come_underway y.trains (le_refl y.trains)

-- ---- myopic

-- the first t slots are used, and g tracks of slot t
record Served (y : Yard) (t g : ℕ) (row : List ℕ) : Type 0 where
  underway : Underway y row
  up_to : (i : ℕ) → i < y.trains → slot_of row i ≤ t
  used : load y.trains row t ≤ g

served_next : {y : Yard} {t g : ℕ} {row : List ℕ} → Served y t g row → Served y (suc t) 0 row
unfolding load
served_next {y} {t} {g} {row} s =
    record {
      underway = s.underway;
      up_to = λ i h. omega (arith, s.up_to i h);
      used = omega (arith, count_zero (λ i. eqb (slot_of row i) (suc t)) y.trains (λ i h q. omega (arith, s.up_to i h, eqb→eq (slot_of row i) (suc t) q)));
    }

served_place : {y : Yard} {t g : ℕ} {row : List ℕ} (i : ℕ) → i < y.trains → T (in_time y.first y.last i (suc t)) → g < y.tracks → Served y (suc t) g row
    → Served y (suc t) (suc g) (set row i (suc t))
served_place {y} {t} {g} {row} i h w l s =
    record {
      underway = place_underway i t s.underway h w (omega (arith, s.used));
      up_to = λ j m.
          ⊎_elim
          (λ (e : j ≡ i). omega (arith, ap (slot_of (set row i (suc t))) e, here y.trains row i t s.underway.long h))
          (λ n. omega (arith, others y.trains row i t s.underway.long h j n, s.up_to j m))
          (same_or j i);
      used = omega (arith, more_here y.trains row i t s.underway.long h, s.used);
    }

module _ (y : Yard) where
  abbrev selected : List ℕ → ℕ → ℕ → ℕ
  selected = select y.trains y.revisit y.split (received y) y.first y.last

  abbrev key : List ℕ → ℕ → ℕ → ℕ
  key = priority y.trains y.revisit y.split (received y)

  -- the window of the train that is selected holds the slot
  select_in_time : (row : List ℕ) (t k : ℕ) → selected row t k < y.trains → T (in_time y.first y.last (selected row t k) t)
  unfolding select
  select_in_time row t zero h = absurd (omega arith)
  select_in_time row t (suc k) h =
      go (waits row k && in_time y.first y.last k t) (leb y.trains (selected row t k) || ltb (key row t k) (key row t (selected row t k))) (selected row t k)
      (λ q. (both_of (waits row k) (in_time y.first y.last k t) q).1) (select_in_time row t k) h
    where
      go : (b c : Bool) (s : ℕ) → (T b → T (in_time y.first y.last k t)) → (s < y.trains → T (in_time y.first y.last s t))
          → cond (b && c) k s < y.trains → T (in_time y.first y.last (cond (b && c) k s) t)
      go true true s w before l = w tt
      go true false s w before l = before l
      go false c s w before l = before l

  abbrev served : ℕ → List ℕ
  served = served_to y.trains y.revisit y.split (received y) y.first y.last y.tracks

  served_step : {t g : ℕ} (row : List ℕ) → g < y.tracks → Served y (suc t) g row
      → Served y (suc t) (suc g) (serve_next y.trains y.revisit y.split (received y) y.first y.last (suc t) row)
  served_step {t} {g} row l s =
      go (selected row (suc t) y.trains) (select_in_time row (suc t) y.trains) (ltb (selected row (suc t) y.trains) y.trains) refl
    where
      go : (i : ℕ) → (i < y.trains → T (in_time y.first y.last i (suc t))) → (b : Bool) → ltb i y.trains ≡ b → Served y (suc t) (suc g) (cond b (set row i (suc t)) row)
      go i w false q = record { underway = s.underway; up_to = s.up_to; used = omega (arith, s.used) }
      go i w true q = let h = ltb→lt i y.trains (of_true q) in served_place i h (w h) l s

  served_fill : {t : ℕ} {row : List ℕ} (g : ℕ) → g ≤ y.tracks → Served y (suc t) 0 row
      → Served y (suc t) g (fill_to y.trains y.revisit y.split (received y) y.first y.last (suc t) row g)
  unfolding fill_to
  served_fill zero h s = s
  served_fill (suc g) h s = served_step _ (omega arith) (served_fill g (omega arith) s)

  served_all : (t : ℕ) → (g : ℕ) × Served y t g (served t)
  unfolding served_to
  served_all zero = (
    load y.trains (replicate y.trains 0) 0,
    record {
      underway = none_underway y;
      up_to = λ i h. let e : slot_of (replicate y.trains 0) i ≡ 0 = get_or-replicate y.trains i 0 0 h in omega (arith, e);
      used = le_refl _;
    },
  )
  served_all (suc t) = (y.tracks, served_fill y.tracks (le_refl y.tracks) (served_next (served_all t).1))

  pub myopic_underway : Underway y (myopic y)
  myopic_underway = (served_all y.slots).1.underway
