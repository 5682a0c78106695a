-- A change of the account that passes its checks leaves a standing account. After cancel and set boxes the old plan, without the train that
-- left, is still allowed for what is left to planning: a row is left, so they never get 9 or 16.
-- Assumes nothing.
use Rattle.std.specs.Prelude.{◌≡◌, refl, Bool, not, ◌&&◌, List, [], ◌∷◌, ◌≢◌, ltb, leb, get_or}
use Rattle.std.proofs.Common.{sym, ◌∙◌, ⊎_elim, eqb→eq, eq-eqb}
use Rattle.std.proofs.Math.Path.{ap, subst}
use Rattle.std.proofs.Math.Option.{Option, none, some}
use Prim.Native.Nat.{ℕ, zero, suc, ◌-◌, ◌≤◌, ◌<◌, zero-le}
use native.Mathlib.Omega.{arith}
use Rattle.std.proofs.Math.Dec.{T, eqb, ltb→lt, leb→le}
use Rattle.fold.specs.Test.{of_true, both_of, not_of}
use Rattle.fold.specs.Fold.{count}
use Rattle.fold.specs.Counting.{le_or_lt, same_or, count_suc, count_le}
use Rattle.fold.specs.Listed.{listed, length-listed, listed_at}
use Rattle.model.specs.Model.{slot_of, load, fitting, kept, allowed}
use Rattle.model.proofs.Rows.{allowed_is, is_fitting, allowed_keeps, fits_allowed}
use Rattle.model.proofs.Groups.{grouped_of, grouped_by, kept_of, kept_by}
use Rattle.model.specs.BestOf.{best_of}
use Rattle.model.proofs.BestOf.{is_none_lem}
use Rattle.day.specs.AnswerLaws.{AllHold}
use Rattle.day.specs.Sound.{train_ranges}
use Rattle.day.specs.SoundLaws.{within_is}
use Rattle.day.specs.declared.Limits.{Limits}
use Rattle.fold.specs.Column.{column-length, column_past}
use Rattle.rolling.specs.Rolling.{Account, place_of, is_listed, moved, source_without, source_with, without_train, Change, cancel, add, set_boxes, edited, number_in, change_checks, cut, Keeps}
use Rattle.rolling.specs.Places.{without_before, without_after, with_here, place_le, place_before, place_after, listed_there}
use Rattle.rolling.specs.Edits.{NewTrain, from_trains, less_at, less_sound, old_train, more-at, new_at, old_at, more-sound, boxes_sound}
use Rattle.rolling.specs.Cut.{Standing, keeps_cut}

module _ {l : Limits} {a : Account} (s : Standing l a) where
  -- ---- what the checks say

  pub cancel_says : (x : ℕ) → AllHold (change_checks l a (cancel x))
      → (place_of a.day x < a.day.trains) × (slot_of a.served (place_of a.day x) ≡ 0) × (1 < a.day.trains)
  cancel_says x (n, (t, u)) =
      let waits = eqb (slot_of a.served (place_of a.day x)) 0 in
      let (b, others) = both_of (is_listed a.day x && waits) (ltb 1 a.day.trains) t in
      let (there, w) = both_of (is_listed a.day x) waits b in
      ((listed_there a.day x there).0, eqb→eq _ _ w, ltb→lt _ _ others)

  pub cancel_listed : (x : ℕ) → AllHold (change_checks l a (cancel x)) → T (is_listed a.day x)
  cancel_listed x (n, (t, u)) =
      let waits = eqb (slot_of a.served (place_of a.day x)) 0 in
      (both_of (is_listed a.day x) waits (both_of (is_listed a.day x && waits) (ltb 1 a.day.trains) t).0).0

  pub boxes_say : (to from boxes : ℕ) → AllHold (change_checks l a (set_boxes to from boxes))
      → (place_of a.day to < a.day.trains) × (place_of a.day from < a.day.trains) × (place_of a.day to ≢ place_of a.day from) × (boxes ≤ l.boxes)
  boxes_say to from boxes (n, (t, (d, u))) =
      let (b, most) = both_of (number_in l to && number_in l from) (leb boxes l.boxes) n in
      let (p, q) = both_of (is_listed a.day to) (is_listed a.day from) t in
      let (hp, ep) = listed_there a.day to p in
      let (hq, eq) = listed_there a.day from q in (
        hp,
        hq,
        λ e. not_of (eqb to from) d (of_true (eq-eqb to from (sym ep ∙ ap (λ k. get_or a.day.numbers k 0) e ∙ eq))),
        leb→le _ _ most,
      )

  pub boxes_listed : (to from boxes : ℕ) → AllHold (change_checks l a (set_boxes to from boxes))
      → (get_or a.day.numbers (place_of a.day to) 0 ≡ to) × (get_or a.day.numbers (place_of a.day from) 0 ≡ from)
  boxes_listed to from boxes (n, (t, (d, u))) =
      let (p, q) = both_of (is_listed a.day to) (is_listed a.day from) t in
      ((listed_there a.day to p).1, (listed_there a.day from q).1)

  -- ---- a standing account

  pub cancel_standing : (p : ℕ) → p < a.day.trains → 1 < a.day.trains
      → Standing l (record { day = without_train p a.day; closed = a.closed; served = moved a.day.width (a.day.trains - 1) (source_without p) a.served })
  cancel_standing p there others =
      let y = a.day in
      let d = s.is_sound in
      record {
        is_sound = less_sound d p there others;
        closed = s.closed;
        long = column-length y.width (y.trains - 1) (λ i. get_or a.served (source_without p i) 0) ∙ d.limits.shape.width;
        past = λ i h. column_past y.width (y.trains - 1) (λ i. get_or a.served (source_without p i) 0) i h;
        served = λ i h k.
            let c = less_at d p there others a.served i h in
            let e = less_at d p there others y.first i h in
            let f = less_at d p there others y.last i h in
            let w = s.served (source_without p i) (from_trains d p there others i h) (omega arith) in
            (omega arith, omega arith, omega arith);
        waiting = λ i h k.
            let c = less_at d p there others a.served i h in
            let f = less_at d p there others y.last i h in
            let w = s.waiting (source_without p i) (from_trains d p there others i h) (omega arith) in
            omega arith;
      }

  pub add_says : (x first last : ℕ) → AllHold (change_checks l a (add x first last)) → NewTrain l a.day (place_of a.day x) x first last × (a.closed < first)
  unfolding train_ranges
  add_says x first last (n, (t, (w, u))) =
      let y = a.day in
      let (number, (e, (f, v))) = within_is (train_ranges l y.slots) (x ∷ first ∷ last ∷ []) n in
      let (new, room) = both_of (not (is_listed y x)) (ltb y.trains l.trains) t in
      let (order, opens) = both_of (leb first last) (ltb a.closed first) w in (
        record {
          room = ltb→lt _ _ room;
          at_most = place_le y x;
          numbered = number;
          window = (e.0, leb→le _ _ order, f.1);
          before = place_before y x;
          after = place_after y x l s.is_sound new;
        },
        ltb→lt _ _ opens,
      )

  add-standing : (x first last : ℕ) → AllHold (change_checks l a (add x first last)) → Standing l (edited a (add x first last))
  add-standing x first last h =
      let y = a.day in
      let d = s.is_sound in
      let p : ℕ = place_of y x in
      let (new, opens) = add_says x first last h in
      let served_at = more-at d new a.served in
      let first-at = old_at d new y.first first in
      let last-at = old_at d new y.last last in
      let last-new = new_at d new y.last last in
      let old = old_train d new in
      record {
        is_sound = more-sound d new;
        closed = s.closed;
        long = column-length y.width (suc y.trains) (λ i. get_or a.served (source_with y.trains p i) 0) ∙ d.limits.shape.width;
        past = λ i h. column_past y.width (suc y.trains) (λ i. get_or a.served (source_with y.trains p i) 0) i h;
        served = λ i h k.
            let g = served_at i h in
            ⊎_elim
            (λ (e : i ≡ p). absurd (let z = s.past y.trains (omega arith) in let q = ap (slot_of a.served) (with_here y.trains p i e) in omega arith))
            (λ (e : i ≢ p). let j = first-at i e h in let m = last-at i e h in let w = s.served (source_with y.trains p i) (old i e h) (omega arith) in (omega arith, omega arith, omega arith)) (same_or i p);
        waiting = λ i h k.
            let g = served_at i h in
            ⊎_elim
            (λ (e : i ≡ p). let m = last-new i e in omega arith)
            (λ (e : i ≢ p). let m = last-at i e h in let w = s.waiting (source_with y.trains p i) (old i e h) (omega arith) in omega arith) (same_or i p);
      }

  boxes_standing : (to from boxes : ℕ) → AllHold (change_checks l a (set_boxes to from boxes)) → Standing l (edited a (set_boxes to from boxes))
  boxes_standing to from boxes h =
      let (p, q, apart, most) = boxes_say to from boxes h in
      record {
        is_sound = boxes_sound s.is_sound (place_of a.day to) (place_of a.day from) boxes p q apart most;
        closed = s.closed;
        long = s.long;
        past = s.past;
        served = s.served;
        waiting = s.waiting;
      }

  pub change_standing : (c : Change) → AllHold (change_checks l a c) → Standing l (edited a c)
  change_standing (cancel x) h = let (there, w, others) = cancel_says x h in cancel_standing (place_of a.day x) there others
  change_standing (add x first last) h = add-standing x first last h
  change_standing (set_boxes to from boxes) h = boxes_standing to from boxes h

-- ---- the old plan without a train

-- of the positions that are left no more pass than of all
count_without : (p : ℕ) (q : ℕ → Bool) (m : ℕ) → p ≤ m → count m (λ i. q (source_without p i)) ≤ count (suc m) q
count_without p q zero h = unfold count in zero-le
count_without p q (suc m) h =
    ⊎_elim
    (λ (k : p ≤ m).
    let e = without_after p m k in
    omega (arith, count_suc (λ i. q (source_without p i)) m, count_suc q (suc m), count_without p q m k, ap (λ i. Rattle.fold.specs.Fold.bit (q i)) e))
    (λ (k : m < p).
    omega (
      arith,
      count_suc q (suc m),
      count_le (λ i. q (source_without p i)) q (suc m) (λ i g t. subst (λ j. T (q j)) (without_before p i (omega arith)) t),
    ))
    (le_or_lt p m)

-- cancel and set boxes
abbrev pub NoNewTrain : Change → Type 0
NoNewTrain (cancel x) = Unit
NoNewTrain (add x first last) = ⊥
NoNewTrain (set_boxes to from boxes) = Unit

abbrev pub row_without : ℕ → ℕ → List ℕ → List ℕ
row_without n p row = listed (n - 1) λ i. slot_of row (source_without p i)

module _ {l : Limits} {a : Account} (s : Standing l a) (row : List ℕ) (t : T (allowed a.day row)) (k : Keeps a row) where
  module _ (p : ℕ) (there : p < a.day.trains) (others : 1 < a.day.trains) where
    row_at : (i : ℕ) → i < a.day.trains - 1 → slot_of (row_without a.day.trains p row) i ≡ slot_of row (source_without p i)
    row_at i h = listed_at (a.day.trains - 1) (λ i. slot_of row (source_without p i)) 0 i h

    less_load : (t : ℕ) → load (a.day.trains - 1) (row_without a.day.trains p row) t ≤ load a.day.trains row t
    unfolding load
    less_load t =
        let m : ℕ = a.day.trains - 1 in
        let f = count_le (λ i. eqb (slot_of (row_without a.day.trains p row) i) t) (λ i. eqb (slot_of row (source_without p i)) t) m (λ i h g. subst (λ x. T (eqb x t)) (row_at i h) g) in
        let e = count_without p (λ i. eqb (slot_of row i) t) m (omega arith) in
        let z : suc m ≡ a.day.trains = omega arith in
        omega (arith, f, e, ap (λ n. count n (λ i. eqb (slot_of row i) t)) z)

    -- two of one group were so before
    less_kept : T (kept (a.day.trains - 1) (without_train p a.day).groups (row_without a.day.trains p row))
    less_kept =
        let y = a.day in
        let d = s.is_sound in
        let groups = (without_train p y).groups in
        let before = kept_of y.trains y.groups row (allowed_keeps y row t) in
        kept_by (y.trains - 1) groups (row_without y.trains p row)
        (λ i j hi hj g.
        let (above, same) = grouped_of groups i j g in
        let ei = less_at d p there others y.groups i hi in
        let ej = less_at d p there others y.groups j hj in
        row_at i hi
        ∙ before (source_without p i) (source_without p j) (from_trains d p there others i hi) (from_trains d p there others j hj)
        (grouped_by y.groups (source_without p i) (source_without p j) (omega arith) (omega arith))
        ∙ sym (row_at j hj))

    pub less_allowed : T (allowed (without_train p a.day) (row_without a.day.trains p row))
    less_allowed =
        let r = allowed_is a.day row t in
        let d = s.is_sound in
        fits_allowed (without_train p a.day) (row_without a.day.trains p row)
        (is_fitting (without_train p a.day) (row_without a.day.trains p row)
        (record {
          long = length-listed (a.day.trains - 1) (λ i. slot_of row (source_without p i));
          slotted = λ i h. let e = row_at i h in let g = r.slotted (source_without p i) (from_trains d p there others i h) in (omega arith, omega arith);
          windowed = λ i h.
              let e = row_at i h in
              let x = less_at d p there others a.day.first i h in
              let y = less_at d p there others a.day.last i h in
              let g = r.windowed (source_without p i) (from_trains d p there others i h) in
              (omega arith, omega arith);
          room = λ t h. let e = less_load (suc t) in let g = r.room t h in omega arith;
        }))
        less_kept

    pub less_keeps : Keeps (record { day = without_train p a.day; closed = a.closed; served = moved a.day.width (a.day.trains - 1) (source_without p) a.served }) (row_without a.day.trains p row)
    less_keeps =
        let d = s.is_sound in
        record {
          served = λ i h g. let e = row_at i h in let c = less_at d p there others a.served i h in let o = k.served (source_without p i) (from_trains d p there others i h) (omega arith) in omega arith;
          waiting = λ i h g. let e = row_at i h in let c = less_at d p there others a.served i h in let o = k.waiting (source_without p i) (from_trains d p there others i h) (omega arith) in omega arith;
        }

  -- ---- so cancel and set boxes leave an allowed row

  pub still_allowed : (c : Change) → NoNewTrain c → AllHold (change_checks l a c) → (r : List ℕ) × T (allowed (cut (edited a c)) r)
  unfolding allowed fitting
  still_allowed (cancel x) u h =
      let (there, w, others) = cancel_says s x h in
      let p : ℕ = place_of a.day x in
      (row_without a.day.trains p row, keeps_cut (change_standing s (cancel x) h) (row_without a.day.trains p row) (less_allowed p there others) (less_keeps p there others))
  still_allowed (add x first last) u h = absurd u
  still_allowed (set_boxes to from boxes) u h =
      (row, keeps_cut (change_standing s (set_boxes to from boxes) h) row t (record { served = k.served; waiting = k.waiting }))

  pub row_left : (c : Change) → NoNewTrain c → AllHold (change_checks l a c) → (plan : List ℕ) × (best_of (cut (edited a c)) ≡ some plan)
  row_left c u h = go (best_of (cut (edited a c))) refl
    where
      go : (o : Option (List ℕ)) → best_of (cut (edited a c)) ≡ o → (plan : List ℕ) × (best_of (cut (edited a c)) ≡ some plan)
      go none e = absurd (let (r, g) = still_allowed c u h in is_none_lem (cut (edited a c)) e r g)
      go (some plan) e = (plan, e)
