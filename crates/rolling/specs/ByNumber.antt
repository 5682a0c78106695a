-- What a change leaves of each train, said by train numbers and not by positions, as a yard knows its trains.
--   cancel-same, cancel-boxes, cancel-listed-before: the train is no longer listed; every other one is, with its window, its group, its served
--       slot, and its boxes from and to every other one; no number is new.
--   add-new, add_same, add-boxes, add-listed-before: the train is listed with its window, in no group, not served, without boxes; the others are
--       as before; no other number is new.
--   boxes-there, boxes-others, boxes-same: the pair has its boxes; every other pair and every train is as before.
--   listed-exactly: a number is listed where a train of the day has it.
-- Assumes nothing.
use Rattle.std.specs.Prelude.{◌≡◌, List, ◌⊎◌, ◌≢◌, ◌↔◌, ℕ, suc, ◌-◌, ◌≤◌, ◌<◌, T, ltb, eqb, get_or, set}
use Rattle.std.proofs.Math.Path.{refl}
use Rattle.std.proofs.Common.{sym, ap, ap₂, ◌∙◌, subst, inl, inr, ⊎_elim, arith, lt→ltb, eq-eqb, le-leb}
use Rattle.std.proofs.Math.Dec.{leb, leb→le}
use Rattle.fold.specs.Test.{of_true, both}
use Rattle.fold.specs.Fold.{lowest-found, none_i}
use Rattle.fold.specs.Counting.{le_or_lt}
use Rattle.model.specs.Model.{Yard, received, first_slot, last_slot, slot_of, group_of}
use Rattle.day.specs.SoundDay.{SoundDay, number_at, rises}
use Rattle.day.specs.declared.Limits.{Limits}
use Rattle.day.specs.AnswerLaws.{AllHold}
use Rattle.rolling.specs.Rolling.{Account, place_of, is_listed, moved, source_without, source_with, without_train, with_train, cancel, add, set_boxes, edited, change_checks}
use Rattle.rolling.specs.Places.{without_before, without_after, with_before, with_here, with_after, before_or, listed_there}
use Rattle.rolling.specs.Cut.{Standing}
use Rattle.rolling.specs.Edits.{NewTrain, from_trains, less_at, less_received, old_train, more-at, more-received, new_at, old_at, new_boxes, index, boxes_put}
use Rattle.rolling.specs.Changes.{cancel_says, cancel_listed, add_says, boxes_say, boxes_listed, change_standing}
use Rattle.rolling.specs.Undone.{source_other, same_place, number_here}

-- the window, the group and the served slot of a train, by its number; the boxes of one from another
abbrev pub first_of : Account → ℕ → ℕ
first_of a x = first_slot a.day (place_of a.day x)

abbrev pub last_of : Account → ℕ → ℕ
last_of a x = last_slot a.day (place_of a.day x)

abbrev pub group_for : Account → ℕ → ℕ
group_for a x = group_of a.day.groups (place_of a.day x)

abbrev pub served_in : Account → ℕ → ℕ
served_in a x = slot_of a.served (place_of a.day x)

abbrev pub boxes_to : Account → ℕ → ℕ → ℕ
boxes_to a x z = received a.day (place_of a.day x) (place_of a.day z)

-- a train that both accounts have alike
pub record SameTrain (a b : Account) (x : ℕ) : Type 0 where
  pub listed : T (is_listed b.day x)
  pub first : first_of b x ≡ first_of a x
  pub last : last_of b x ≡ last_of a x
  pub group : group_for b x ≡ group_for a x
  pub served : served_in b x ≡ served_in a x

-- ---- where a number stands: at the one position that has it

module _ {l : Limits} {y : Yard} (s : SoundDay l y) (i : ℕ) (there : i < y.trains) where
  pub stands_at : place_of y (number_at y i) ≡ i
  unfolding place_of
  stands_at =
      lowest-found y.trains (λ j. leb (number_at y i) (number_at y j)) i there
      (none_i i (λ j. leb (number_at y i) (number_at y j)) (λ j h t. let r = rises l y s j i h there in let g = leb→le (number_at y i) (number_at y j) t in omega arith))
      (le-leb (number_at y i) (number_at y i) (omega arith))

  pub listed-at_place : T (is_listed y (number_at y i))
  unfolding is_listed
  listed-at_place =
      let e = stands_at in
      both (ltb (place_of y (number_at y i)) y.trains) (eqb (number_at y (place_of y (number_at y i))) (number_at y i)) (lt→ltb _ _ (subst (λ k. k < y.trains) (sym e) there))
      (of_true (eq-eqb _ _ (ap (number_at y) e)))

-- a number is listed exactly where a train has it
pub listed_exactly : {l : Limits} {y : Yard} → SoundDay l y → (x : ℕ) → T (is_listed y x) ↔ ((i : ℕ) × (i < y.trains) × (number_at y i ≡ x))
listed_exactly {l} {y} s x = (λ t. let (there, e) = listed_there y x t in (place_of y x, there, e), λ w. subst (λ k. T (is_listed y k)) w.2 (listed-at_place s w.0 w.1))

-- positions of equal numbers are equal
pub same_position : {l : Limits} {y : Yard} → SoundDay l y → (i j : ℕ) → i < y.trains → j < y.trains → number_at y i ≡ number_at y j → i ≡ j
same_position {l} {y} s i j hi hj e =
    ⊎_elim (λ (h : i < j). absurd (let r = rises l y s i j h hj in omega arith))
    (⊎_elim (λ (h : i ≡ j). h) (λ (h : j < i). absurd (let r = rises l y s j i h hi in omega arith))) (before_or i j)

-- the train of position i is that of position j of another account
module _ {l : Limits} (a b : Account) (s : SoundDay l a.day) (t : SoundDay l b.day) (x i j : ℕ) (hi : i < a.day.trains) (hj : j < b.day.trains)
    (number : number_at a.day i ≡ x) (same : number_at b.day j ≡ number_at a.day i) where
  pub place_a : place_of a.day x ≡ i
  place_a = ap (place_of a.day) (sym number) ∙ stands_at s i hi

  pub place_b : place_of b.day x ≡ j
  place_b = ap (place_of b.day) (sym (same ∙ number)) ∙ stands_at t j hj

  at_places : (c d : List ℕ) → get_or d j 0 ≡ get_or c i 0 → get_or d (place_of b.day x) 0 ≡ get_or c (place_of a.day x) 0
  at_places c d e = ap (λ k. get_or d k 0) place_b ∙ e ∙ ap (λ k. get_or c k 0) (sym place_a)

  pub same_train : first_slot b.day j ≡ first_slot a.day i → last_slot b.day j ≡ last_slot a.day i → group_of b.day.groups j ≡ group_of a.day.groups i
      → slot_of b.served j ≡ slot_of a.served i → SameTrain a b x
  same_train first last group served = record {
    listed = subst (λ k. T (is_listed b.day k)) (same ∙ number) (listed-at_place t j hj);
    first = at_places a.day.first b.day.first first;
    last = at_places a.day.last b.day.last last;
    group = at_places a.day.groups b.day.groups group;
    served = at_places a.served b.served served;
  }

-- ---- a train cancelled

module _ {l : Limits} {a : Account} (s : Standing l a) (x : ℕ) (h : AllHold (change_checks l a (cancel x))) where
  says : (place_of a.day x < a.day.trains) × (slot_of a.served (place_of a.day x) ≡ 0) × (1 < a.day.trains)
  says = cancel_says s x h

  number_x : number_at a.day (place_of a.day x) ≡ x
  number_x = (listed_there a.day x (cancel_listed s x h)).1

  after_cancel : SoundDay l (without_train (place_of a.day x) a.day)
  after_cancel = (change_standing s (cancel x) h).is_sound

  at_source : (c : List ℕ) (j : ℕ) → j < a.day.trains - 1
      → get_or (moved a.day.width (a.day.trains - 1) (source_without (place_of a.day x)) c) j 0 ≡ get_or c (source_without (place_of a.day x) j) 0
  at_source = less_at s.is_sound (place_of a.day x) says.0 says.2

  -- where the train of another position stands now
  target : (i : ℕ) → i ≢ place_of a.day x → i < a.day.trains → (j : ℕ) × (source_without (place_of a.day x) j ≡ i) × (j < a.day.trains - 1)
  target i other hi =
      let p : ℕ = place_of a.day x in
      let (there, w, others) = says in
      ⊎_elim (λ (k : i < p). (i, without_before p i k, omega arith))
      (⊎_elim (λ (k : i ≡ p). absurd (other k)) (λ (k : p < i). let e : suc (i - 1) ≡ i = omega arith in (i - 1, without_after p (i - 1) (omega arith) ∙ e, omega arith))) (before_or i p)

  module _ (z : ℕ) (listed : T (is_listed a.day z)) (other : z ≢ x) where
    here : (place_of a.day z < a.day.trains) × (number_at a.day (place_of a.day z) ≡ z)
    here = listed_there a.day z listed

    now_at : (j : ℕ) × (source_without (place_of a.day x) j ≡ place_of a.day z) × (j < a.day.trains - 1)
    now_at = target (place_of a.day z) (λ e. other (sym here.1 ∙ ap (number_at a.day) e ∙ number_x)) here.0

    column_now : (c : List ℕ) → get_or (moved a.day.width (a.day.trains - 1) (source_without (place_of a.day x)) c) now_at.0 0 ≡ get_or c (place_of a.day z) 0
    column_now c = at_source c now_at.0 now_at.2 ∙ ap (λ k. get_or c k 0) now_at.1

    pub cancel_same : SameTrain a (edited a (cancel x)) z
    cancel_same =
        same_train a (edited a (cancel x)) s.is_sound after_cancel z (place_of a.day z) now_at.0 here.0 now_at.2 here.1 (column_now a.day.numbers)
        (column_now a.day.first) (column_now a.day.last) (column_now a.day.groups) (column_now a.served)

    cancel_place : place_of (without_train (place_of a.day x) a.day) z ≡ now_at.0
    cancel_place = place_b a (edited a (cancel x)) s.is_sound after_cancel z (place_of a.day z) now_at.0 here.0 now_at.2 here.1 (column_now a.day.numbers)

  -- the boxes of two others
  pub cancel_boxes : (z w : ℕ) → T (is_listed a.day z) → T (is_listed a.day w) → z ≢ x → w ≢ x → boxes_to (edited a (cancel x)) z w ≡ boxes_to a z w
  cancel_boxes z w lz lw oz ow =
      let (i, ei, hi) = now_at z lz oz in
      let (j, ej, hj) = now_at w lw ow in
      ap₂ (received (without_train (place_of a.day x) a.day)) (cancel_place z lz oz) (cancel_place w lw ow)
      ∙ less_received s.is_sound (place_of a.day x) says.0 says.2 i j hi hj ∙ ap₂ (received a.day) ei ej

  -- no number is new, and the cancelled one is gone
  pub cancel_listed-before : (z : ℕ) → T (is_listed (edited a (cancel x)).day z) → T (is_listed a.day z) × (z ≢ x)
  cancel_listed-before z listed =
      let y = a.day in
      let p : ℕ = place_of y x in
      let (hj, e) = listed_there (edited a (cancel x)).day z listed in
      let j : ℕ = place_of (edited a (cancel x)).day z in
      let hs = from_trains s.is_sound p says.0 says.2 j hj in
      let q : number_at y (source_without p j) ≡ z = sym (at_source y.numbers j hj) ∙ e in (
        subst (λ k. T (is_listed y k)) q (listed-at_place s.is_sound (source_without p j) hs),
        λ f. source_other y.trains p j (same_position s.is_sound (source_without p j) p hs says.0 (q ∙ f ∙ sym number_x)),
      )

-- ---- a train added

-- the new train, in the account as it is now
pub record Added (b : Account) (x first last : ℕ) : Type 0 where
  pub listed : T (is_listed b.day x)
  pub opens : first_of b x ≡ first
  pub ends : last_of b x ≡ last
  pub ungrouped : group_for b x ≡ 0
  pub unserved : served_in b x ≡ 0
  pub receives : (z : ℕ) → T (is_listed b.day z) → boxes_to b x z ≡ 0
  pub sends : (z : ℕ) → T (is_listed b.day z) → boxes_to b z x ≡ 0

module _ {l : Limits} {a : Account} (s : Standing l a) (x first last : ℕ) (h : AllHold (change_checks l a (add x first last))) where
  new : NewTrain l a.day (place_of a.day x) x first last
  new = (add_says s x first last h).0

  after_add : SoundDay l (with_train (place_of a.day x) x first last a.day)
  after_add = (change_standing s (add x first last) h).is_sound

  stands : place_of (with_train (place_of a.day x) x first last a.day) x ≡ place_of a.day x
  stands = same_place s.is_sound new.room x first last

  -- its column entries come from past the trains
  from_past : (c : List ℕ) → get_or c a.day.trains 0 ≡ 0
      → get_or (moved a.day.width (suc a.day.trains) (source_with a.day.trains (place_of a.day x)) c) (place_of (with_train (place_of a.day x) x first last a.day) x) 0 ≡ 0
  from_past c zero =
      let p : ℕ = place_of a.day x in
      ap (λ k. get_or (moved a.day.width (suc a.day.trains) (source_with a.day.trains p) c) k 0) stands
      ∙ more-at s.is_sound new c p (let m = new.at_most in omega arith) ∙ ap (λ k. get_or c k 0) (with_here a.day.trains p p refl) ∙ zero

  pub add_new : Added (edited a (add x first last)) x first last
  add_new =
      let y = a.day in
      let p : ℕ = place_of y x in
      let there : p < suc y.trains = let m = new.at_most in omega arith in
      record {
        listed = subst (λ k. T (is_listed (with_train p x first last y) k)) (number_here s.is_sound new.room x first last) (listed-at_place after_add p there);
        opens = ap (λ k. get_or (with_train p x first last y).first k 0) stands ∙ new_at s.is_sound new y.first first p refl;
        ends = ap (λ k. get_or (with_train p x first last y).last k 0) stands ∙ new_at s.is_sound new y.last last p refl;
        ungrouped = from_past y.groups (s.is_sound.ungrouped y.trains (omega arith) new.room);
        unserved = from_past a.served (s.past y.trains (omega arith));
        receives = λ z listed.
            ap (λ k. received (with_train p x first last y) k (place_of (with_train p x first last y) z)) stands
            ∙ new_boxes s.is_sound new p (place_of (with_train p x first last y) z) there (listed_there (with_train p x first last y) z listed).0 (inl refl);
        sends = λ z listed.
            ap (received (with_train p x first last y) (place_of (with_train p x first last y) z)) stands
            ∙ new_boxes s.is_sound new (place_of (with_train p x first last y) z) p (listed_there (with_train p x first last y) z listed).0 there (inr refl);
      }

  -- where the train of a position stands now
  beside : (i : ℕ) → i < a.day.trains → (j : ℕ) × (source_with a.day.trains (place_of a.day x) j ≡ i) × (j < suc a.day.trains) × (j ≢ place_of a.day x)
  beside i hi =
      let p : ℕ = place_of a.day x in
      ⊎_elim (λ (k : p ≤ i). (suc i, with_after a.day.trains p (suc i) (omega arith) ∙ omega arith, omega arith, λ e. omega arith))
      (λ (k : i < p). (i, with_before a.day.trains p i k, omega arith, λ e. omega arith)) (le_or_lt p i)

  module _ (z : ℕ) (listed : T (is_listed a.day z)) where
    was : (place_of a.day z < a.day.trains) × (number_at a.day (place_of a.day z) ≡ z)
    was = listed_there a.day z listed

    is_at : (j : ℕ) × (source_with a.day.trains (place_of a.day x) j ≡ place_of a.day z) × (j < suc a.day.trains) × (j ≢ place_of a.day x)
    is_at = beside (place_of a.day z) was.0

    old_now : (c : List ℕ) (v : ℕ) → get_or (set (moved a.day.width (suc a.day.trains) (source_with a.day.trains (place_of a.day x)) c) (place_of a.day x) v) is_at.0 0 ≡ get_or c (place_of a.day z) 0
    old_now c v = old_at s.is_sound new c v is_at.0 is_at.3 is_at.2 ∙ ap (λ k. get_or c k 0) is_at.1

    moved_now : (c : List ℕ) → get_or (moved a.day.width (suc a.day.trains) (source_with a.day.trains (place_of a.day x)) c) is_at.0 0 ≡ get_or c (place_of a.day z) 0
    moved_now c = more-at s.is_sound new c is_at.0 is_at.2 ∙ ap (λ k. get_or c k 0) is_at.1

    pub add_same : SameTrain a (edited a (add x first last)) z
    add_same =
        same_train a (edited a (add x first last)) s.is_sound after_add z (place_of a.day z) is_at.0 was.0 is_at.2 was.1 (old_now a.day.numbers x)
        (old_now a.day.first first) (old_now a.day.last last) (moved_now a.day.groups) (moved_now a.served)

    add_place : place_of (with_train (place_of a.day x) x first last a.day) z ≡ is_at.0
    add_place = place_b a (edited a (add x first last)) s.is_sound after_add z (place_of a.day z) is_at.0 was.0 is_at.2 was.1 (old_now a.day.numbers x)

  pub add_boxes : (z w : ℕ) → T (is_listed a.day z) → T (is_listed a.day w) → boxes_to (edited a (add x first last)) z w ≡ boxes_to a z w
  add_boxes z w lz lw =
      let (i, ei, hi, oi) = is_at z lz in
      let (j, ej, hj, oj) = is_at w lw in
      ap₂ (received (with_train (place_of a.day x) x first last a.day)) (add_place z lz) (add_place w lw)
      ∙ more-received s.is_sound new i j hi hj ∙ ap₂ (received a.day) ei ej

  -- no other number is new
  pub add-listed-before : (z : ℕ) → T (is_listed (edited a (add x first last)).day z) → z ≢ x → T (is_listed a.day z)
  add-listed-before z listed other =
      let y = a.day in
      let p : ℕ = place_of y x in
      let z' = with_train p x first last y in
      let (hj, e) = listed_there z' z listed in
      let j : ℕ = place_of z' z in
      let away : j ≢ p = λ q. other (sym e ∙ new_at s.is_sound new y.numbers x j q) in
      let was-there = old_train s.is_sound new j away hj in
      subst (λ k. T (is_listed y k)) (sym (old_at s.is_sound new y.numbers x j away hj) ∙ e) (listed-at_place s.is_sound (source_with y.trains p j) was-there)

-- ---- boxes set

module _ {l : Limits} {a : Account} (s : Standing l a) (to from boxes : ℕ) (h : AllHold (change_checks l a (set_boxes to from boxes))) where
  sets : (place_of a.day to < a.day.trains) × (place_of a.day from < a.day.trains) × (place_of a.day to ≢ place_of a.day from) × (boxes ≤ l.boxes)
  sets = boxes_say s to from boxes h

  -- trains stand where they were
  unmoved : (z : ℕ) → place_of (edited a (set_boxes to from boxes)).day z ≡ place_of a.day z
  unfolding place_of
  unmoved z = refl

  entry : (i j : ℕ) → i < a.day.trains → j < a.day.trains
      → (received (edited a (set_boxes to from boxes)).day i j ≡ received a.day i j) ⊎ ((i ≡ place_of a.day to) × (j ≡ place_of a.day from) × (received (edited a (set_boxes to from boxes)).day i j ≡ boxes))
  entry i j hi hj =
      let n = s.is_sound.limits.trains.1 in
      let (p, q, apart, most) = sets in
      index s.is_sound (place_of a.day to) (place_of a.day from) boxes p q apart most i j (omega arith) (omega arith)

  pub boxes_same : (z : ℕ) → T (is_listed a.day z) → SameTrain a (edited a (set_boxes to from boxes)) z
  unfolding is_listed place_of
  boxes_same z listed = record { listed = listed; first = refl; last = refl; group = refl; served = refl }

  pub boxes_there : boxes_to (edited a (set_boxes to from boxes)) to from ≡ boxes
  boxes_there =
      ap₂ (received (edited a (set_boxes to from boxes)).day) (unmoved to) (unmoved from)
      ∙ boxes_put s.is_sound (place_of a.day to) (place_of a.day from) boxes sets.0 sets.1 sets.2 sets.3

  -- every other pair
  pub boxes_others : (z w : ℕ) → T (is_listed a.day z) → T (is_listed a.day w) → ((z ≡ to) × (w ≡ from) → ⊥) → boxes_to (edited a (set_boxes to from boxes)) z w ≡ boxes_to a z w
  boxes_others z w lz lw other =
      let (hz, ez) = listed_there a.day z lz in
      let (hw, ew) = listed_there a.day w lw in
      let (et, ef) = boxes_listed s to from boxes h in
      ap₂ (received (edited a (set_boxes to from boxes)).day) (unmoved z) (unmoved w)
      ∙ ⊎_elim (λ e. e) (λ q. absurd (other (sym ez ∙ ap (number_at a.day) q.0 ∙ et, sym ew ∙ ap (number_at a.day) q.1 ∙ ef))) (entry (place_of a.day z) (place_of a.day w) hz hw)
