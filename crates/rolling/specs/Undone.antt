-- Changes that leave things as they were:
--   add-cancel     a train that is added and cancelled again gives the account back: the day, the closed slots, the served trains' slots;
--   same-boxes     boxes set to the number that they have give the account back;
--   added-back, boxes-back   so they give the state back that the account has, with its plan, which is the only best one.
-- Assumes nothing.
use Rattle.std.specs.Prelude.{◌≡◌, refl, not, ◌&&◌, List, [], ◌∷◌, ◌⊎◌, ◌≢◌, ltb, length, set}
use Rattle.std.proofs.Common.{sym, ◌∙◌, subst, inl, inr, ⊎_elim, le→leb, ltb→lt, lt→ltb, length-set, ext_get_or, get_or-set_same, get_or-set_other, le-leb, eq-eqb}
use Rattle.std.proofs.Math.Path.{ap}
use Prim.Native.Nat.{ℕ, suc, ◌+◌, ◌-◌, ◌*◌, ◌≤◌, ◌<◌}
use native.Mathlib.Omega.{arith}
use Rattle.std.proofs.Math.Arith.{digits_lt}
use Rattle.std.proofs.Math.Dec.{T, leb, eqb, leb→le}
use Rattle.std.proofs.Math.ListN.{get_or}
use Rattle.fold.specs.Fold.{lowest-found, none_i}
use Rattle.fold.specs.Test.{both, both_of, of_true}
use Rattle.fold.specs.Counting.{le_or_lt, same_or}
use Rattle.fold.specs.Column.{column, column-length, column-at, column_ext, is_column, table, table_ext, table_at, is_table}
use Rattle.model.specs.Model.{Yard, received, slot_of}
use Rattle.day.specs.Sound.{train_ranges}
use Rattle.day.specs.SoundLaws.{within_is}
use Rattle.day.specs.declared.Limits.{Limits}
use Rattle.day.specs.SoundDay.{SoundDay, number_at}
use Rattle.day.specs.Answer.{gives, on_given}
use Rattle.day.specs.AnswerLaws.{AllHold, checked_gives}
use Rattle.planning.specs.Planning.{areas_suffice, best_row}
use Rattle.rolling.specs.Rolling.{Account, State, plan_of, account_of, state_of, place_of, is_listed, moved, source_without, source_with, without_train, with_train, Change, cancel, add, set_boxes, edited, cut, BestKept, best_plan, change, change_checks, state_sound, state_made, state_checks, state_after}
use Rattle.rolling.specs.Cut.{Standing}
use Rattle.rolling.specs.States.{sound_state, state_standing, own_state}
use Rattle.rolling.specs.Follows.{best_here}
use Rattle.rolling.specs.Answers.{change_taken, change_says}
use Rattle.rolling.specs.Places.{without_before, without_after, with_before, with_here, with_after, place_le, place_before, listed_there, zeros_past}

-- ---- a train more, and less again

module _ (n p : ℕ) where
  pub source_back : (i : ℕ) → source_with n p (source_without p i) ≡ i
  source_back i =
      ⊎_elim (λ (h : p ≤ i). ap (source_with n p) (without_after p i h) ∙ with_after n p (suc i) (omega arith) ∙ omega arith)
      (λ (h : i < p). ap (source_with n p) (without_before p i h) ∙ with_before n p i h) (le_or_lt p i)

  pub source_other : (i : ℕ) → source_without p i ≢ p
  source_other i e =
      ⊎_elim (λ (h : p ≤ i). let f = without_after p i h in omega arith) (λ (h : i < p). let f = without_before p i h in omega arith) (le_or_lt p i)

  source_most : (i m : ℕ) → i < m → source_without p i < suc m
  source_most i m h =
      ⊎_elim (λ (g : p ≤ i). let f = without_after p i g in omega arith) (λ (g : i < p). let f = without_before p i g in omega arith) (le_or_lt p i)

  module _ (w : ℕ) (room : n < w) where
    -- a column
    pub column_back : (c : List ℕ) → length c ≡ w → ((i : ℕ) → n ≤ i → get_or c i 0 ≡ 0)
        → moved w (suc n - 1) (source_without p) (moved w (suc n) (source_with n p) c) ≡ c
    column_back c long past =
        column_ext w (suc n - 1) (λ i. get_or (moved w (suc n) (source_with n p) c) (source_without p i) 0) (λ i. get_or c i 0)
        (λ i h.
        let most = source_most i n (omega arith) in
        column-at w (suc n) (λ i. get_or c (source_with n p i) 0) (source_without p i) (omega arith) most ∙ ap (λ k. get_or c k 0) (source_back i))
        ∙ ap (λ k. column w k (λ i. get_or c i 0)) (omega arith) ∙ is_column w n c long past

    -- and one in which position p was set
    pub set_back : (c : List ℕ) (x : ℕ) → length c ≡ w → ((i : ℕ) → n ≤ i → get_or c i 0 ≡ 0)
        → moved w (suc n - 1) (source_without p) (set (moved w (suc n) (source_with n p) c) p x) ≡ c
    set_back c x long past =
        column_ext w (suc n - 1) (λ i. get_or (set (moved w (suc n) (source_with n p) c) p x) (source_without p i) 0) (λ i. get_or (moved w (suc n) (source_with n p) c) (source_without p i) 0)
        (λ i h. get_or-set_other (moved w (suc n) (source_with n p) c) p (source_without p i) x 0 (source_other i))
        ∙ column_back c long past

    -- the boxes
    table_back : (t : List ℕ) → length t ≡ w * w → ((i j : ℕ) → i < w → j < w → (n ≤ i) ⊎ (n ≤ j) → get_or t (i * w + j) 0 ≡ 0)
        → table w (suc n - 1) (λ i j. get_or (table w (suc n) (λ i j. get_or t (source_with n p i * w + source_with n p j) 0)) (source_without p i * w + source_without p j) 0) ≡ t
    table_back t long past =
        table_ext w (suc n - 1) (λ i j. get_or (table w (suc n) (λ i j. get_or t (source_with n p i * w + source_with n p j) 0)) (source_without p i * w + source_without p j) 0) (λ i j. get_or t (i * w + j) 0)
        (λ i j hi hj.
        let mi = source_most i n (omega arith) in
        let mj = source_most j n (omega arith) in
        table_at w (suc n) (λ i j. get_or t (source_with n p i * w + source_with n p j) 0) (source_without p i) (source_without p j) (omega arith) (omega arith) mi mj
        ∙ ap (λ k. get_or t (k * w + source_with n p (source_without p j)) 0) (source_back i) ∙ ap (λ k. get_or t (i * w + k) 0) (source_back j))
        ∙ ap (λ k. table w k (λ i j. get_or t (i * w + j) 0)) (omega arith) ∙ is_table w n t long past

module _ {l : Limits} {y : Yard} (s : SoundDay l y) (room : y.trains < l.trains) (x first last : ℕ) where
  width : y.width ≡ l.trains
  width = s.limits.shape.width

  wide : y.trains < y.width
  wide = let w = width in omega arith

  pub day_back : (p : ℕ) → without_train p (with_train p x first last y) ≡ y
  day_back p =
      let shape = s.limits.shape in
      let w = width in
      let numbers = set_back y.trains p y.width wide y.numbers x (shape.numbers ∙ sym w) (zeros_past y.numbers shape.numbers (λ i h k. (s.unused i h k).0)) in
      let firsts = set_back y.trains p y.width wide y.first first (shape.first ∙ sym w) (zeros_past y.first shape.first (λ i h k. (s.unused i h k).1)) in
      let lasts = set_back y.trains p y.width wide y.last last (shape.last ∙ sym w) (zeros_past y.last shape.last (λ i h k. (s.unused i h k).2)) in
      let groups = column_back y.trains p y.width wide y.groups (shape.groups ∙ sym w) (zeros_past y.groups shape.groups s.ungrouped) in
      let boxes = table_back y.trains p y.width wide y.boxes (shape.boxes ∙ ap (λ k. k * k) (sym w))
      (λ i j hi hj c. s.without i j (omega arith) (omega arith) (⊎_elim (λ (h : y.trains ≤ i). inl h) (λ (h : y.trains ≤ j). inr (inl h)) c)) in
      let trains : suc y.trains - 1 ≡ y.trains = omega arith in
      λ i. record {
        trains = trains i;
        tracks = y.tracks;
        slots = y.slots;
        revisit = y.revisit;
        split = y.split;
        numbers = numbers i;
        first = firsts i;
        last = lasts i;
        groups = groups i;
        width = y.width;
        boxes = boxes i;
      }

  -- the new train stands where it was put
  abbrev after : Yard
  after = with_train (place_of y x) x first last y

  pub number_here : number_at after (place_of y x) ≡ x
  number_here =
      get_or-set_same (moved y.width (suc y.trains) (source_with y.trains (place_of y x)) y.numbers) (place_of y x) x 0
      (let e = column-length y.width (suc y.trains) (λ i. get_or y.numbers (source_with y.trains (place_of y x) i) 0) in let m = place_le y x in let h = wide in omega arith)

  number-before : (i : ℕ) → i < place_of y x → number_at after i ≡ number_at y i
  number-before i h =
      let m = place_le y x in
      get_or-set_other (moved y.width (suc y.trains) (source_with y.trains (place_of y x)) y.numbers) (place_of y x) i x 0 (λ e. omega arith)
      ∙ column-at y.width (suc y.trains) (λ i. get_or y.numbers (source_with y.trains (place_of y x) i) 0) i (let k = wide in omega arith) (omega arith)
      ∙ ap (number_at y) (with_before y.trains (place_of y x) i h)

  pub same_place : place_of after x ≡ place_of y x
  same_place = go number_here number-before
    where
      go : number_at after (place_of y x) ≡ x → ((i : ℕ) → i < place_of y x → number_at after i ≡ number_at y i) → place_of after x ≡ place_of y x
      go here before =
          unfold place_of in
          lowest-found (suc y.trains) (λ i. leb x (number_at after i)) (place_of y x) (let m = place_le y x in omega arith)
          (none_i (place_of y x) (λ i. leb x (number_at after i)) (λ i h t. let e = before i h in let b = place_before y x i h in let g = leb→le x (number_at after i) t in omega arith))
          (le-leb x (number_at after (place_of y x)) (omega arith))

-- an entry set to what it is
set_own : (c : List ℕ) (k : ℕ) → k < length c → set c k (get_or c k 0) ≡ c
set_own c k h =
    ext_get_or 0 (set c k (get_or c k 0)) c (length-set c k (get_or c k 0))
    (λ i g.
    ⊎_elim (λ (e : i ≡ k). ap (λ j. get_or (set c k (get_or c k 0)) j 0) e ∙ get_or-set_same c k (get_or c k 0) 0 h ∙ ap (λ j. get_or c j 0) (sym e))
    (λ (d : i ≢ k). get_or-set_other c k i (get_or c k 0) 0 d) (same_or i k))

-- ---- the account

module _ {l : Limits} {a : Account} (s : Standing l a) where
  pub add_cancel : (x first last : ℕ) → a.day.trains < l.trains → edited (edited a (add x first last)) (cancel x) ≡ a
  add_cancel x first last room =
      let y = a.day in
      let q = same_place s.is_sound room x first last in
      let days = ap (λ p. without_train p (edited a (add x first last)).day) q ∙ day_back s.is_sound room x first last (place_of y x) in
      let served =
      ap (λ p. moved y.width (suc y.trains - 1) (source_without p) (edited a (add x first last)).served) q
      ∙ column_back y.trains (place_of y x) y.width (wide s.is_sound room x first last) a.served (s.long ∙ sym s.is_sound.limits.shape.width) s.past in
      λ i. record { day = days i; closed = a.closed; served = served i }

  pub same_boxes : (to from : ℕ) → T (is_listed a.day to) → T (is_listed a.day from)
      → edited a (set_boxes to from (received a.day (place_of a.day to) (place_of a.day from))) ≡ a
  same_boxes to from u v =
      let y = a.day in
      let d = s.is_sound.limits in
      let p = (listed_there y to u).0 in
      let q = (listed_there y from v).0 in
      let at : ℕ = place_of y to * y.width + place_of y from in
      let there : at < length y.boxes =
      omega (arith, d.shape.boxes, subst (λ w. place_of y to * w + place_of y from < l.trains * l.trains) (sym d.shape.width) (digits_lt {q = place_of y to} {m = l.trains} {r = place_of y from} {c = l.trains} (omega (arith, d.trains.1)) (omega (arith, d.trains.1)))) in
      let boxes = set_own y.boxes at there in
      λ i. record {
        day = record {
          trains = y.trains;
          tracks = y.tracks;
          slots = y.slots;
          revisit = y.revisit;
          split = y.split;
          numbers = y.numbers;
          first = y.first;
          last = y.last;
          groups = y.groups;
          width = y.width;
          boxes = boxes i;
        };
        closed = a.closed;
        served = a.served;
      }

-- ---- the state, where its plan is the best

module _ (l : Limits) (s : State) (t : T (state_sound l s)) (b : BestKept (account_of s) (plan_of s)) where
  standing : Standing l (account_of s)
  standing = state_standing (sound_state l s t)

  -- the account's best plan makes this state
  own_plan : on_given (best_plan (cut (account_of s))) (λ plan. gives (state_of (account_of s) plan)) ≡ gives s
  own_plan = ap (λ o. on_given (best_row (cut (account_of s)) o) (λ plan. gives (state_of (account_of s) plan))) (best_here l s t b) ∙ ap gives (own_state (sound_state l s t))

  -- a change of a state that leaves this state's account
  back : (next : State) (c : Change) (costs choices : ℕ) → T (state_sound l next) → T (areas_suffice costs choices) → AllHold (change_checks l (account_of next) c)
      → edited (account_of next) c ≡ account_of s → state_after l next (change c costs choices) ≡ gives s
  back next c costs choices u enough h e =
      change_says l next c costs choices u enough h ∙ ap (λ a. on_given (best_plan (cut a)) (λ plan. gives (state_of a plan))) e ∙ own_plan

  pub boxes_back : (to from costs choices : ℕ) → let boxes = received s.day (place_of s.day to) (place_of s.day from) in
      T (areas_suffice costs choices) → AllHold (change_checks l (account_of s) (set_boxes to from boxes)) → state_after l s (change (set_boxes to from boxes) costs choices) ≡ gives s
  boxes_back to from costs choices enough h =
      let (u, v) = both_of (is_listed s.day to) (is_listed s.day from) h.1.0 in
      back s (set_boxes to from (received s.day (place_of s.day to) (place_of s.day from))) costs choices t enough h (same_boxes standing to from u v)

  room : (x first last : ℕ) → AllHold (change_checks l (account_of s) (add x first last)) → s.day.trains < l.trains
  room x first last h = ltb→lt s.day.trains l.trains (both_of (not (is_listed s.day x)) (ltb s.day.trains l.trains) h.1.0).1

  -- the train that was added may be cancelled: its number is one, it is listed, it is not served, and there are others
  may_cancel : (x first last : ℕ) → AllHold (change_checks l (account_of s) (add x first last)) → AllHold (change_checks l (edited (account_of s) (add x first last)) (cancel x))
  unfolding is_listed train_ranges
  may_cancel x first last h =
      let y = s.day in
      let d = standing.is_sound in
      let r = room x first last h in
      let b = edited (account_of s) (add x first last) in
      let p : ℕ = place_of y x in
      let most = place_le y x in
      let q : place_of b.day x ≡ p = same_place d r x first last in
      let (low, high) = (within_is (train_ranges l y.slots) (x ∷ first ∷ last ∷ []) h.0).0 in
      let here = number_here d r x first last in
      let listed : T (ltb (place_of b.day x) (suc y.trains) && eqb (number_at b.day (place_of b.day x)) x) =
      both (ltb (place_of b.day x) (suc y.trains)) (eqb (number_at b.day (place_of b.day x)) x) (lt→ltb (place_of b.day x) (suc y.trains) (omega arith)) (of_true (eq-eqb _ _ (ap (number_at b.day) q ∙ here))) in
      let zero : slot_of b.served (place_of b.day x) ≡ 0 =
      ap (slot_of b.served) q
      ∙ column-at y.width (suc y.trains) (λ i. get_or (account_of s).served (source_with y.trains p i) 0) p (let w = wide d r x first last in omega arith) (omega arith)
      ∙ ap (slot_of (account_of s).served) (with_here y.trains p p refl) ∙ standing.past y.trains (omega arith) in
      let others : 1 < suc y.trains = let g = d.limits.trains.0 in omega arith in (
        both (leb 1 x) (leb x l.number) (le→leb 1 x low) (le→leb x l.number high),
        (
          both (ltb (place_of b.day x) (suc y.trains) && eqb (number_at b.day (place_of b.day x)) x && eqb (slot_of b.served (place_of b.day x)) 0) (ltb 1 (suc y.trains))
              (both (ltb (place_of b.day x) (suc y.trains) && eqb (number_at b.day (place_of b.day x)) x) (eqb (slot_of b.served (place_of b.day x)) 0) listed (of_true (eq-eqb _ _ zero))) (lt→ltb _ _ others),
          tt,
        ),
      )

  pub added_back : (x first last costs choices : ℕ) (next : State) → state_after l s (change (add x first last) costs choices) ≡ gives next
      → (again more : ℕ) → T (areas_suffice again more) → state_after l next (change (cancel x) again more) ≡ gives s
  unfolding state_after
  added_back x first last costs choices next e again more enough =
      let f = change_taken l s (add x first last) costs choices next e in
      let ((u, (v, h)), g) = checked_gives (state_checks l s (change (add x first last) costs choices)) (state_made s (change (add x first last) costs choices)) next e in
      back next (cancel x) again more f.is_sound enough
      (subst (λ a. AllHold (change_checks l a (cancel x))) (sym f.account) (may_cancel x first last h))
      (ap (λ a. edited a (cancel x)) f.account ∙ add_cancel standing x first last (room x first last h))
