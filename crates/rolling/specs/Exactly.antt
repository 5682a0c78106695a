-- When each check of a moving day fails and when it holds, in order 7's words and with the papers' numbers: trains by their numbers, slots
-- by the state's own row. On the day file's limits:
--   unsound-eight   a state that is not sound gets 8, whatever the call and the areas;
--   close-taken, close-twenty   close counts one slot more and keeps day and row, exactly where a slot is open; else 20;
--   short-ten       10 exactly where there are fewer than 4,096 or 32,768 words;
--   cancel-three, cancel-eighteen, cancel-passes; add-three, add-nineteen, add_five, add-passes; boxes-three, boxes-eighteen, boxes-six,
--   boxes-pass      the refusal of the first of the order's checks that fails; where none fails, the change passes its checks;
--   cancel-taken, boxes-taken   then cancel and set boxes are taken;
--   same_head       a change leaves tracks, slots, weights and closed slots.
-- Assumes nothing.
use Rattle.std.specs.Prelude.{◌≡◌, refl, Bool, true, not, ◌&&◌, [], ◌∷◌, ◌⊎◌, ◌≢◌, ℕ, suc, ◌-◌, ◌≤◌, ◌<◌, T, eqb}
use Rattle.std.proofs.Common.{sym, ap, ◌∙◌, subst, inl, inr, arith, le→leb, lt→ltb}
use Rattle.std.proofs.Math.Bool.{false}
use Rattle.std.proofs.Math.Logic.{⊎_elim}
use Rattle.std.proofs.Math.Dec.{ltb, leb, leb→le, ltb→lt}
use borrow.Author.Tests.{le-leb, lt-ltb, le-ltb, eq-eqb, ne_eqb}
use Rattle.fold.specs.Test.{is_true, of_true, is_false, both, both_of}
use Rattle.model.specs.Model.{Yard, slot_of}
use Rattle.day.specs.Answer.{Answer, gives, refuses}
use Rattle.day.specs.AnswerLaws.{AllHold}
use Rattle.day.specs.Sound.{day_limits, within, train_ranges}
use Rattle.day.specs.SoundDay.{SoundDay, number_at, sound_day}
use Rattle.day.specs.SoundLaws.{within_is, is_within}
use Rattle.planning.specs.Planning.{areas_suffice}
use Rattle.planning.proofs.Answers.{areas_short, areas_enough}
use Rattle.rolling.specs.Rolling.{Account, State, account_of, place_of, is_listed, Change, cancel, add, set_boxes, edited, number_in, Call, close, change, change_checks, state_sound, state_after}
use Rattle.rolling.specs.Places.{listed_there}
use Rattle.rolling.specs.States.{SoundState, sound_state, state_sound_lem, at_closed, at_open, in_window_lem}
use Rattle.rolling.specs.Answers.{always_taken}
use Rattle.rolling.specs.ByNumber.{stands_at, listed-at_place}

-- a train number of the day, at its position; and one that the day has not
pub record Listed (y : Yard) (x : ℕ) : Type 0 where
  pub position : ℕ
  pub there : position < y.trains
  pub number : number_at y position ≡ x

abbrev pub Unlisted : Yard → ℕ → Type 0
Unlisted y x = (i : ℕ) → i < y.trains → number_at y i ≢ x

-- ---- any call

pub unsound_eight : (s : State) (call : Call) → (SoundState day_limits s → ⊥) → state_after day_limits s call ≡ refuses 8 (0 ∷ [])
unfolding state_after
unsound_eight s call h = rw (is_false (state_sound day_limits s) (λ t. h (sound_state day_limits s t)))

module _ (s : State) (d : SoundState day_limits s) where
  sound_true : state_sound day_limits s ≡ true
  sound_true = is_true (state_sound day_limits s) (state_sound_lem day_limits s d)

  day_is : SoundDay day_limits s.day
  day_is = sound_day day_limits s.day d.is_sound

  -- ---- close

  pub close_taken : s.closed < s.day.slots → state_after day_limits s close ≡ gives (record { day = s.day; closed = suc s.closed; row = s.row })
  unfolding state_after
  close_taken h = rw (sound_true, lt-ltb s.closed s.day.slots h)

  pub close_twenty : s.day.slots ≤ s.closed → state_after day_limits s close ≡ refuses 20 (0 ∷ [])
  unfolding state_after
  close_twenty h = rw (sound_true, le-ltb s.closed s.day.slots h)

  -- ---- the areas of a change

  pub short_ten : (c : Change) (costs choices : ℕ) → (costs < 4096) ⊎ (choices < 32768) → state_after day_limits s (change c costs choices) ≡ refuses 10 (0 ∷ [])
  unfolding state_after
  short_ten c costs choices h = rw (sound_true, areas_short costs choices h)

  -- ---- trains by their numbers

  -- a train of the day whose slot is closed, or open
  abbrev pub Served : ℕ → Type 0
  Served x = (w : Listed s.day x) × (slot_of s.row w.position ≤ s.closed)

  abbrev pub Waiting : ℕ → Type 0
  Waiting x = (w : Listed s.day x) × (s.closed < slot_of s.row w.position)

  -- cancel's test of it
  abbrev waits : ℕ → Bool
  waits x = eqb (slot_of (account_of s).served (place_of s.day x)) 0

  listed_true : (x : ℕ) → Listed s.day x → is_listed s.day x ≡ true
  listed_true x w = is_true (is_listed s.day x) (subst (λ k. T (is_listed s.day k)) w.number (listed-at_place day_is w.position w.there))

  listed_false : (x : ℕ) → Unlisted s.day x → is_listed s.day x ≡ false
  listed_false x w = is_false (is_listed s.day x) (λ t. let (h, e) = listed_there s.day x t in w (place_of s.day x) h e)

  place_is : (x : ℕ) (w : Listed s.day x) → place_of s.day x ≡ w.position
  place_is x w = ap (place_of s.day) (sym w.number) ∙ stands_at day_is w.position w.there

  in_true : (x : ℕ) → 1 ≤ x → x ≤ 99999 → number_in day_limits x ≡ true
  in_true x a b = is_true (number_in day_limits x) (both (leb 1 x) (leb x 99999) (le→leb 1 x a) (le→leb x 99999 b))

  in_false : (x : ℕ) → (x < 1) ⊎ (99999 < x) → number_in day_limits x ≡ false
  in_false x h =
      is_false (number_in day_limits x) (λ t.
      let (p, q) = both_of (leb 1 x) (leb x 99999) t in
      let p = leb→le 1 x p in
      let q = leb→le x 99999 q in
      ⊎_elim (λ (g : x < 1). omega arith) (λ (g : 99999 < x). omega arith) h)

  -- the account's slot of a train is the row's where that is closed
  served_false : (x : ℕ) → Served x → waits x ≡ false
  served_false x (w, h) =
      ne_eqb (slot_of (account_of s).served (place_of s.day x)) 0 (λ e.
      let q = ap (slot_of (account_of s).served) (place_is x w) ∙ at_closed d w.position w.there h in
      let g = (in_window_lem d w.position w.there).0 in omega arith)

  waiting_true : (x : ℕ) → Waiting x → waits x ≡ true
  waiting_true x (w, h) = eq-eqb (slot_of (account_of s).served (place_of s.day x)) 0 (ap (slot_of (account_of s).served) (place_is x w) ∙ at_open d w.position w.there h)

  module _ (costs choices : ℕ) (enough : 4096 ≤ costs) (more : 32768 ≤ choices) where
    suffice : areas_suffice costs choices ≡ true
    suffice = is_true (areas_suffice costs choices) (areas_enough costs choices enough more)

    -- what a change is answered
    abbrev pub answered : Change → Answer State
    answered c = state_after day_limits s (change c costs choices)

    -- ---- cancel

    pub cancel_three : (x : ℕ) → (x < 1) ⊎ (99999 < x) → answered (cancel x) ≡ refuses 3 (0 ∷ [])
    unfolding state_after
    cancel_three x h = rw (sound_true, suffice, in_false x h)

    -- not listed, served, or the only one
    pub cancel_eighteen : (x : ℕ) → 1 ≤ x → x ≤ 99999
        → Unlisted s.day x ⊎ (Served x ⊎ (s.day.trains ≡ 1))
        → answered (cancel x) ≡ refuses 18 (0 ∷ [])
    unfolding state_after
    cancel_eighteen x a b h = rw (sound_true, suffice, in_true x a b, fails h)
      where
        fails : Unlisted s.day x ⊎ (Served x ⊎ (s.day.trains ≡ 1))
            → (is_listed s.day x && waits x && ltb 1 s.day.trains) ≡ false
        fails (inl u) = rw (listed_false x u)
        fails (inr (inl w)) = rw (listed_true x w.0, served_false x w)
        fails (inr (inr e)) =
            is_false (is_listed s.day x && waits x && ltb 1 s.day.trains)
            (λ t. let g = ltb→lt 1 s.day.trains (both_of (is_listed s.day x && waits x) (ltb 1 s.day.trains) t).1 in omega arith)

    pub cancel_passes : (x : ℕ) → 1 ≤ x → x ≤ 99999 → Waiting x → 1 < s.day.trains → AllHold (change_checks day_limits (account_of s) (cancel x))
    cancel_passes x a b w n = (
      of_true (in_true x a b),
      (of_true {b = is_listed s.day x && waits x && ltb 1 s.day.trains} (rw (listed_true x w.0, waiting_true x w, lt-ltb 1 s.day.trains n)), tt),
    )

    -- so it is taken
    pub cancel_taken : (x : ℕ) → 1 ≤ x → x ≤ 99999 → Waiting x → 1 < s.day.trains
        → (next : State) × (answered (cancel x) ≡ gives next)
    cancel_taken x a b w n = always_taken day_limits s (cancel x) costs choices (state_sound_lem day_limits s d) (of_true suffice) (cancel_passes x a b w n) tt

    -- ---- add

    -- number, first and last in their limits
    abbrev pub InLimits : ℕ → ℕ → ℕ → Type 0
    InLimits x first last = ((1 ≤ x) × (x ≤ 99999)) × (((1 ≤ first) × (first ≤ s.day.slots)) × ((1 ≤ last) × (last ≤ s.day.slots)))

    -- the test of them
    abbrev in_limits : ℕ → ℕ → ℕ → Bool
    in_limits x first last = within (train_ranges day_limits s.day.slots) (x ∷ first ∷ last ∷ [])

    within_true : (x first last : ℕ) → InLimits x first last → in_limits x first last ≡ true
    unfolding train_ranges
    within_true x first last (a, (b, c)) = is_true (in_limits x first last) (is_within (train_ranges day_limits s.day.slots) (x ∷ first ∷ last ∷ []) (a, (b, (c, tt))))

    within_false : (x first last : ℕ) → (InLimits x first last → ⊥) → in_limits x first last ≡ false
    unfolding train_ranges
    within_false x first last h =
        is_false (in_limits x first last) (λ t. let (a, (b, (c, u))) = within_is (train_ranges day_limits s.day.slots) (x ∷ first ∷ last ∷ []) t in h (a, (b, c)))

    pub add_three : (x first last : ℕ) → (InLimits x first last → ⊥) → answered (add x first last) ≡ refuses 3 (0 ∷ [])
    unfolding state_after
    add_three x first last h = rw (sound_true, suffice, within_false x first last h)

    -- listed already, or a thirteenth train
    pub add_nineteen : (x first last : ℕ) → InLimits x first last → Listed s.day x ⊎ (s.day.trains ≡ 12) → answered (add x first last) ≡ refuses 19 (0 ∷ [])
    unfolding state_after
    add_nineteen x first last i h = rw (sound_true, suffice, within_true x first last i, fails h)
      where
        fails : Listed s.day x ⊎ (s.day.trains ≡ 12) → (not (is_listed s.day x) && ltb s.day.trains 12) ≡ false
        fails (inl w) = rw (listed_true x w)
        fails (inr e) =
            is_false (not (is_listed s.day x) && ltb s.day.trains 12)
            (λ t. let g = ltb→lt s.day.trains 12 (both_of (not (is_listed s.day x)) (ltb s.day.trains 12) t).1 in omega arith)

    new_true : (x : ℕ) → Unlisted s.day x → s.day.trains < 12 → (not (is_listed s.day x) && ltb s.day.trains 12) ≡ true
    new_true x u n = rw (listed_false x u, lt-ltb s.day.trains 12 n)

    -- first above last, or in a closed slot
    pub add_five : (x first last : ℕ) → InLimits x first last → Unlisted s.day x → s.day.trains < 12 → (last < first) ⊎ (first ≤ s.closed)
        → answered (add x first last) ≡ refuses 5 (0 ∷ [])
    unfolding state_after
    add_five x first last i u n h =
        let e : (leb first last && ltb s.closed first) ≡ false =
        is_false (leb first last && ltb s.closed first) (λ t.
        let (p, q) = both_of (leb first last) (ltb s.closed first) t in
        let p = leb→le first last p in
        let q = ltb→lt s.closed first q in
        ⊎_elim (λ (g : last < first). omega arith) (λ (g : first ≤ s.closed). omega arith) h) in
        rw (sound_true, suffice, within_true x first last i, new_true x u n, e)

    pub add-passes : (x first last : ℕ) → InLimits x first last → Unlisted s.day x → s.day.trains < 12 → first ≤ last → s.closed < first
        → AllHold (change_checks day_limits (account_of s) (add x first last))
    add-passes x first last i u n o c =
        (of_true (within_true x first last i), (of_true (new_true x u n), (both (leb first last) (ltb s.closed first) (le→leb first last o) (lt→ltb s.closed first c), tt)))

    -- ---- set boxes

    abbrev pub PairIn : ℕ → ℕ → ℕ → Type 0
    PairIn to from boxes = ((1 ≤ to) × (to ≤ 99999)) × (((1 ≤ from) × (from ≤ 99999)) × (boxes ≤ 255))

    pair_true : (to from boxes : ℕ) → PairIn to from boxes → (number_in day_limits to && number_in day_limits from && leb boxes 255) ≡ true
    pair_true to from boxes (a, (b, c)) = rw (in_true to a.0 a.1, in_true from b.0 b.1, le-leb boxes 255 c)

    pub boxes_three : (to from boxes : ℕ) → (PairIn to from boxes → ⊥) → answered (set_boxes to from boxes) ≡ refuses 3 (0 ∷ [])
    unfolding state_after
    boxes_three to from boxes h =
        let e : (number_in day_limits to && number_in day_limits from && leb boxes 255) ≡ false =
        is_false (number_in day_limits to && number_in day_limits from && leb boxes 255) (λ t.
        let (p, c) = both_of (number_in day_limits to && number_in day_limits from) (leb boxes 255) t in
        let (a, b) = both_of (number_in day_limits to) (number_in day_limits from) p in
        let (a0, a1) = both_of (leb 1 to) (leb to 99999) a in
        let (b0, b1) = both_of (leb 1 from) (leb from 99999) b in
        h ((leb→le 1 to a0, leb→le to 99999 a1), ((leb→le 1 from b0, leb→le from 99999 b1), leb→le boxes 255 c))) in
        rw (sound_true, suffice, e)

    pub boxes_eighteen : (to from boxes : ℕ) → PairIn to from boxes → Unlisted s.day to ⊎ Unlisted s.day from → answered (set_boxes to from boxes) ≡ refuses 18 (0 ∷ [])
    unfolding state_after
    boxes_eighteen to from boxes i h = rw (sound_true, suffice, pair_true to from boxes i, fails h)
      where
        fails : Unlisted s.day to ⊎ Unlisted s.day from → (is_listed s.day to && is_listed s.day from) ≡ false
        fails (inl u) = rw (listed_false to u)
        fails (inr u) = is_false (is_listed s.day to && is_listed s.day from) (λ t. let (p, q) = both_of (is_listed s.day to) (is_listed s.day from) t in let (g, e) = listed_there s.day from q in u (place_of s.day from) g e)

    -- 6 alone where both are listed: a train and itself
    pub boxes_six : (x boxes : ℕ) → PairIn x x boxes → Listed s.day x → answered (set_boxes x x boxes) ≡ refuses 6 (0 ∷ [])
    unfolding state_after
    boxes_six x boxes i w = rw (sound_true, suffice, pair_true x x boxes i, listed_true x w, eq-eqb x x refl)

    -- served trains too
    pub boxes_pass : (to from boxes : ℕ) → PairIn to from boxes → Listed s.day to → Listed s.day from → to ≢ from → AllHold (change_checks day_limits (account_of s) (set_boxes to from boxes))
    boxes_pass to from boxes i u v o = (
      of_true (pair_true to from boxes i),
      (both (is_listed s.day to) (is_listed s.day from) (of_true (listed_true to u)) (of_true (listed_true from v)), (of_true {b = not (eqb to from)} (rw (ne_eqb to from o)), tt)),
    )

    pub boxes_taken : (to from boxes : ℕ) → PairIn to from boxes → Listed s.day to → Listed s.day from → to ≢ from
        → (next : State) × (answered (set_boxes to from boxes) ≡ gives next)
    boxes_taken to from boxes i u v o = always_taken day_limits s (set_boxes to from boxes) costs choices (state_sound_lem day_limits s d) (of_true suffice) (boxes_pass to from boxes i u v o) tt

-- ---- what a change leaves of the day's head, and of the closed slots

pub record SameHead (a b : Account) : Type 0 where
  pub tracks : b.day.tracks ≡ a.day.tracks
  pub slots : b.day.slots ≡ a.day.slots
  pub revisit : b.day.revisit ≡ a.day.revisit
  pub split : b.day.split ≡ a.day.split
  pub closed : b.closed ≡ a.closed

pub same_head_lem : (a : Account) (c : Change) → SameHead a (edited a c)
same_head_lem a (cancel x) = record { tracks = refl; slots = refl; revisit = refl; split = refl; closed = refl }
same_head_lem a (add x first last) = record { tracks = refl; slots = refl; revisit = refl; split = refl; closed = refl }
same_head_lem a (set_boxes to from boxes) = record { tracks = refl; slots = refl; revisit = refl; split = refl; closed = refl }

-- one train less, one more, as many
abbrev pub trains_after : ℕ → Change → ℕ
trains_after n (cancel x) = n - 1
trains_after n (add x first last) = suc n
trains_after n (set_boxes to from boxes) = n

pub trains_after_lem : (a : Account) (c : Change) → (edited a c).day.trains ≡ trains_after a.day.trains c
trains_after_lem a (cancel x) = refl
trains_after_lem a (add x first last) = refl
trains_after_lem a (set_boxes to from boxes) = refl
