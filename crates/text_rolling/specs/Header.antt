-- What include/yard.h says of the functions of a moving day, in its own numbers:
--   begin-short, close-short, change-short   10 with 0 where there are fewer than four numbers, twelve bytes of plan or 2,437 bytes of day
--                   file, whatever the text is;
--   begin-unread, close-unread, change-unread   else the text's refusal with its line;
--   close_row, change-row   else 8 where the row has not a slot for each train;
--   begin-read, close-read, change-read   else what the call answers on the day or on the state that is kept, sound or not;
--   begin-areas, change-areas   after every refusal but 9 and 16 the work areas are as they were; words beyond 4,096 and 32,768 always.
-- Assumes nothing.
use Rattle.std.specs.Prelude.{◌≡◌, Bool, false, true, ◌&&◌, List, [], ◌∷◌, ◌≢◌, ℕ, ◌≤◌, ◌<◌, leb, length, drop}
use Rattle.std.proofs.Common.{ap, leb→le, le-leb}
use Rattle.std.proofs.lemmas.Bool.{lt-leb}
use Rattle.fold.specs.Test.{is_false, both_of}
use Rattle.model.specs.Model.{Yard}
use Rattle.day.specs.Answer.{Answer, gives, refuses, on_given, where_given}
use Rattle.day.specs.Sound.{day_limits}
use Rattle.dayfile.specs.Reading.{read_day}
use Rattle.planning.specs.Planning.{cost_area, choice_area, open_words, Stays}
use Rattle.rolling.specs.Rolling.{State, Change, close, change, state_after, begun, state_begins, begun_begins}
use Rattle.rolling.specs.Memory.{Areas, change_memory, begin_memory}
use Rattle.state_text.specs.StateText.{kept_state}
use Rattle.state_text.specs.Laws.{kept_refused, kept-eight}
use Rattle.state_text.specs.Kept.{KeptOnly, kept_whole}
use Rattle.text_rolling.specs.TextRolling.{plan_room, state_room, with_room, begin_for, close_for, change_for, begin_opens, change_opens}

-- ---- room, in the header's numbers

abbrev pub PlanRoom : ℕ → ℕ → Type 0
PlanRoom slots size = (4 ≤ size) × (12 ≤ slots)

abbrev pub StateRoom : ℕ → ℕ → ℕ → Type 0
StateRoom bytes slots size = (4 ≤ size) × ((2437 ≤ bytes) × (12 ≤ slots))

plan_true : (slots size : ℕ) → PlanRoom slots size → plan_room day_limits slots size ≡ true
plan_true slots size (a, b) = rw (le-leb 4 size a, le-leb 12 slots b)

plan_false : (slots size : ℕ) → (PlanRoom slots size → ⊥) → plan_room day_limits slots size ≡ false
plan_false slots size h = is_false (plan_room day_limits slots size) (λ t. let (a, b) = both_of (leb 4 size) (leb 12 slots) t in h (leb→le 4 size a, leb→le 12 slots b))

state_true : (bytes slots size : ℕ) → StateRoom bytes slots size → state_room day_limits bytes slots size ≡ true
state_true bytes slots size (a, (b, c)) = rw (le-leb 4 size a, le-leb 2437 bytes b, le-leb 12 slots c)

state_false : (bytes slots size : ℕ) → (StateRoom bytes slots size → ⊥) → state_room day_limits bytes slots size ≡ false
state_false bytes slots size h =
    is_false (state_room day_limits bytes slots size) (λ t.
    let (a, p) = both_of (leb 4 size) (leb 2437 bytes && leb 12 slots) t in
    let (b, c) = both_of (leb 2437 bytes) (leb 12 slots) p in
    h (leb→le 4 size a, (leb→le 2437 bytes b, leb→le 12 slots c)))

-- ---- begin

module _ (text : List ℕ) (costs choices slots size : ℕ) where
  pub begin_short : (PlanRoom slots size → ⊥) → begin_for day_limits text costs choices slots size ≡ refuses 10 (0 ∷ [])
  unfolding begin_for
  begin_short h = rw (plan_false slots size h)

  module _ (room : PlanRoom slots size) where
    pub begin_unread : (k : ℕ) (carries : List ℕ) → read_day day_limits text ≡ refuses k carries → begin_for day_limits text costs choices slots size ≡ refuses k carries
    unfolding begin_for
    begin_unread k carries e = rw (plan_true slots size room, e)

    pub begin_read : (y : Yard) → read_day day_limits text ≡ gives y → begin_for day_limits text costs choices slots size ≡ begun day_limits y costs choices
    unfolding begin_for
    begin_read y e = rw (plan_true slots size room, e)

-- ---- close and the changes

module _ (text : List ℕ) (closed : ℕ) (row : List ℕ) (size : ℕ) where
  pub close_short : size < 4 → close_for day_limits text closed row size ≡ refuses 10 (0 ∷ [])
  unfolding close_for
  close_short h = rw (lt-leb 4 size h)

  module _ (room : 4 ≤ size) where
    pub close_unread : (k : ℕ) (carries : List ℕ) → read_day day_limits text ≡ refuses k carries → close_for day_limits text closed row size ≡ refuses k carries
    unfolding close_for
    close_unread k carries e = rw (le-leb 4 size room, kept_refused day_limits text closed row e)

    module _ (y : Yard) (reads : read_day day_limits text ≡ gives y) where
      pub close_row : length row ≢ y.trains → close_for day_limits text closed row size ≡ refuses 8 (0 ∷ [])
      unfolding close_for
      close_row h = rw (le-leb 4 size room, kept-eight day_limits text closed row reads h)

      pub close_read : length row ≡ y.trains → (s : State) × ((close_for day_limits text closed row size ≡ state_after day_limits s close) × KeptOnly day_limits text closed row s)
      close_read h = let (s, (e, k)) = kept_whole day_limits text closed row y reads h in (s, (on s e, k))
        where
          on : (s : State) → kept_state day_limits text closed row ≡ gives s → close_for day_limits text closed row size ≡ state_after day_limits s close
          on s e = unfold close_for in rw (le-leb 4 size room, e)

module _ (text : List ℕ) (closed : ℕ) (row : List ℕ) (c : Change) (costs choices bytes slots size : ℕ) where
  pub change_short : (StateRoom bytes slots size → ⊥) → change_for day_limits text closed row c costs choices bytes slots size ≡ refuses 10 (0 ∷ [])
  unfolding change_for
  change_short h = rw (state_false bytes slots size h)

  module _ (room : StateRoom bytes slots size) where
    pub change_unread : (k : ℕ) (carries : List ℕ) → read_day day_limits text ≡ refuses k carries → change_for day_limits text closed row c costs choices bytes slots size ≡ refuses k carries
    unfolding change_for
    change_unread k carries e = rw (state_true bytes slots size room, kept_refused day_limits text closed row e)

    module _ (y : Yard) (reads : read_day day_limits text ≡ gives y) where
      pub change_row : length row ≢ y.trains → change_for day_limits text closed row c costs choices bytes slots size ≡ refuses 8 (0 ∷ [])
      unfolding change_for
      change_row h = rw (state_true bytes slots size room, kept-eight day_limits text closed row reads h)

      pub change_read : length row ≡ y.trains
          → (s : State) × ((change_for day_limits text closed row c costs choices bytes slots size ≡ state_after day_limits s (change c costs choices)) × KeptOnly day_limits text closed row s)
      change_read h = let (s, (e, k)) = kept_whole day_limits text closed row y reads h in (s, (on s e, k))
        where
          on : (s : State) → kept_state day_limits text closed row ≡ gives s → change_for day_limits text closed row c costs choices bytes slots size ≡ state_after day_limits s (change c costs choices)
          on s e = unfold change_for in rw (state_true bytes slots size room, e)

-- ---- the work areas

module _ (cost choice costAfter choiceAfter : List ℕ) where
  -- where nothing is given no word is open
  handed_on : {X : Type 0} (a : Answer X) (f : X → Answer State) (g : X → Bool)
      → ((x : X) → Stays (open_words (g x) cost_area) cost costAfter → Stays (open_words (g x) choice_area) choice choiceAfter → Areas (f x) cost choice costAfter choiceAfter)
      → Stays (open_words (where_given a false g) cost_area) cost costAfter → Stays (open_words (where_given a false g) choice_area) choice choiceAfter → Areas (on_given a f) cost choice costAfter choiceAfter
  handed_on (gives x) f g h c d = h x c d
  handed_on (refuses k carries) f g h c d = record { unchanged = λ k carries q other. (c, d); cost_beyond = ap (drop 4096) c; choice_beyond = ap (drop 32768) d }

  pub begin_areas : (text : List ℕ) (slots size : ℕ) → let opens = begin_opens day_limits text (length cost) (length choice) slots size in
      Stays (open_words opens cost_area) cost costAfter → Stays (open_words opens choice_area) choice choiceAfter
      → Areas (begin_for day_limits text (length cost) (length choice) slots size) cost choice costAfter choiceAfter
  unfolding begin_for begin_opens
  begin_areas text slots size =
      handed_on (with_room (plan_room day_limits slots size) (read_day day_limits text)) (λ y. begun day_limits y (length cost) (length choice)) (λ y. begun_begins day_limits y (length cost) (length choice))
      (begin_memory day_limits cost choice costAfter choiceAfter)

  pub change_areas : (text : List ℕ) (closed : ℕ) (row : List ℕ) (c : Change) (bytes slots size : ℕ) → let opens = change_opens day_limits text closed row c (length cost) (length choice) bytes slots size in
      Stays (open_words opens cost_area) cost costAfter → Stays (open_words opens choice_area) choice choiceAfter
      → Areas (change_for day_limits text closed row c (length cost) (length choice) bytes slots size) cost choice costAfter choiceAfter
  unfolding change_for change_opens
  change_areas text closed row c bytes slots size =
      handed_on (with_room (state_room day_limits bytes slots size) (kept_state day_limits text closed row)) (λ s. state_after day_limits s (change c (length cost) (length choice)))
      (λ s. state_begins day_limits s (change c (length cost) (length choice))) (λ s. change_memory day_limits cost choice costAfter choiceAfter s c)
