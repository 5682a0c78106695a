-- The ways out of the functions on a kept state: no room, no state, and what the call makes of the state.
-- Assumes nothing.
use Rattle.std.specs.Prelude.{◌≡◌, Bool, true, ◌&&◌, List, [], ◌∷◌, ℕ, leb, length}
use Rattle.std.proofs.Math.Path.{refl}
use Rattle.std.proofs.Math.Bool.{false}
use Rattle.model.specs.Model.{Yard}
use Rattle.day.specs.Answer.{Answer, gives, refuses, refusal, code}
use Rattle.day.specs.Sound.{day_limits}
use Rattle.day.specs.declared.Refusal.{Refusal}
use Rattle.day.specs.declared.Refusal.TheVariants.{TooShort}
use Rattle.dayfile.specs.Reading.{read_day}
use Rattle.planning.specs.Planning.{cost_area, choice_area, open_words, Stays}
use Rattle.telling.specs.Telling.{number_count}
use Rattle.telling.specs.Laws.{Told}
use Rattle.rolling.specs.Rolling.{State, Change, close, change, state_after}
use Rattle.state_text.specs.StateText.{kept_state, state_numbers, day_after, plan_after}
use Rattle.text_rolling.specs.TextRolling.{plan_room, state_room, with_room, begin_for, close_for, change_for, begin_opens, change_opens}
use Rattle.text_rolling.specs.Laws.{ToldState, told_refused, state_numbers_lem, no_numbers, BegunDay, ChangedState}

-- ---- with room and without

module _ {X : Type 0} (room : Bool) (a : Answer X) where
  pub without_room : room ≡ false → with_room room a ≡ refuses 10 (0 ∷ [])
  without_room e = rw e

  pub has_room : room ≡ true → {b : Answer X} → a ≡ b → with_room room a ≡ b
  has_room e q = rw e q

-- ---- begin

pub record Begins (text cost₀ choice₀ next₀ numbers₀ : List ℕ) (said : ℕ) (cost choice next numbers : List ℕ) : Type 0 where
  pub says : said ≡ code (begin_for day_limits text (length cost₀) (length choice₀) (length next₀) (length numbers₀))
  pub numbers_are_lem : numbers ≡ state_numbers day_limits (begin_for day_limits text (length cost₀) (length choice₀) (length next₀) (length numbers₀)) numbers₀
  pub next_is : next ≡ plan_after (begin_for day_limits text (length cost₀) (length choice₀) (length next₀) (length numbers₀)) next₀
  pub costs : Stays (open_words (begin_opens day_limits text (length cost₀) (length choice₀) (length next₀) (length numbers₀)) cost_area) cost₀ cost
  pub choices : Stays (open_words (begin_opens day_limits text (length cost₀) (length choice₀) (length next₀) (length numbers₀)) choice_area) choice₀ choice

module _ (text cost choice next numbers : List ℕ) where
  abbrev room : Bool
  room = plan_room day_limits (length next) (length numbers)

  -- without room for four numbers none changes
  pub begins_untold : leb number_count (length numbers) ≡ false → Begins text cost choice next numbers 10 cost choice next numbers
  unfolding begin_for begin_opens
  begins_untold h = record { says = rw h; numbers_are_lem = no_numbers _ numbers h; next_is = rw h; costs = rw h; choices = rw h }

  module _ (h : leb number_count (length numbers) ≡ true) where
    pub begins_short : {said : ℕ} {numbers' : List ℕ} → leb 12 (length next) ≡ false → Told numbers (refusal TooShort) said numbers'
        → Begins text cost choice next numbers said cost choice next numbers'
    unfolding begin_for begin_opens
    begins_short s t =
        let none : room ≡ false = rw (h, s) in
        let e = without_room room (read_day day_limits text) none in
        record { says = rw e t.says; numbers_are_lem = rw e (state_numbers_lem h (told_refused TooShort refl t)); next_is = rw e; costs = rw e; choices = rw e }

    module _ (s : leb 12 (length next) ≡ true) where
      enough : room ≡ true
      enough = rw (h, s)

      pub begins_unread : {said : ℕ} {numbers' : List ℕ} (r : Refusal) → read_day day_limits text ≡ refusal r → Told numbers (refusal r) said numbers'
          → Begins text cost choice next numbers said cost choice next numbers'
      unfolding begin_for begin_opens
      begins_unread r q t =
          let e = has_room room (read_day day_limits text) enough q in
          record { says = rw e t.says; numbers_are_lem = rw e (state_numbers_lem h (told_refused r refl t)); next_is = rw e; costs = rw e; choices = rw e }

      pub begins_day : {said : ℕ} {cost' choice' next' numbers' : List ℕ} (y : Yard) → read_day day_limits text ≡ gives y → BegunDay y cost choice next numbers said cost' choice' next' numbers'
          → Begins text cost choice next numbers said cost' choice' next' numbers'
      unfolding begin_for begin_opens
      begins_day y q b =
          let e = has_room room (read_day day_limits text) enough q in
          record { says = rw e b.told.says; numbers_are_lem = rw e (state_numbers_lem h b.told); next_is = rw e b.next_is; costs = rw e b.costs; choices = rw e b.choices }

-- ---- close

pub record Closes (text : List ℕ) (closed : ℕ) (row numbers₀ : List ℕ) (said : ℕ) (numbers : List ℕ) : Type 0 where
  pub says : said ≡ code (close_for day_limits text closed row (length numbers₀))
  pub numbers_are_lem : numbers ≡ state_numbers day_limits (close_for day_limits text closed row (length numbers₀)) numbers₀

module _ (text : List ℕ) (closed : ℕ) (row numbers : List ℕ) where
  pub closes_untold : leb number_count (length numbers) ≡ false → Closes text closed row numbers 10 numbers
  unfolding close_for
  closes_untold h = record { says = rw h; numbers_are_lem = no_numbers _ numbers h }

  module _ (h : leb number_count (length numbers) ≡ true) where
    pub closes_unkept : {said : ℕ} {numbers' : List ℕ} (r : Refusal) → kept_state day_limits text closed row ≡ refusal r → Told numbers (refusal r) said numbers' → Closes text closed row numbers said numbers'
    unfolding close_for
    closes_unkept r q t =
        let e = has_room (leb number_count (length numbers)) (kept_state day_limits text closed row) h q in
        record { says = rw e t.says; numbers_are_lem = rw e (state_numbers_lem h (told_refused r refl t)) }

    pub closes_state : {said : ℕ} {numbers' : List ℕ} (s : State) → kept_state day_limits text closed row ≡ gives s → ToldState (state_after day_limits s close) numbers said numbers'
        → Closes text closed row numbers said numbers'
    unfolding close_for
    closes_state s q t =
        let e = has_room (leb number_count (length numbers)) (kept_state day_limits text closed row) h q in
        record { says = rw e t.says; numbers_are_lem = rw e (state_numbers_lem h t) }

-- ---- a change

pub record Changes (text : List ℕ) (closed : ℕ) (row : List ℕ) (c : Change) (cost₀ choice₀ day₀ next₀ numbers₀ : List ℕ) (said : ℕ) (cost choice day next numbers : List ℕ) : Type 0 where
  pub says : said ≡ code (change_for day_limits text closed row c (length cost₀) (length choice₀) (length day₀) (length next₀) (length numbers₀))
  pub numbers_are_lem : numbers ≡ state_numbers day_limits (change_for day_limits text closed row c (length cost₀) (length choice₀) (length day₀) (length next₀) (length numbers₀)) numbers₀
  pub day_is_lem : day ≡ day_after day_limits (change_for day_limits text closed row c (length cost₀) (length choice₀) (length day₀) (length next₀) (length numbers₀)) day₀
  pub next_is : next ≡ plan_after (change_for day_limits text closed row c (length cost₀) (length choice₀) (length day₀) (length next₀) (length numbers₀)) next₀
  pub costs : Stays (open_words (change_opens day_limits text closed row c (length cost₀) (length choice₀) (length day₀) (length next₀) (length numbers₀)) cost_area) cost₀ cost
  pub choices : Stays (open_words (change_opens day_limits text closed row c (length cost₀) (length choice₀) (length day₀) (length next₀) (length numbers₀)) choice_area) choice₀ choice

module _ (text : List ℕ) (closed : ℕ) (row : List ℕ) (c : Change) (cost choice day next numbers : List ℕ) where
  abbrev space : Bool
  space = state_room day_limits (length day) (length next) (length numbers)

  pub changes_untold : leb number_count (length numbers) ≡ false → Changes text closed row c cost choice day next numbers 10 cost choice day next numbers
  unfolding change_for change_opens
  changes_untold h = record { says = rw h; numbers_are_lem = no_numbers _ numbers h; day_is_lem = rw h; next_is = rw h; costs = rw h; choices = rw h }

  module _ (h : leb number_count (length numbers) ≡ true) where
    pub changes_short : {said : ℕ} {numbers' : List ℕ} → (leb 2437 (length day) && leb 12 (length next)) ≡ false → Told numbers (refusal TooShort) said numbers'
        → Changes text closed row c cost choice day next numbers said cost choice day next numbers'
    unfolding change_for change_opens
    changes_short s t =
        let none : space ≡ false = rw (h, s) in
        let e = without_room space (kept_state day_limits text closed row) none in
        record { says = rw e t.says; numbers_are_lem = rw e (state_numbers_lem h (told_refused TooShort refl t)); day_is_lem = rw e; next_is = rw e; costs = rw e; choices = rw e }

    module _ (s : (leb 2437 (length day) && leb 12 (length next)) ≡ true) where
      wide : space ≡ true
      wide = rw (h, s)

      pub changes_unkept : {said : ℕ} {numbers' : List ℕ} (r : Refusal) → kept_state day_limits text closed row ≡ refusal r → Told numbers (refusal r) said numbers'
          → Changes text closed row c cost choice day next numbers said cost choice day next numbers'
      unfolding change_for change_opens
      changes_unkept r q t =
          let e = has_room space (kept_state day_limits text closed row) wide q in
          record { says = rw e t.says; numbers_are_lem = rw e (state_numbers_lem h (told_refused r refl t)); day_is_lem = rw e; next_is = rw e; costs = rw e; choices = rw e }

      pub changes_state : {said : ℕ} {cost' choice' day' next' numbers' : List ℕ} (x : State) → kept_state day_limits text closed row ≡ gives x
          → ChangedState x (change c (length cost) (length choice)) cost choice day next numbers said cost' choice' day' next' numbers'
          → Changes text closed row c cost choice day next numbers said cost' choice' day' next' numbers'
      unfolding change_for change_opens
      changes_state x q w =
          let e = has_room space (kept_state day_limits text closed row) wide q in
          record {
            says = rw e w.written.told.says;
            numbers_are_lem = rw e (state_numbers_lem h w.written.told);
            day_is_lem = rw e w.written.day_is_lem;
            next_is = rw e w.written.next_is;
            costs = rw e w.costs;
            choices = rw e w.choices;
          }
