-- The parts of the tests of a state, and of the call that closes a slot, come to their definitions; a sound state fits its arrays.
-- Assumes nothing.
use Rattle.std.proofs.Math.Path.{◌≡◌, refl}
use Rattle.std.proofs.Common.{sym, arith}
use Rattle.std.specs.Prelude.{Bool, ◌&&◌, List, [], ◌∷◌, ℕ, ◌+◌, ◌≤◌, ◌<◌, T, length, Result, Ok, Err, is_ok, IsErrAnd}
use Rattle.std.proofs.Math.Bool.{true, false}
use Rattle.std.proofs.Math.Numerals.{add-one}
use Rattle.std.proofs.Math.Dec.{leb, eqb}
use borrow.Author.Tests.{eq-eqb, le-ltb, lt-ltb}
use Rattle.fold.specs.Test.{is_true, is_false, of_true}
use Rattle.fold.specs.Fold.{each}
use Rattle.model.specs.Model.{Outcome, allowed}
use Rattle.day.specs.Answer.{gives, refuses, refusal}
use Rattle.day.specs.Sound.{day_limits, sound}
use Rattle.day.specs.SoundLaws.{sound_is}
use Rattle.day.specs.declared.Limits.{Limits}
use Rattle.day.specs.declared.Refusal.{Refusal}
use Rattle.counting.specs.declared.Value.{Value}
use Rattle.valuing.specs.Valuing.{valued, answer as valuing}
use Rattle.valuing.proofs.Laws.{valued-allowed, allowed-valued}
use Rattle.rolling.specs.Rolling.{State, plan_of, close, state_sound, state_after}
use Rattle.rolling.specs.States.{sound_state}
use Rattle.rolling_state.specs.States.{new_state, zero_past}
use Rattle.rolling_state.specs.declared.RollingState.{RollingState}

module _ (l : Limits) (s : State) where
  -- ---- a sound state

  pub unsound_day : sound l s.day ≡ false → false ≡ state_sound l s
  unfolding state_sound
  unsound_day e = rw e

  pub not_allowed : {k : ℕ} {carries : List ℕ} → sound l s.day ≡ true → valued l s.day (plan_of s) ≡ refuses k carries → false ≡ state_sound l s
  unfolding state_sound
  not_allowed {k} {carries} d e =
      let no : allowed s.day (plan_of s) ≡ false =
      is_false (allowed s.day (plan_of s)) (λ t. let q = valued-allowed l s.day (plan_of s) (of_true d) t in let z : ◌≡◌ {A = ℕ} 0 1 = cc in omega arith) in
      rw no (any (sound l s.day && leb s.closed s.day.slots && eqb (length s.row) l.trains) (each l.trains (zero_past s.day.trains s.row)))
    where
      any : (a b : Bool) → false ≡ (a && false && b)
      any true b = refl
      any false b = refl

  pub allowed_rest : {o : Outcome} → valued l s.day (plan_of s) ≡ gives o → length s.row ≡ l.trains
      → (leb s.closed s.day.slots && each l.trains (zero_past s.day.trains s.row)) ≡ state_sound l s
  unfolding state_sound
  allowed_rest {o} e long =
      let (d, a, q) = allowed-valued l s.day (plan_of s) o e in
      rw (is_true (sound l s.day) d, eq-eqb (length s.row) l.trains long, is_true (allowed s.day (plan_of s)) a) (any (leb s.closed s.day.slots) (each l.trains (zero_past s.day.trains s.row)))
    where
      any : (a b : Bool) → (a && b) ≡ (a && true && true && b)
      any true b = refl
      any false b = refl

  -- of a sound day, by what valuing its plan answers
  pub rest_decides : (r : Result Value Refusal) → valuing r ≡ valued l s.day (plan_of s) → sound l s.day ≡ true → length s.row ≡ l.trains
      → ((is_ok r && leb s.closed s.day.slots) && each l.trains (zero_past s.day.trains s.row)) ≡ state_sound l s
  rest_decides (Ok v) e d long = allowed_rest (sym e) long
  rest_decides (Err r) e d long = not_allowed d (sym e)

  -- ---- close

  pub close_unsound : state_sound l s ≡ false → refuses 8 (0 ∷ []) ≡ state_after l s close
  unfolding state_after
  close_unsound e = rw e

  pub close_none : state_sound l s ≡ true → s.day.slots ≤ s.closed → refuses 20 (0 ∷ []) ≡ state_after l s close
  unfolding state_after
  close_none e h = rw (e, le-ltb s.closed s.day.slots h)

  pub close_taken : state_sound l s ≡ true → s.closed < s.day.slots → gives (record { day = s.day; closed = s.closed + 1; row = s.row }) ≡ state_after l s close
  unfolding state_after
  close_taken e h = rw (e, lt-ltb s.closed s.day.slots h, add-one s.closed)

-- the answer after a `?`, by the error that it passes on
pub passed_on : (r : Result RollingState Refusal) (why : Refusal) → IsErrAnd r (λ e. e ≡ why) → new_state r ≡ refusal why
passed_on (Err e) why h = rw h refl
passed_on (Ok s) why h = absurd h

-- the trains of a sound state fit its arrays
pub few_trains : (s : State) → T (state_sound day_limits s) → (s.day.trains ≤ 12) × (s.closed ≤ 8)
few_trains s t =
    let d = sound_state day_limits s t in
    let m = sound_is day_limits s.day d.is_sound in
    (m.trains.1, omega (arith, m.slots, d.closed))
