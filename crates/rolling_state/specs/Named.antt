-- The code's state has the plain state's fields of the same names (`named`); a state of zeros has 0 everywhere (`zeros`), and it is what a
-- refused begin gives (`refused_zeros`); after any other refused call the state is as before (`refused_before`).
-- Assumes nothing.
use Rattle.std.specs.Prelude.{◌≡◌, refl, List, ℕ, replicate}
use Rattle.std.proofs.Common.{ap, ◌∙◌}
use Rattle.day.specs.Answer.{refuses}
use Rattle.day.specs.Sound.{yard}
use Rattle.rolling.specs.Rolling.{State, or_before}
use Rattle.rolling_state.specs.States.{state_in, answer, zero_state}
use Rattle.rolling_state.specs.declared.RollingState.{RollingState}
use Rattle.rolling_state.specs.declared.Rolled.{Rolled}

pub named : (s : RollingState) → ((state_in s).day ≡ yard s.day) × ((state_in s).closed ≡ s.closed) × ((state_in s).row ≡ s.row)
named s = (refl, refl, refl)

pub record Zeros (s : State) : Type 0 where
  pub trains : s.day.trains ≡ 0
  pub tracks : s.day.tracks ≡ 0
  pub slots : s.day.slots ≡ 0
  pub revisit : s.day.revisit ≡ 0
  pub split : s.day.split ≡ 0
  pub numbers : s.day.numbers ≡ replicate 12 0
  pub first : s.day.first ≡ replicate 12 0
  pub last : s.day.last ≡ replicate 12 0
  pub groups : s.day.groups ≡ replicate 12 0
  pub boxes : s.day.boxes ≡ replicate 144 0
  pub closed : s.closed ≡ 0
  pub row : s.row ≡ replicate 12 0

pub zeros : Zeros zero_state
zeros = record { trains = refl; tracks = refl; slots = refl; revisit = refl; split = refl; numbers = refl; first = refl; last = refl; groups = refl; boxes = refl; closed = refl; row = refl }

module _ (r : Rolled) (k : ℕ) (carries : List ℕ) (refused : answer r ≡ refuses k carries) where
  -- the second promise of begin
  pub refused_zeros : state_in r.state ≡ or_before zero_state (answer r) → state_in r.state ≡ zero_state
  refused_zeros e = e ∙ ap (or_before zero_state) refused

  -- and of the other four calls
  pub refused_before : (s : State) → state_in r.state ≡ or_before s (answer r) → state_in r.state ≡ s
  refused_before s e = e ∙ ap (or_before s) refused
