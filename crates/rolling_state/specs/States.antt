-- The code's state as the plain one, and what its calls say in the numbers of documents 01 and 02.
-- Assumes nothing.
use Rattle.std.specs.Prelude.{◌≡◌, Bool, ◌||◌, List, ℕ, ltb, eqb, replicate, Result}
use Rattle.model.specs.Model.{slot_of}
use Rattle.day.specs.Answer.{Answer, answered, judged}
use Rattle.day.specs.Sound.{day_limits, yard, zero_day}
use Rattle.day.specs.declared.Refusal.{Refusal}
use Rattle.rolling.specs.Rolling.{State, or_before}
use Rattle.rolling_state.specs.declared.RollingState.{RollingState}
use Rattle.rolling_state.specs.declared.Rolled.{Rolled}

abbrev pub state_in : RollingState → State
state_in s = record { day = yard s.day; closed = s.closed; row = s.row }

-- a state of zeros
abbrev pub zero_state : State
zero_state = record { day = zero_day day_limits; closed = 0; row = replicate day_limits.trains 0 }

-- the state that is to be given, or the refusal
abbrev pub new_state : Result RollingState Refusal → Answer State
new_state = answered state_in

-- the new state, or the refusal
abbrev pub answer : Rolled → Answer State
answer r = judged r.verdict (state_in r.state)

-- a call gives this answer, and its state, or the one before where it is a refusal
pub record Says (before : State) (a : Answer State) (r : Rolled) : Type 0 where
  pub said : answer r ≡ a
  pub left : state_in r.state ≡ or_before before a

-- a slot past n is 0
abbrev pub zero_past : ℕ → List ℕ → ℕ → Bool
zero_past n row i = ltb i n || eqb (slot_of row i) 0
