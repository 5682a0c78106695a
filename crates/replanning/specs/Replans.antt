-- What a call of a moving day that plans answers and leaves: a state or a refusal, and of the two areas the words that may hold anything.
-- Assumes nothing.
use Rattle.std.specs.Prelude.{◌≡◌, Bool, List, ℕ, Result}
use Rattle.day.specs.Answer.{Answer, gives, on_given}
use Rattle.day.specs.declared.Refusal.{Refusal}
use Rattle.planning.specs.Planning.{cost_area, choice_area, open_words, Stays}
use Rattle.rolling.specs.Rolling.{Account, State, state_of, cut, best_plan}
use Rattle.rolling_state.specs.States.{new_state, Says}
use Rattle.rolling_state.specs.declared.RollingState.{RollingState}
use Rattle.rolling_state.specs.declared.Rolled.{Rolled}

-- the state of an account with its best plan
abbrev pub plan_of_account : Account → Answer State
plan_of_account a = on_given (best_plan (cut a)) λ plan. gives (state_of a plan)

-- what planning anew says and leaves, and the areas before and after it; none of their words changes where planning does not begin
pub record Made (a : Answer State) (begins : Bool) (cost choice : List ℕ) (r : Result RollingState Refusal) (costAfter choiceAfter : List ℕ) : Type 0 where
  pub said : new_state r ≡ a
  pub costs : Stays (open_words begins cost_area) cost costAfter
  pub choices : Stays (open_words begins choice_area) choice choiceAfter

-- the same of a call, which gives back the state before where it refuses
pub record Done (before : State) (a : Answer State) (begins : Bool) (cost choice : List ℕ) (r : Rolled) (costAfter choiceAfter : List ℕ) : Type 0 where
  pub says : Says before a r
  pub costs : Stays (open_words begins cost_area) cost costAfter
  pub choices : Stays (open_words begins choice_area) choice choiceAfter
