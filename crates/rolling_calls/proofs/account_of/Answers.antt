-- A sound state has at most twelve trains and eight closed slots.
use Rattle.std.proofs.Common.{◌≡◌, length, arith, rules}
use Rattle.rolling_state.specs.States.{state_in}
use Rattle.rolling_state.specs.Laws.{few_trains}
use Rattle.rolling_calls.proofs.account_of.Goals as goal

pub overflow_cast-closed : goal.overflow_cast-closed
overflow_cast-closed c = omega (arith, (few_trains (state_in c.args.state) c.requires).1)

pub served_slots-requires : goal.served_slots-requires
served_slots-requires c =
    let few = few_trains (state_in c.args.state) c.requires in
    let long : length c.args.state.row ≡ 12 = search rules in
    (few.0, omega (arith, few.0))
