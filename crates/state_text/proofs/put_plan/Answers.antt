-- `state_text::put_plan` meets its contract. The row has as many slots as the state has trains, and no more than twelve.
use Rattle.std.specs.Prelude.{length, ◌≤◌}
use native.Mathlib.Omega.{arith}
use lib.Seq.{length-take-le}
use Rattle.rolling.specs.Rolling.{plan_of}
use Rattle.rolling_state.specs.Laws.{few_trains}
use Rattle.rolling_state.specs.States.{state_in}
use Rattle.output.specs.Laws.{put_list}
use Rattle.state_text.proofs.put_plan.Goals as goal

pub shared_ref_as_front-put_bytes : goal.shared_ref_as_front-put_bytes
shared_ref_as_front-put_bytes c = omega (arith, (few_trains (state_in c.args.state) c.requires.0).0)

pub returns : goal.returns
returns c =
    let few = (few_trains (state_in c.args.state) c.requires.0).0 in
    let fits : c.args.state.day.trains ≤ length c.args.state.row = omega (arith, few) in
    let short : length (plan_of (state_in c.args.state)) ≤ length c.args.next.now = omega (arith, length-take-le c.args.state.day.trains c.args.state.row fits, few, c.requires.1) in
    put_list c.put_bytes.ensures short
