use Rattle.rolling_calls.proofs.change.Goals as goal

pub returns : goal.returns
returns c =
    let made = c.changed_state.ensures in
    record { says = rw made.said at c.told.ensures; costs = made.costs; choices = made.choices }
