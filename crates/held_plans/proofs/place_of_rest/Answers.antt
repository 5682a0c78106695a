-- `held_plans::place_of_rest` meets its contract.
use Rattle.std.proofs.Common.{ap, ◌∙◌, arith, eqb}
use Rattle.std.specs.Option.{unwrap_or}
use Rattle.held_plans.proofs.Places.{place_is}
use Rattle.held_plans.proofs.place_of_rest.Goals as goal

pub returns : goal.returns
returns c =
    let h = c.args.held.now in
    c.unwrap_or.ensures ∙ ap (λ o. unwrap_or o h.count) c.find_rest.ensures ∙ place_is (λ p. eqb p.rest c.args.rest) h.plans h.count (omega arith)
