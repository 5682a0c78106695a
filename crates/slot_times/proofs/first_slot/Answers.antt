-- `slot_times::first_slot` meets its contract: the first of the used slots that starts at or after arrival.
use Rattle.std.proofs.Common.{ℕ, Bool, ◌∙◌, rules}
use Rattle.fold.proofs.Ranges.{first_from_inclusive}
use Rattle.slot_times.specs.Slots.{starts_in_time, first_slot}
use Rattle.slot_times.proofs.Choice.{earliest_found}
use Rattle.slot_times.proofs.first_slot.Goals as goal

pub returns : goal.returns
unfolding first_slot
returns c =
    let p : ℕ → Bool = starts_in_time c.args.opens c.args.length c.args.arrival in
    c.unwrap_or.ensures
    ∙ earliest_found c.args.used p c.find.result
    (first_from_inclusive c.new.result 1 c.args.used c.new.ensures.start c.new.ensures.end c.new.ensures.exhausted _ _ p (λ a r f k. search rules) (λ x r k. search rules) c.find.result c.find.ensures.runs)
