-- `slot_times::last_slot` meets its contract: the last of the used slots that ends at or before departure.
use Rattle.std.proofs.Common.{ℕ, Bool, ◌∙◌, rules}
use Rattle.fold.proofs.Ranges.{last_from_inclusive}
use Rattle.slot_times.specs.Slots.{ends_in_time, last_slot}
use Rattle.slot_times.proofs.Choice.{latest_found}
use Rattle.slot_times.proofs.last_slot.Goals as goal

pub returns : goal.returns
unfolding last_slot
returns c =
    let p : ℕ → Bool = ends_in_time c.args.opens c.args.length c.args.departure in
    c.unwrap_or.ensures
    ∙ latest_found c.args.used p c.find.result
    (last_from_inclusive c.new.result 1 c.args.used c.new.ensures.start c.new.ensures.end c.new.ensures.exhausted _ _ p (λ a r f k. search rules) (λ x r k. search rules) c.find.result c.rev.ensures.runs c.find.ensures.runs)
