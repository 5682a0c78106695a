-- `offering::offer` meets its contract: at each return by the places found.
use Rattle.std.proofs.Common.{arith, ◌≤◌}
use Rattle.fold.specs.Fold.{lowest_le}
use Rattle.offering.specs.Offered.{offered_stays, offered_replaces, offered_joins, offered_pushes, offered_drops}
use borrow.Author.Rules.{rules}
use Rattle.beam.specs.HeldWords.{held_before}
use Rattle.held_plans.specs.Words.{word, words}
use Rattle.offering.proofs.offer.Goals as goal

pub returns-then-same-place : goal.returns-then-same-place
returns-then-same-place c = offered_stays c.place_of_rest-same.ensures c.place_of_plan-place.ensures c.if-same-place.true

pub returns-then-same-count : goal.returns-then-same-count
returns-then-same-count c =
    offered_replaces c.place_of_rest-same.ensures c.place_of_plan-place.ensures (omega arith) (omega arith) c.put.ensures

-- no place is beyond the end
pub put-requires-then-count-width : goal.put-requires-then-count-width
put-requires-then-count-width c =
    let a = c.args in
    let le : c.place_of_plan-place.result ≤ a.held.now.count = omega (arith, c.place_of_plan-place.ensures, lowest_le a.held.now.count (held_before a.slots (word a.x.now) (words a.held.now.plans))) in
    (le, search rules, search rules)

pub returns-then-count-width : goal.returns-then-count-width
returns-then-count-width c =
    offered_joins c.place_of_rest-same.ensures c.place_of_plan-place.ensures (omega arith) (omega arith) c.put-then-count-width.ensures

pub returns-then-place-count : goal.returns-then-place-count
returns-then-place-count c =
    offered_pushes c.place_of_rest-same.ensures c.place_of_plan-place.ensures (omega arith) (omega arith) (omega arith) c.put-then-place-count.ensures

pub returns-else-place-count : goal.returns-else-place-count
returns-else-place-count c =
    offered_drops c.place_of_rest-same.ensures c.place_of_plan-place.ensures (omega arith) (omega arith) (omega arith)
