use native.Mathlib.Omega.{arith}
use Prim.Native.Nat.{◌≤◌, ◌<◌, ◌-◌}
use mathlib.Core.Path.{ap}
use lib.Count.{ones-le, count_trailing_zeros}
use Rattle.beam_tables.specs.Given.{received}
use Rattle.sets.specs.Members.{sum_over}
use Rattle.optimum.specs.Workspace.{at}
use Rattle.set_costs.specs.Sets.{summed_at, summed_room, summed_next, summed_low, summed_end}
use Rattle.set_costs.proofs.boxes_from_outside.Goals as goal

-- the next train is one of the day's
pub bounds-incoming-i : goal.bounds-incoming-i
bounds-incoming-i c =
    let few = c.requires.0.few in
    let i = count_trailing_zeros 64 c.loop-left.left in
    let inside : i < c.args.boxes.now.trains = summed_at c.loop-left.invariant (omega arith) (omega arith) in
    omega arith

pub boxes_from-requires : goal.boxes_from-requires
boxes_from-requires c =
    let few = c.requires.0.few in
    let i = count_trailing_zeros 64 c.loop-left.left in
    let inside : i < c.args.boxes.now.trains = summed_at c.loop-left.invariant (omega arith) (omega arith) in
    (c.requires.0, inside, c.requires.2)

-- what it receives from s is a part of what it receives
pub overflow_sub-total : goal.overflow_sub-total
overflow_sub-total c =
    let few = c.requires.0.few in
    let i = count_trailing_zeros 64 c.loop-left.left in
    let inside : i < c.args.boxes.now.trains = summed_at c.loop-left.invariant (omega arith) (omega arith) in
    let a = c.args in
    let part : (sum_over a.boxes.now.trains a.s (received a.boxes.now i) ≤ at a.incoming.now i) × (at a.incoming.now i ≤ 9180) = c.requires.3 i inside in
    omega (arith, part, c.boxes_from.ensures)

pub overflow_add-total : goal.overflow_add-total
overflow_add-total c =
    let few = c.requires.0.few in
    let i = count_trailing_zeros 64 c.loop-left.left in
    let inside : i < c.args.boxes.now.trains = summed_at c.loop-left.invariant (omega arith) (omega arith) in
    let a = c.args in
    let part : (sum_over a.boxes.now.trains a.s (received a.boxes.now i) ≤ at a.incoming.now i) × (at a.incoming.now i ≤ 9180) = c.requires.3 i inside in
    let room = summed_room c.loop-left.invariant (at a.incoming.now i - c.boxes_from.result) (omega arith) (omega (arith, part)) in
    omega (arith, room, ones-le a.boxes.now.trains a.s c.requires.2)

pub loop-left-preserved : goal.loop-left-preserved
loop-left-preserved c =
    let few = c.requires.0.few in
    let i = count_trailing_zeros 64 c.loop-left.left in
    let inside : i < c.args.boxes.now.trains = summed_at c.loop-left.invariant (omega arith) (omega arith) in
    let a = c.args in
    let part : (sum_over a.boxes.now.trains a.s (received a.boxes.now i) ≤ at a.incoming.now i) × (at a.incoming.now i ≤ 9180) = c.requires.3 i inside in
    summed_next c.loop-left.invariant _ (omega arith) (omega arith) (ap (λ x. at a.incoming.now i - x) c.boxes_from.ensures) (omega (arith, part))

pub returns : goal.returns
returns c = (summed_end c.loop-left.invariant (omega arith), summed_low c.loop-left.invariant)
