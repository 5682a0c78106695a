use borrow.Author.Rules.{rules}
use native.Mathlib.Omega.{arith}
use Prim.Native.Nat.{◌≤◌}
use Rattle.candidates.specs.Given.{yard_in}
use Rattle.gathering.specs.Gathering.{gathering_none}
use Rattle.slot_serving.specs.Walks.{slot_ends}
use Rattle.slot_serving.proofs.serve_slot.Goals as goal

pub loop-plan-init : goal.loop-plan-init
loop-plan-init c = (search rules, record { few = search rules; low = λ k l. absurd (omega arith) }, λ d right now h. gathering_none (yard_in c.args.day.now d) _ _ _)

pub returns : goal.returns
returns c =
    let l = c.loop-plan in
    let all : c.args.kept.now.count ≤ l.plan-index = search rules in
    (l.invariant.1, λ d right now h. slot_ends (yard_in c.args.day.now d) _ _ l.plan-index _ h c.requires.1 all (l.invariant.2 d right now h))
