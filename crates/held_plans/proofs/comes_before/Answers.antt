-- At each return the words before the one that decides are equal.
use Rattle.std.proofs.Common.{sym, ap₂, ◌∙◌, suc, ltb, arith}
use Rattle.beam.proofs.Words.{differ_at}
use Rattle.held_plans.specs.Words.{word, slot_word, same_costs, same_revisits, same_slots}
use Rattle.held_plans.proofs.Deciding.{decided_at, last_decides}
use Rattle.held_plans.proofs.comes_before.Goals as goal

pub returns-then-x-other : goal.returns-then-x-other
returns-then-x-other c = sym (decided_at c.args.words 0 (word c.args.x.now) (word c.args.other.now) (λ u h m. absurd (omega arith)) c.if-x-other.true)

pub returns-then-x-other-2 : goal.returns-then-x-other-2
returns-then-x-other-2 c =
    let a = c.args in
    sym (decided_at a.words 1 (word a.x.now) (word a.other.now) (λ u h m. same_costs a.x.now a.other.now c.if-x-other.false u h) c.if-x-other-2.true)

pub returns-then-x-other-3 : goal.returns-then-x-other-3
returns-then-x-other-3 c =
    let a = c.args in
    let same = same_revisits a.x.now a.other.now c.if-x-other.false c.if-x-other-2.false in
    sym (decided_at a.words 2 (word a.x.now) (word a.other.now) (λ u h m. same u h) c.if-x-other-3.true)

pub returns-then-x-j : goal.returns-then-x-j
returns-then-x-j c =
    let a = c.args in
    let j = c.loop-j.j in
    let x = slot_word a.x.now j (omega arith) in
    let y = slot_word a.other.now j (omega arith) in
    let same = same_slots a.x.now a.other.now c.if-x-other.false c.if-x-other-2.false j c.if-x-other-3.false (omega arith) c.loop-j.invariant.1 in
    sym (differ_at a.words (suc (suc (suc j))) (word a.x.now) (word a.other.now) (omega arith) same (λ e. c.if-x-j.true (sym x ∙ e ∙ y)) ∙ ap₂ ltb x y)

pub returns : goal.returns
returns c =
    let a = c.args in
    let j = c.loop-j.j in
    let same = same_slots a.x.now a.other.now c.if-x-other.false c.if-x-other-2.false j c.if-x-other-3.false (omega arith) c.loop-j.invariant.1 in
    sym (last_decides a.words 15 (word a.x.now) (word a.other.now) (λ u h m. same u (omega arith)) c.requires)
