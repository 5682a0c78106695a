use Rattle.std.proofs.Common.{◌≡◌, ◌+◌, ◌-◌, ◌<◌, true, List, ℕ, ◌&&◌, eqb, length, get_or, take, drop, sym, ap, ◌∙◌, subst, add-zero, arith, length-drop, length-take-le, get_or-drop}
use Rattle.std.proofs.lemmas.List.{get_or-take}
use Rattle.parting.specs.Walk.{Passed, NextEmpty}
use Rattle.parting.proofs.Walk.{passed_none, passed_next, passed_empty, passed_end}
use Rattle.parting.proofs.next_empty.Goals as goal

-- the rest of the text from `at`, as it is lent
rest_length : (text : List ℕ) (at : ℕ) → length (take (length text - at) (drop at text)) ≡ length text - at
rest_length text at = length-take-le (length text - at) (drop at text) (omega (arith, length-drop at text))

byte_at : (text : List ℕ) (at i : ℕ) → at + i < length text → get_or (take (length text - at) (drop at text)) i 0 ≡ get_or text (at + i) 0
byte_at text at i h = get_or-take (length text - at) (drop at text) i 0 (omega arith) ∙ get_or-drop at text i 0

pub loop-i-init : goal.loop-i-init
loop-i-init c =
    let text = c.args.text.now in
    subst (λ i. Passed text c.args.at i true) (sym (add-zero c.args.at)) (passed_none text c.args.at c.requires)

pub returns-then-start-ends : goal.returns-then-start-ends
returns-then-start-ends c =
    let text = c.args.text.now in
    let passed = c.loop-i.invariant in
    let inside : c.args.at + c.loop-i.i < length text = omega (arith, c.loop-i-test.true, rest_length text c.args.at) in
    let empty = ap (λ b. c.loop-i.start && eqb b 10) (sym (byte_at text c.args.at c.loop-i.i inside)) ∙ c.if-start-ends.true in
    record { since = passed.since; inside = passed.inside; found = λ h. passed_empty passed inside empty; ended = λ h. absurd (omega arith) }

pub loop-i-preserved : goal.loop-i-preserved
loop-i-preserved c =
    let text = c.args.text.now in
    let at = c.args.at in
    let i = c.loop-i.i in
    let inside : at + i < length text = omega (arith, c.loop-i-test.true, rest_length text at) in
    let byte = sym (byte_at text at i inside) in
    let next : at + i + 1 ≡ at + (i + 1) = omega arith in
    subst (λ k. Passed text at k (eqb (get_or (take (length text - at) (drop at text)) i 0) 10)) next
    (subst (λ b. Passed text at (at + i + 1) (eqb b 10)) byte
    (passed_next c.loop-i.invariant inside (ap (λ b. c.loop-i.start && eqb b 10) byte ∙ c.if-start-ends.false)))

pub returns : goal.returns
returns c =
    let text = c.args.text.now in
    let passed = c.loop-i.invariant in
    let end : c.args.at + c.loop-i.i ≡ length text = omega (arith, passed.inside, c.loop-i-test.false, rest_length text c.args.at) in
    subst (NextEmpty text c.args.at) end
    record { since = passed.since; inside = passed.inside; found = λ h. absurd (omega arith); ended = λ h. passed_end passed h }
