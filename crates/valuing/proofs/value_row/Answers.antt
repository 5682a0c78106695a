-- Each return is one of the laws `says-..` of proofs/Laws.antt, from the checks passed before it.
use Rattle.std.proofs.Common.{ap, ◌∙◌, arith}
use Rattle.fold.specs.First.{first_below-is, first_below-none}
use Rattle.day.specs.Answer.{gives}
use Rattle.day.specs.Parts.{part_yard}
use Rattle.valuing.proofs.Laws.{says_length, says_stray, says_overfull, says_parted, says_values}
use Rattle.valuing.proofs.value_row.Goals as goal

pub returns-then-row-n : goal.returns-then-row-n
returns-then-row-n c = says_length _ (part_yard c.args.p.now) _ c.if-row-n.true

pub overflow_add-result : goal.overflow_add-result
overflow_add-result c = omega (arith, first_below-is _ _ _ c.in-Some.ensures)

pub returns-in-Some : goal.returns-in-Some
returns-in-Some c =
    let (is, below) = first_below-is _ _ _ c.in-Some.ensures in
    says_stray _ (part_yard c.args.p.now) _ c.if-row-n.false _ is below

pub overflow_add-result-in-Some-first_overfull : goal.overflow_add-result-in-Some-first_overfull
overflow_add-result-in-Some-first_overfull c = omega (arith, c.in-Some-first_overfull.ensures.small)

-- past the second check no slot lies outside its window
pub returns-in-Some-first_overfull : goal.returns-in-Some-first_overfull
returns-in-Some-first_overfull c =
    let (is, below) = first_below-is _ _ _ c.in-Some-first_overfull.ensures.lowest in
    says_overfull _ (part_yard c.args.p.now) _ c.if-row-n.false (first_below-none _ _ c.in_default.ensures) _ is below

-- past the third no slot holds too many trains
pub returns-then-parted-p : goal.returns-then-parted-p
returns-then-parted-p c =
    says_parted _ (part_yard c.args.p.now) _ c.if-row-n.false (first_below-none _ _ c.in_default.ensures) (first_below-none _ _ c.in_default-first_overfull.ensures.lowest) _
    c.first_parted-parted.ensures c.if-parted-p.true

pub returns : goal.returns
returns c =
    ap gives c.value_slots.ensures
    ∙ says_values _ (part_yard c.args.p.now) _ c.if-row-n.false (first_below-none _ _ c.in_default.ensures) (first_below-none _ _ c.in_default-first_overfull.ensures.lowest)
    c.requires.groups_up_to (omega (arith, c.first_parted-parted.ensures))
