use Rattle.std.proofs.Common.{◌*◌, ◌^◌, ◌%◌, ◌<◌, bit_or, sym, ap, ◌∙◌, arith, length-take-le}
use Rattle.std.proofs.lemmas.List.{get_or-take}
use borrow.Author.Tests.{eq-eqb, ne_eqb}
use Rattle.fold.specs.Fold.{at_end}
use Rattle.sets.specs.Mask.{mask_none, mask-set, mask_pass}
use Rattle.model.specs.Model.{slot_mask}
use Rattle.counting.proofs.slot_mask.Goals as goal
use Rattle.counting.proofs.slot_mask.Goals.{then-slot-t, else-slot-t}

pub loop-i-init : goal.loop-i-init
unfolding slot_mask
loop-i-init c = (omega arith, sym (mask_none _))

pub loop-i-preserved : goal.loop-i-preserved
unfolding slot_mask
loop-i-preserved c =
    let row = c.args.row.now in
    let i = c.loop-i.i in
    let inside : i < c.args.n = omega (arith, length-take-le c.args.n row c.requires.1) in
    let here = get_or-take c.args.n row i 0 inside in
    elim c.if-slot-t.branch [
      | then-slot-t w ↦ (
        omega arith,
        w.mask-is ∙ ap (λ m. bit_or m (1 * 2 ^ i % 2 ^ 64)) c.loop-i.invariant.1
            ∙ mask-set 64 i _ (omega arith) (eq-eqb _ _ (sym here ∙ w.if-slot-t.true)),
      )
      | else-slot-t w ↦ (omega arith, w.mask-is ∙ c.loop-i.invariant.1 ∙ mask_pass i _ (ne_eqb _ _ (λ e. w.if-slot-t.false (here ∙ e))))
    ]

pub returns : goal.returns
returns c =
    c.loop-i.invariant.1
    ∙ at_end (λ k. slot_mask k c.args.row.now c.args.t) c.loop-i.i c.args.n c.loop-i.invariant.0 (omega (arith, length-take-le c.args.n c.args.row.now c.requires.1))
