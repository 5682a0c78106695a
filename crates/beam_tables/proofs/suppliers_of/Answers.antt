use borrow.Author.Rules.{rules}
use native.Mathlib.Omega.{arith}
use Prim.Native.Nat.{◌*◌, ◌^◌, ◌%◌}
use mathlib.Core.Path.{sym, ap, ◌∙◌}
use borrow.Author.Tests.{lt-ltb, le-ltb}
use lib.Bits.{bit_or}
use lib.Dec.{ltb}
use Rattle.fold.specs.Fold.{at_end}
use Rattle.sets.specs.Mask.{mask_none, mask-set, mask_pass}
use Rattle.model.specs.Model.{supplies}
use Rattle.beam_tables.specs.Given.{received}
use Rattle.sets.specs.Mask as M
use Rattle.beam.specs.SlotCosts.{suppliers_of}
use Rattle.beam_tables.proofs.suppliers_of.Goals as goal
use Rattle.beam_tables.proofs.suppliers_of.Goals.{else-received-gt0, then-received-gt0}

pub loop-j-init : goal.loop-j-init
loop-j-init c = (search rules, sym (mask_none _))

pub loop-j-preserved : goal.loop-j-preserved
loop-j-preserved c =
    let b = c in
    let few = b.requires.0.few in
    let asked = ap (ltb 0) (sym c.received.ensures) in
    elim c.if-received-gt0.branch [ then-received-gt0 w ↦ (search rules, w.mask-is ∙ ap (λ m. bit_or m (1 * 2 ^ b.loop-j.j % 2 ^ 64)) b.loop-j.invariant.1 ∙ mask-set 64 b.loop-j.j _ (omega arith) (asked ∙ lt-ltb _ _ w.if-received-gt0.true)) | else-received-gt0 w ↦ (search rules, w.mask-is ∙ b.loop-j.invariant.1 ∙ mask_pass b.loop-j.j _ (asked ∙ le-ltb _ _ w.if-received-gt0.false)) ]

pub returns : goal.returns
unfolding suppliers_of
returns c =
    let a = c.args in
    c.loop-j.invariant.1 ∙ at_end (λ j. M.mask j (supplies (received a.boxes.now) a.i)) _ _ c.loop-j.invariant.0 c.loop-j-test.false
