use borrow.Author.Rules.{rules}
use native.Mathlib.Omega.{arith}
use Prim.Native.Nat.{◌*◌, ◌^◌, ◌%◌}
use mathlib.Core.Path.{sym, ap, ◌∙◌}
use borrow.Author.Tests.{le-leb, lt-leb}
use lib.Bits.{bit_or}
use Rattle.sets.specs.Mask.{mask_none, mask-set, mask_pass}
use Rattle.beam_tables.specs.Entries.{ending_by}
use Rattle.beam_tables.proofs.ending_by.Goals as goal
use Rattle.beam_tables.proofs.ending_by.Goals.{else-last-i, then-last-i}

pub loop-i-init : goal.loop-i-init
unfolding ending_by
loop-i-init c = (search rules, sym (mask_none _))

pub loop-i-preserved : goal.loop-i-preserved
unfolding ending_by
loop-i-preserved c =
    let b = c in
    elim c.if-last-i.branch [ then-last-i w ↦ (search rules, w.mask-is ∙ ap (λ m. bit_or m (1 * 2 ^ b.loop-i.i % 2 ^ 64)) b.loop-i.invariant.1 ∙ mask-set 64 b.loop-i.i _ (omega arith) (le-leb _ _ w.if-last-i.true)) | else-last-i w ↦ (search rules, w.mask-is ∙ b.loop-i.invariant.1 ∙ mask_pass b.loop-i.i _ (lt-leb _ _ w.if-last-i.false)) ]
