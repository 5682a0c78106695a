use Rattle.std.proofs.Common.{sym, ap, ◌∙◌, ◌*◌, ◌^◌, ◌%◌, bit_or, nat_lt, arith}
use borrow.Author.Tests.{lt-ltb, le-ltb}
use Rattle.sets.specs.Mask.{mask_none, mask-set, mask_pass}
use Rattle.tables.specs.Entries.{receivers}
use Rattle.tables.proofs.receivers_of.Goals as goal
use Rattle.tables.proofs.receivers_of.Goals.{else-received-gt0, then-received-gt0}

pub loop-i-init : goal.loop-i-init
unfolding receivers
loop-i-init c = sym (mask_none _)

pub loop-i-preserved : goal.loop-i-preserved
unfolding receivers
loop-i-preserved c =
    let l = c.loop-i in
    let few = c.requires.0.few in
    let asked = ap (nat_lt 0) (sym c.received.ensures) in
    elim c.if-received-gt0.branch [
      | then-received-gt0 w ↦
          w.mask-is
          ∙ ap (λ m. bit_or m (1 * 2 ^ l.i % 2 ^ 16)) l.invariant
          ∙ mask-set 16 l.i _ (omega arith) (asked ∙ lt-ltb _ _ w.if-received-gt0.true)
      | else-received-gt0 w ↦ w.mask-is ∙ l.invariant ∙ mask_pass l.i _ (asked ∙ le-ltb _ _ w.if-received-gt0.false)
    ]
