use Rattle.std.proofs.Common.{sym, ap, ◌∙◌, ◌*◌, ◌^◌, ◌%◌, bit_or, arith}
use Rattle.sets.specs.Mask.{mask_none, mask-set, mask_pass}
use Rattle.staging.specs.Tables.{open_in}
use Rattle.tables.proofs.open_in.Goals as goal
use Rattle.tables.proofs.open_in.Goals.{else-is_in_time, then-is_in_time}

pub loop-i-init : goal.loop-i-init
unfolding open_in
loop-i-init c = sym (mask_none _)

pub loop-i-preserved : goal.loop-i-preserved
unfolding open_in
loop-i-preserved c =
    let l = c.loop-i in
    let asked = c.is_in_time.ensures in
    elim c.if-is_in_time.branch [
      | then-is_in_time w ↦
          w.mask-is ∙ ap (λ m. bit_or m (1 * 2 ^ l.i % 2 ^ 64)) l.invariant ∙ mask-set 64 l.i _ (omega arith) (sym asked ∙ w.if-is_in_time.true)
      | else-is_in_time w ↦ w.mask-is ∙ l.invariant ∙ mask_pass l.i _ (sym asked ∙ w.if-is_in_time.false)
    ]
