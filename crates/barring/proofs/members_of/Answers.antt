use Rattle.std.proofs.Common.{sym, ap, ◌∙◌, ◌*◌, ◌^◌, ◌%◌, bit_or, arith}
use Rattle.sets.specs.Mask.{mask_none, mask-set, mask_pass}
use Rattle.model.specs.Model.{grouped}
use Rattle.barring.proofs.members_of.Goals as goal
use Rattle.barring.proofs.members_of.Goals.{else-groups-i, then-groups-i}

pub loop-j-init : goal.loop-j-init
loop-j-init c = sym (mask_none _)

pub loop-j-preserved : goal.loop-j-preserved
unfolding grouped
loop-j-preserved c =
    let l = c.loop-j in
    let p = grouped c.args.groups.now c.args.i in
    elim c.if-groups-i.branch [
      | then-groups-i w ↦ w.mask-is ∙ ap (λ m. bit_or m (1 * 2 ^ l.j % 2 ^ 64)) l.invariant ∙ mask-set 64 l.j p (omega arith) w.if-groups-i.true
      | else-groups-i w ↦ w.mask-is ∙ l.invariant ∙ mask_pass l.j p w.if-groups-i.false
    ]
