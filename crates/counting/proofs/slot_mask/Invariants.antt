-- `counting::slot_mask` meets its contract. The loop's invariant: the mask of the positions passed.
use Rattle.std.proofs.Common.{◌≡◌, ◌≤◌}
use Rattle.model.specs.Model.{slot_mask}
use Rattle.counting.proofs.slot_mask.Given as goal

abbrev pub invariant-loop-i : goal.invariant-loop-i
invariant-loop-i l = (l.i ≤ l.fn.n) × (l.mask ≡ slot_mask l.i l.fn.row l.fn.t)
