-- Order 6 of document 02: one slot's contribution counts direct moves beside its cost. What a call of planning gives are the sums of what its
-- slots contribute, from the call's contract and the staged choices' definitions (`slot_share` of staging's Tables.antt).
-- Assumes nothing.
use Rattle.std.specs.Prelude.{◌≡◌, ℕ}
use Rattle.std.proofs.Common.{ap, ◌∙◌}
use Rattle.fold.specs.Fold.{sum}
use Rattle.model.specs.Model.{Yard, Outcome}
use Rattle.model.proofs.Rows.{allowed_is}
use Rattle.day.specs.Answer.{gives}
use Rattle.day.specs.declared.Limits.{Limits}
use Rattle.staging.specs.CostBySlot.{share_in}
use Rattle.staging.proofs.CostBySlot.{shares_cost, shares_direct}
use Rattle.planning.specs.Planning.{planned}
use Rattle.planning.specs.Answers.{FromBest}

-- of a plan: the row, whose slots contribute them
pub record Shared (l : Limits) (y : Yard) (o : Outcome) : Type 0 where
  pub from : FromBest l y o
  pub cost : o.cost ≡ sum y.slots λ j. (share_in y from.row j).cost
  pub direct : o.direct ≡ sum y.slots λ j. (share_in y from.row j).direct
