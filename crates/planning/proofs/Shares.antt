-- Laws of Shares.antt of specs/.
-- Order 6 of document 02: one slot's contribution counts direct moves beside its cost. What a call of planning gives are the sums of what its
-- slots contribute, from the call's contract and the staged choices' definitions (`slot_share` of staging's Tables.antt).
-- Assumes nothing.
use Rattle.std.specs.Prelude.{◌≡◌, ℕ}
use Rattle.std.proofs.Common.{ap, ◌∙◌}
use Rattle.fold.specs.Fold.{sum}
use Rattle.model.specs.Model.{Yard, Outcome}
use Rattle.model.proofs.Rows.{allowed_is}
use Rattle.day.specs.Answer.{gives}
use Rattle.day.specs.declared.Limits.{Limits}
use Rattle.staging.specs.CostBySlot.{share_in}
use Rattle.staging.proofs.CostBySlot.{shares_cost, shares_direct}
use Rattle.planning.specs.Planning.{planned}
use Rattle.planning.specs.Answers.{FromBest}
use Rattle.planning.proofs.Answers.{from_best}
use Rattle.planning.specs.Shares.{Shared}

module _ (l : Limits) (y : Yard) (costs choices bytes : ℕ) where
  pub plan_shares : (o : Outcome) → planned l y costs choices bytes ≡ gives o → Shared l y o
  plan_shares o e =
      let best = from_best l y costs choices bytes o e in
      let row = best.row in
      let slotted = (allowed_is y row best.best.is_allowed).slotted in
      record {
        from = best;
        cost = ap (λ (x : Outcome). x.cost) best.numbers ∙ shares_cost y y.slots row slotted;
        direct = ap (λ (x : Outcome). x.direct) best.numbers ∙ shares_direct y y.slots row slotted;
      }
