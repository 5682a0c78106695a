-- `set_costs::is_discarded` meets its contract: `any` over the slots from t on.
use Rattle.std.proofs.Common.{rules, ◌≡◌, suc, ◌+◌, ◌-◌, ◌*◌, refl, ap, ◌∙◌, ltb, bit_and, arith}
use Rattle.std.proofs.lemmas.Iterator.Search.{any_from_yields_List}
use Rattle.std.proofs.lemmas.Iterator.{YieldsList-from_range}
use Rattle.std.specs.Int.Count.{ones}
use Rattle.fold.specs.Fold as Fold
use Rattle.optimum.specs.Workspace.{at}
use Rattle.beam_tables.proofs.Ranges.{any_range}
use Rattle.set_costs.proofs.is_discarded.Goals as goal

pub returns : goal.returns
returns c =
    let a = c.args in
    let more : a.slots - a.t + 1 ≡ suc (a.slots - a.t) = omega arith in
    any_from_yields_List (λ d. ltb (a.tracks * d) (ones (bit_and a.r (at a.ends.now (a.t + d))))) _ _ _ c.any.ensures.ran
    (YieldsList-from_range 0 (a.slots - a.t + 1) (a.slots - a.t + 1) refl (omega arith)) (λ x b q k. search rules)
    ∙ any_range _ (a.slots - a.t + 1)
    ∙ ap (λ n. Fold.some n (λ d. ltb (a.tracks * d) (ones (bit_and a.r (at a.ends.now (a.t + d)))))) more
