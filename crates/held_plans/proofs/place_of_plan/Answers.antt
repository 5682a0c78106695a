-- `held_plans::place_of_plan` meets its contract.
use Rattle.std.proofs.Common.{◌≡◌, ap, ◌∙◌, ◌+◌, suc, arith}
use Rattle.std.specs.Option.{unwrap_or}
use Rattle.fold.specs.Fold.{lowest}
use Rattle.model.specs.Model.{lower}
use Rattle.held_plans.specs.Words.{word, words}
use Rattle.held_plans.proofs.Places.{place_is}
use Rattle.held_plans.proofs.place_of_plan.Goals as goal

pub returns : goal.returns
returns c =
    let a = c.args in
    let h = a.held.now in
    let words_of : a.slots + 3 ≡ suc (suc (suc a.slots)) = omega arith in
    c.unwrap_or.ensures ∙ ap (λ o. unwrap_or o h.count) c.find_later.ensures ∙ place_is (λ p. lower (a.slots + 3) (word a.x.now) (word p)) h.plans h.count (omega arith)
    ∙ ap (λ n. lowest h.count (λ k. lower n (word a.x.now) (words h.plans k))) words_of
