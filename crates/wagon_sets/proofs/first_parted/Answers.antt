-- `wagon_sets::first_parted` meets its contract: a search over the groups.
use Rattle.std.proofs.Common.{◌∙◌, add-one, rules}
use Rattle.fold.proofs.Ranges.{lowest_in_range}
use Rattle.wagon_sets.specs.Laws.{parts}
use Rattle.wagon_sets.proofs.first_parted.Goals as goal

pub returns : goal.returns
returns c =
    let a = c.args in
    c.unwrap_or.ensures ∙ lowest_in_range _ _ (parts a.n a.groups.now a.row.now) a.most _ _ (search rules) (λ x r q k. search (rules, add-one)) c.find.result c.find.ensures.ran
