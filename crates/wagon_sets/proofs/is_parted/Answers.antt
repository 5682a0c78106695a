-- `wagon_sets::is_parted` meets its contract: a test of the positions below n.
use Rattle.std.proofs.Common.{ℕ, Bool, ◌&&◌, eqb, rules}
use Rattle.fold.specs.Fold.{some}
use Rattle.fold.proofs.Ranges.{any_in_range}
use Rattle.model.specs.Model.{group_of, apart, parted}
use Rattle.wagon_sets.proofs.is_parted.Goals as goal

pub returns : goal.returns
unfolding parted
returns c =
    let a = c.args in
    let left : ℕ → Bool = λ i. eqb (group_of a.groups.now i) a.g && some a.n (apart a.groups.now a.row.now i) in
    any_in_range _ _ left a.n _ _ (search rules) (λ x r q k. search rules) c.any.result c.any.ensures.ran
