-- `wagon_sets::leaves_member` meets its contract: a test of the positions below n.
use Rattle.std.proofs.Common.{rules}
use Rattle.fold.proofs.Ranges.{any_in_range}
use Rattle.model.specs.Model.{apart}
use Rattle.wagon_sets.proofs.leaves_member.Goals as goal

pub returns : goal.returns
returns c = any_in_range _ _ (apart c.args.groups.now c.args.row.now c.args.i) c.args.n _ _ (search rules) (λ x r q k. search rules) c.any.result c.any.ensures.ran
