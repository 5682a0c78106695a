use Rattle.model.specs.Model.{in_time}
use borrow.Author.Rules.{rules}
use Rattle.day.proofs.is_in_time.Goals as goal

pub returns : goal.returns
unfolding in_time
returns c = search rules
