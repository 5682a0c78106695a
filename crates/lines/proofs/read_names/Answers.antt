use Rattle.lines.proofs.Fields.{names_to}
use Rattle.lines.proofs.read_names.Goals as goal

pub returns : goal.returns
returns c = rw c.then_some.ensures (names_to _ _ c.args.at _ _ c.min-at.ensures c.starts_with.ensures.value)
