use borrow.Author.Rules.{rules}
use native.Mathlib.Omega.{arith}
use mathlib.Core.Path.{sym}
use Rattle.fold.specs.Fold.{sum_none, sum-next}
use Rattle.beam_tables.specs.Given.{received}
use Rattle.beam_tables.proofs.incoming_to.Goals as goal

pub loop-j-init : goal.loop-j-init
loop-j-init c = (search rules, sym (sum_none _), search rules)

pub loop-j-preserved : goal.loop-j-preserved
loop-j-preserved c =
    let a = c.args in
    let next = sum-next c.loop-j.j (received a.boxes.now a.i) in
    omega arith
