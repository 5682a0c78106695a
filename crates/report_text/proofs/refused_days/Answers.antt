use mathlib.Core.Path.{sym}
use Prim.Native.Nat.{◌+◌}
use native.Mathlib.Omega.{arith}
use Rattle.fold.specs.Fold.{sum_none}
use Rattle.report_text.specs.Laws.{refused_next, refused_few}
use borrow.Author.Rules.{rules}
use Rattle.report_text.proofs.refused_days.Goals as goal

pub loop-i-init : goal.loop-i-init
loop-i-init c = (search rules, sym (sum_none _))

pub overflow_add-refused-in-loop-i : goal.overflow_add-refused-in-loop-i
overflow_add-refused-in-loop-i c =
    let l = c.loop-i in
    omega (arith, refused_few c.args.days.now l.i c.requires l.invariant.0, c.requires.few (l.i + 1) (omega arith), l.invariant.1)

pub loop-i-preserved : goal.loop-i-preserved
loop-i-preserved c = let l = c.loop-i in (search rules, omega (arith, refused_next c.args.days.now l.i, l.invariant.1))
