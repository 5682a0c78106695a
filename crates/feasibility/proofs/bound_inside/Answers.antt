use mathlib.Core.Path.{sym, ap}
use borrow.Author.Rules.{rules}
use native.Mathlib.Omega.{arith}
use Rattle.fold.specs.Fold.{bit, count_none}
use Rattle.model.specs.Model.{bound}
use Rattle.feasibility.proofs.Bound.{bound-next}
use Rattle.feasibility.proofs.bound_inside.Goals as goal
use Rattle.feasibility.proofs.bound_inside.Goals.{else-a-first, then-a-first}

pub loop-i-init : goal.loop-i-init
unfolding bound
loop-i-init c = (search rules, sym (count_none _), search rules)

pub loop-i-preserved : goal.loop-i-preserved
loop-i-preserved c =
    let a = c.args in
    let next = bound-next c.loop-i.i a.first.now a.last.now a.a a.b in
    elim c.if-a-first.branch [ then-a-first w ↦ let one = ap bit w.if-a-first.true in omega arith | else-a-first w ↦ let none = ap bit w.if-a-first.false in omega arith ]
