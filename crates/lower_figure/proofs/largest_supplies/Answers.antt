use borrow.Author.Rules.{rules}
use native.Mathlib.Omega.{arith}
use mathlib.Core.Path.{◌∙◌}
use Rattle.lower_figure.specs.Figure.{three_none, three_next}
use Rattle.lower_figure.proofs.largest_supplies.Goals as goal

pub loop-j-init : goal.loop-j-init
loop-j-init c = (search rules, search rules, search rules, search rules, three_none _)

pub loop-j-preserved : goal.loop-j-preserved
loop-j-preserved c =
    let l = c.loop-j in (
      search rules,
      search rules,
      search rules,
      search rules,
      three_next l.j _ (c.from-x.ensures ∙ c.received.ensures) l.invariant.4 (search rules) (search rules) (search rules),
    )
