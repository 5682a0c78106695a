use mathlib.Core.Path.{sym}
use borrow.Author.Rules.{rules}
use borrow.Author.Tests.{lt-ltb, le-ltb}
use Rattle.fold.specs.Fold.{no_some, none_next, some-found}
use Rattle.groups_text.proofs.has_groups.Goals as goal

pub loop-i-init : goal.loop-i-init
loop-i-init c = (search rules, no_some _)

pub returns-then-groups-i-gt0 : goal.returns-then-groups-i-gt0
returns-then-groups-i-gt0 c = sym (some-found _ _ _ (search rules) (lt-ltb _ _ c.if-groups-i-gt0.true))

pub loop-i-preserved : goal.loop-i-preserved
loop-i-preserved c = (search rules, none_next _ _ c.loop-i.invariant.1 (le-ltb _ _ c.if-groups-i-gt0.false))
