-- By the two cases of the test that the position is in the group.
use mathlib.Core.Path.{refl}
use Rattle.groups_text.specs.Laws.{member_none, member_some}
use borrow.Author.Rules.{rules}
use Rattle.groups_text.proofs.put_member.Goals as goal

pub returns-then-groups-i : goal.returns-then-groups-i
returns-then-groups-i c = rw (member_none _ _ _ _ c.if-groups-i.true) (record { next = search rules; list = refl })

pub put_row-requires : goal.put_row-requires
put_row-requires c =
    rw (c.from-2.ensures, c.from.ensures) (rw (member_some _ _ _ _ c.if-groups-i.false) at c.requires.i_in_bounds_2)

pub returns : goal.returns
returns c = rw (member_some _ _ _ _ c.if-groups-i.false) (rw (c.from-2.ensures, c.from.ensures) at c.put_row.ensures)
