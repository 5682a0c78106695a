-- By the two cases of the test that there are no boxes.
use mathlib.Core.Path.{refl}
use borrow.Author.Rules.{rules}
use Rattle.day_text.specs.Laws.{move_none, move_some}
use Rattle.day_text.proofs.put_move.Goals as goal

pub returns-then-boxes-eq0 : goal.returns-then-boxes-eq0
returns-then-boxes-eq0 c = rw (move_none _ _ _ _ c.if-boxes-eq0.true) (record { next = search rules; list = refl })

pub put_row-requires : goal.put_row-requires
put_row-requires c =
    rw (c.from-3.ensures, c.from-2.ensures, c.from.ensures)
    (rw (move_some _ _ _ _ c.if-boxes-eq0.false) at c.requires.room)

pub returns : goal.returns
returns c =
    rw (move_some _ _ _ _ c.if-boxes-eq0.false)
    (rw (c.from-3.ensures, c.from-2.ensures, c.from.ensures) at c.put_row.ensures)
