-- By the two tests of the place.
use Rattle.account_edits.specs.Laws.{placed_there, placed_other, placed_past}
use Rattle.account_edits.proofs.place_in.Goals as goal
use Rattle.account_edits.proofs.place_in.Goals.{else-p-day-via-then-p-day+else-day-p, else-p-day-via-else-p-day}

pub returns-then-day-p : goal.returns-then-day-p
returns-then-day-p c = placed_there _ _ _ c.place_of-p.ensures c.if-p-day.true c.if-day-p.true

pub returns-else-p-day : goal.returns-else-p-day
returns-else-p-day c =
    let e = c.place_of-p.ensures in
    elim c.else-p-day.branch [
      | else-p-day-via-then-p-day+else-day-p w ↦ placed_other _ _ _ e w.if-p-day.true w.if-day-p.false
      | else-p-day-via-else-p-day w ↦ placed_past _ _ _ e w.if-p-day.false
    ]
