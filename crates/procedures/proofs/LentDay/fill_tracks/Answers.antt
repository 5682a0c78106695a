use Rattle.std.proofs.Common.{refl, ◌∙◌, length-set, rules}
use Rattle.procedures.specs.Procedures.{fill_to}
use Rattle.procedures.specs.Laws.{fill_take, fill_pass}
use Rattle.procedures.proofs.LentDay.fill_tracks.Goals as goal
use Rattle.procedures.proofs.LentDay.fill_tracks.Goals.{then-i-self, else-i-self}

pub loop-track-init : goal.loop-track-init
unfolding fill_to
loop-track-init c = (search rules, refl, refl)

pub loop-track-preserved : goal.loop-track-preserved
loop-track-preserved c =
    let inv = c.loop-track.invariant in
    elim c.if-i-self.branch [
      | then-i-self w ↦ (search rules, rw w.row-is (length-set c.loop-track.row c.select_train-i.result _ ∙ inv.1), w.row-is ∙ fill_take _ _ _ _ _ _ _ _ c.loop-track._track inv.2 c.select_train-i.ensures w.if-i-self.true)
      | else-i-self w ↦ (search rules, rw w.row-is inv.1, w.row-is ∙ fill_pass _ _ _ _ _ _ _ _ c.loop-track._track inv.2 c.select_train-i.ensures w.if-i-self.false)
    ]
