use Rattle.std.proofs.Common.{refl, rules}
use Rattle.procedures.specs.Procedures.{served_to}
use Rattle.procedures.specs.Laws.{served_more}
use Rattle.procedures.proofs.serve_myopic.Goals as goal

pub loop-t-init : goal.loop-t-init
unfolding served_to
loop-t-init c = (search rules, refl, c.requires.1)

pub loop-t-preserved : goal.loop-t-preserved
loop-t-preserved c = (search rules, search rules, served_more _ _ _ _ _ _ _ c.loop-t.t c.loop-t.invariant.2 c.fill_tracks.ensures)
