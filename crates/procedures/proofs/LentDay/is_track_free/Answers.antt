-- `LentDay::is_track_free` meets its contract. The ones of the slot's mask are its trains.
use Rattle.sets.specs.Mask.{ones_mask}
use Rattle.model.specs.Model.{load, slot_mask}
use Rattle.procedures.specs.Procedures.{track_free}
use Rattle.procedures.proofs.LentDay.is_track_free.Goals as goal

pub returns : goal.returns
unfolding track_free load slot_mask
returns c = rw (c.slot_mask.ensures, ones_mask)
