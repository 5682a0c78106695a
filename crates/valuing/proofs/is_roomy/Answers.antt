-- `valuing::is_roomy` meets its contract. The ones of the slot's mask are its trains.
use Rattle.sets.specs.Mask.{ones_mask}
use Rattle.model.specs.Model.{roomy, load, slot_mask}
use Rattle.valuing.proofs.is_roomy.Goals as goal

pub returns : goal.returns
unfolding roomy load slot_mask
returns c = rw (c.slot_mask.ensures, ones_mask)
