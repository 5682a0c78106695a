-- Order 8 of document 02: the weights that it speaks of fit the day file. A sound day of at most twelve trains has at most 33,660 boxes, so
-- with their sum and 1 as its weights it is sound again (`reweighed-sound`); and weights of 33,660 and 1 do for each such day, whatever boxes
-- it has (`most_outweigh`).
-- Assumes nothing.
use Rattle.std.specs.Prelude.{◌≡◌, ◌≤◌, T}
use Rattle.std.proofs.Common.{arith}
use Rattle.model.specs.Model.{Yard, boxes_of}
use Rattle.model.specs.Fewest.{Outweighs, reweighed}
use Rattle.model.proofs.Fewest.{greater_outweighs}
use Rattle.day.specs.Sound.{day_limits, shaped, sound}
use Rattle.day.specs.SoundLaws.{sound_is, sound_tests, tests_sound}
use Rattle.day.specs.SoundDay.{head_within}
use Rattle.day.specs.Most.{sound_boxes, day_most_boxes}

module _ (y : Yard) (t : T (sound day_limits y)) where
  few_boxes : boxes_of y ≤ 33660
  few_boxes = omega (arith, sound_boxes day_limits y (sound_is day_limits y t), day_most_boxes)

  pub reweighed-sound : T (sound day_limits (reweighed y))
  unfolding shaped
  reweighed-sound =
      let (shape, head, positions, boxes, groups) = sound_tests day_limits y t in
      let s = sound_is day_limits y t in
      tests_sound day_limits (reweighed y) shape (head_within day_limits (reweighed y) s.trains s.tracks s.slots (omega (arith, few_boxes), omega arith)) positions boxes groups

  pub most_outweigh : 33660 ≤ y.revisit → y.split ≡ 1 → Outweighs y
  most_outweigh enough one = greater_outweighs y (omega (arith, few_boxes)) one
