-- `day_figures::figures_of` meets its contract. The plan's numbers, the saving, and the boxes, which its moves add up to.
-- where the function began, from the place behind the third count
use mathlib.Core.Path.{◌≡◌}
use Prim.Native.Nat.{◌+◌}
use native.Mathlib.Omega.{arith}
use Rattle.model.specs.Model.{boxes_of}
use Rattle.day.specs.Most.{day_most_boxes, sound_boxes}
use Rattle.day.specs.Sound.{day_limits, yard}
use Rattle.day.specs.SoundLaws.{sound_is}
use Rattle.day_figures.specs.Laws.{best_of_lem, all_moved}
use Rattle.day_figures.proofs.figures_of.Goals as goal

pub returns : goal.returns
returns c =
    let boxes : c.count-direct.result + c.count-splits.result ≡ boxes_of (yard c.args.day) = let e = all_moved day_limits (yard c.args.day) c.requires in omega (arith, e, c.count-direct.ensures, c.count-splits.ensures) in
    let revisits = c.count.ensures in
    let splits = c.count-splits.ensures in
    let direct = c.count-direct.ensures in
    let all = boxes in
    let saved = c.saved_by.ensures in
    λ i. record { revisits = revisits i; splits = splits i; direct = direct i; boxes = all i; savings = saved i }

pub overflow_add-result : goal.overflow_add-result
overflow_add-result c =
    let y = yard c.args.day in
    let e = all_moved day_limits y c.requires in
    let boxes : c.count-direct.result + c.count-splits.result ≡ boxes_of y = omega (arith, e, c.count-direct.ensures, c.count-splits.ensures) in
    omega (arith, boxes, day_most_boxes, sound_boxes day_limits y (sound_is day_limits y (best_of_lem day_limits y c.requires).is_sound))
