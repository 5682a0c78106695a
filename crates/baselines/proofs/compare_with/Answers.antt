-- `baselines::compare_with` meets its contract: the front of the local row is the procedure's.
use mathlib.Core.Path.{◌≡◌, sym, ◌∙◌}
use Prim.Native.Nat.{◌≤◌}
use native.Mathlib.Omega.{arith}
use lib.ListN.{length}
use lib.Seq.{length-take-le}
use Rattle.day.specs.Sound.{day_limits, yard}
use Rattle.day.specs.SoundLaws.{sound_is}
use Rattle.baselines.specs.Laws.{zeros, zeros_front, front_long, front_fits}
use Rattle.baselines.proofs.compare_with.Goals as goal

pub slice_bounds-row-end : goal.slice_bounds-row-end
slice_bounds-row-end c =
    let few : c.args.day.trains ≤ 12 = (sound_is day_limits (yard c.args.day) c.requires.0).trains.1 in
    few

pub slice_bounds-fill_row-end : goal.slice_bounds-fill_row-end
slice_bounds-fill_row-end c =
    let few : c.args.day.trains ≤ 12 = (sound_is day_limits (yard c.args.day) c.requires.0).trains.1 in
    sym (length-take-le _ _ few)

pub fill_row-requires : goal.fill_row-requires
fill_row-requires c =
    let few : c.args.day.trains ≤ 12 = (sound_is day_limits (yard c.args.day) c.requires.0).trains.1 in
    (c.requires.0, zeros_front c.args.day.trains few)

pub slice_bounds-row-end-2 : goal.slice_bounds-row-end-2
slice_bounds-row-end-2 c =
    let few : c.args.day.trains ≤ 12 = (sound_is day_limits (yard c.args.day) c.requires.0).trains.1 in
    let row = c.fill_row.new.row in
    let long : length row ≡ c.args.day.trains = c.fill_row.auto.row ∙ length-take-le c.args.day.trains zeros few in
    front_fits c.args.day.trains row long

pub slice_bounds-compare-end : goal.slice_bounds-compare-end
slice_bounds-compare-end c =
    let few : c.args.day.trains ≤ 12 = (sound_is day_limits (yard c.args.day) c.requires.0).trains.1 in
    let row = c.fill_row.new.row in
    let long : length row ≡ c.args.day.trains = c.fill_row.auto.row ∙ length-take-le c.args.day.trains zeros few in
    front_long c.args.day.trains row long

pub compare-requires : goal.compare-requires
compare-requires c =
    let few : c.args.day.trains ≤ 12 = (sound_is day_limits (yard c.args.day) c.requires.0).trains.1 in
    let row = c.fill_row.new.row in
    let long : length row ≡ c.args.day.trains = c.fill_row.auto.row ∙ length-take-le c.args.day.trains zeros few in
    (c.requires.0, omega (arith, front_long c.args.day.trains row long), c.requires.1)
