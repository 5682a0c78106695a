-- `baselines::fill_row` meets its contract. By the two procedures.
use Rattle.std.proofs.Common.{◌≡◌, ◌≤◌, ◌∙◌, ap, arith, length, rules}
use Rattle.std.proofs.lemmas.List.{length-replicate}
use Rattle.day.specs.Sound.{day_limits, yard}
use Rattle.day.specs.SoundLaws.{sound_is}
use Rattle.baselines.proofs.fill_row.Goals as goal

pub come_first-requires : goal.come_first-requires
come_first-requires c =
    let few : c.args.day.trains ≤ 12 = (sound_is day_limits (yard c.args.day) c.requires.0).trains.1 in
    let f : length c.args.day.first ≡ 12 = search rules in
    let l : length c.args.day.last ≡ 12 = search rules in
    (record { few = omega arith; first = omega arith; last = omega arith }, c.requires.1)

pub serve_myopic-requires : goal.serve_myopic-requires
serve_myopic-requires c =
    let few : c.args.day.trains ≤ 12 = (sound_is day_limits (yard c.args.day) c.requires.0).trains.1 in
    let b : length c.args.day.boxes ≡ 144 = search rules in
    let f : length c.args.day.first ≡ 12 = search rules in
    let l : length c.args.day.last ≡ 12 = search rules in
    let long : length c.args.row.now ≡ c.args.day.trains = ap length c.requires.1 ∙ length-replicate c.args.day.trains 0 in (
      record {
        windows = record { few = omega arith; first = omega arith; last = omega arith };
        given = record { few = omega arith; narrow = few; whole = omega arith; long = omega arith };
      },
      c.requires.1,
    )
