-- The shape is what is asked for, and each part has its own function.
use Rattle.std.proofs.Common.{refl, eq-eqb, length, ◌*◌}
use Rattle.day.specs.Sound.{shaped, sound}
use Rattle.day_sound.proofs.is_file_sound.Goals as goal

pub returns : goal.returns
unfolding sound shaped
returns c =
    let p = c.args.p.now in
    let s = c.requires in
    let n = p.limits.trains in
    rw (
      c.is_head_sound.ensures,
      c.positions_sound.ensures,
      c.boxes_sound.ensures,
      c.groups_sound.ensures,
      eq-eqb n n refl,
      eq-eqb (length p.numbers.now) n s.numbers,
      eq-eqb (length p.first.now) n s.first,
      eq-eqb (length p.last.now) n s.last,
      eq-eqb (length p.groups.now) n s.groups,
      eq-eqb (length p.boxes.now) (n * n) s.boxes,
    )
