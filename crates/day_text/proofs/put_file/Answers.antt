-- The sections, one after the other.
use native.Mathlib.Omega.{arith}
use Rattle.day.specs.Parts.{part_yard}
use Rattle.day_text.specs.Laws.{put_sections, day_length}
use Rattle.day_text.proofs.put_file.Goals as goal

pub put_head-trains-requires : goal.put_head-trains-requires
put_head-trains-requires c =
    let p = c.args.p.now in
    let day = part_yard p in
    omega (arith, day_length p.limits day c.requires.writable.low, c.requires.room)

pub put_trains-moves-requires : goal.put_trains-moves-requires
put_trains-moves-requires c =
    let p = c.args.p.now in
    let day = part_yard p in
    let w = c.requires.writable in
    let h = c.put_head-trains in
    record {
      long_enough = (w.numbered, w.firsts, w.lasts);
      room = omega (arith, day_length p.limits day w.low, c.requires.room, h.auto.out, h.ensures.next);
    }

pub put_moves-sets-requires : goal.put_moves-sets-requires
put_moves-sets-requires c =
    let p = c.args.p.now in
    let day = part_yard p in
    let w = c.requires.writable in
    let h = c.put_head-trains in
    let t = c.put_trains-moves in
    record {
      long_enough = (w.places, w.table);
      room = omega (arith, day_length p.limits day w.low, c.requires.room, h.auto.out, h.ensures.next, t.auto.out, t.ensures.next);
    }

pub put_groups-requires : goal.put_groups-requires
put_groups-requires c =
    let p = c.args.p.now in
    let day = part_yard p in
    let w = c.requires.writable in
    let h = c.put_head-trains in
    let t = c.put_trains-moves in
    let m = c.put_moves-sets in
    record {
      n_in_bounds = (w.numbered, w.members);
      groups_in_bounds = omega (arith, day_length p.limits day w.low, c.requires.room, h.auto.out, h.ensures.next, t.auto.out, t.ensures.next, m.auto.out, m.ensures.next);
    }

pub returns : goal.returns
returns c =
    let p = c.args.p.now in
    let day = part_yard p in
    put_sections p.limits day c.requires.writable.low c.put_head-trains.ensures c.put_trains-moves.ensures c.put_moves-sets.ensures c.put_groups.ensures
