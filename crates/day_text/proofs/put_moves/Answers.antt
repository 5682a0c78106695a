use mathlib.Core.Path.{refl}
use Prim.Native.Nat.{◌*◌}
use native.Mathlib.Omega.{arith}
use borrow.Author.Rules.{rules}
use Rattle.fold.specs.Listed.{joined}
use Rattle.decimal.specs.PlaceLaws.{put_text}
use Rattle.dayfile.specs.Reading.{move_names}
use Rattle.day_text.specs.Writes.{move_text}
use Rattle.output.specs.Laws.{put_none, put_more, put_end, names_fit, row_fits}
use Rattle.day_text.proofs.put_moves.Goals as goal

pub put_bytes-next-requires : goal.put_bytes-next-requires
unfolding move_names
put_bytes-next-requires c =
    let p = c.args.p.now in
    omega (arith, names_fit move_names (joined (p.limits.trains * p.limits.trains) (move_text p.numbers.now p.limits.trains p.boxes.now)))

pub loop-q-init : goal.loop-q-init
loop-q-init c = (search rules, refl, put_none _)

pub put_move-next-requires : goal.put_move-next-requires
unfolding move_names
put_move-next-requires c =
    let p = c.args.p.now in
    let l = c.loop-q in
    let h = c.loop-q-test.true in
    let f = row_fits move_names (move_text p.numbers.now p.limits.trains p.boxes.now) l.q (p.limits.trains * p.limits.trains) h in
    record { place = (h, search rules, search rules); room = omega (arith, c.put_bytes-next.ensures.next, l.invariant.2.next) }

pub loop-q-preserved : goal.loop-q-preserved
loop-q-preserved c = (search rules, search rules, put_more _ _ c.loop-q.invariant.2 c.put_move-next.ensures)

pub returns : goal.returns
unfolding move_names
returns c =
    put_text c.put_bytes-next.ensures (put_end _ _ _ c.loop-q.invariant.0 c.loop-q-test.false c.loop-q.invariant.2)
