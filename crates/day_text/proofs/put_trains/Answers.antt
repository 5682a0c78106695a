use mathlib.Core.Path.{refl}
use native.Mathlib.Omega.{arith}
use borrow.Author.Rules.{rules}
use Rattle.fold.specs.Listed.{joined}
use Rattle.decimal.specs.PlaceLaws.{put_text}
use Rattle.dayfile.specs.Reading.{train_names}
use Rattle.day_text.specs.Writes.{train_text}
use Rattle.output.specs.Laws.{put_none, put_more, put_end, names_fit, row_fits}
use Rattle.day_text.proofs.put_trains.Goals as goal

pub put_bytes-next-requires : goal.put_bytes-next-requires
unfolding train_names
put_bytes-next-requires c =
    let p = c.args.p.now in
    omega (arith, names_fit train_names (joined p.head.trains (train_text p.numbers.now p.first.now p.last.now)))

pub loop-i-init : goal.loop-i-init
loop-i-init c = (search rules, refl, put_none _)

pub put_row-next-requires : goal.put_row-next-requires
unfolding train_names
put_row-next-requires c =
    let p = c.args.p.now in
    let l = c.loop-i in
    let f = row_fits train_names (train_text p.numbers.now p.first.now p.last.now) l.i p.head.trains c.loop-i-test.true in
    rw (c.from-in-loop-i-2.ensures, c.from-in-loop-i.ensures, c.from.ensures) (omega (arith, f, c.requires.room, c.put_bytes-next.auto.out, c.put_bytes-next.ensures.next, l.invariant.1, l.invariant.2.next))

pub loop-i-preserved : goal.loop-i-preserved
loop-i-preserved c =
    (search rules, search rules, put_more _ _ c.loop-i.invariant.2 (rw (c.from-in-loop-i-2.ensures, c.from-in-loop-i.ensures, c.from.ensures) at c.put_row-next.ensures))

pub returns : goal.returns
unfolding train_names
returns c =
    put_text c.put_bytes-next.ensures (put_end _ _ _ c.loop-i.invariant.0 c.loop-i-test.false c.loop-i.invariant.2)
