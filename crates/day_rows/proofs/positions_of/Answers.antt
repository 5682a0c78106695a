use Rattle.day_rows.specs.Located.{listed, unlisted, first_unlisted, second_unlisted, one_train, both_there}
use Rattle.day_rows.proofs.positions_of.Goals as goal

pub returns-in_err-i : goal.returns-in_err-i
returns-in_err-i c = rw c.from_residual.ensures (first_unlisted _ _ _ (unlisted _ _ c.in_err-i.ensures))

pub returns-in_err-j : goal.returns-in_err-j
returns-in_err-j c = rw c.from_residual-in_err-j.ensures (second_unlisted _ _ _ (unlisted _ _ c.in_err-j.ensures))

pub returns-then-to-from : goal.returns-then-to-from
returns-then-to-from c = one_train _ _ _ c.if-to-from.true

pub returns : goal.returns
returns c =
    let to = listed c.args.numbers.now c.args.to _ c.in_ok-i.ensures in
    let from = listed c.args.numbers.now c.args.from _ c.in_ok-j.ensures in
    (both_there _ _ _ to.0 from.0 c.if-to-from.false, (to.1, from.1))
