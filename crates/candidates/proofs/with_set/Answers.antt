-- `candidates::with_set` meets its contract: five fields are written.
use borrow.Author.Rules.{rules}
use Rattle.std.proofs.Common.{ap, ◌+◌, ◌*◌}
use Rattle.candidates.specs.Words.{with_set, with_low}
use Rattle.candidates.proofs.with_set.Goals as goal

pub returns : goal.returns
returns c =
    let a = c.args in
    let p = a.plan.now in
    let e = with_set a.j a.s a.price.late a.price.cost a.day.now.sizes.all _ p (search rules) (ap (λ v. p.slot_sum + (a.j + 1) * v) c.from.ensures) in
    (e, with_low a.day.now.boxes.trains a.j a.s _ _ _ p _ c.requires.2 c.requires.1 c.requires.4 c.requires.5 c.requires.6 c.requires.0 e)
