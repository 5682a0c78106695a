use Rattle.std.proofs.Common.{ap, ◌∙◌, cond, arith}
use Rattle.std.proofs.lemmas.List.{length-take-le, get_or-take}
use Rattle.staging.specs.Tables.{barred}
use Rattle.tables.specs.Filled.{unread, filled_next, filled_front}
use Rattle.barring.specs.Laws.{undivided}
use Rattle.barring.proofs.bar_parted.Goals as goal

pub loop-s-preserved : goal.loop-s-preserved
loop-s-preserved c =
    let i = c.loop-s.invariant in
    filled_next _ i (omega (arith, i.kept.long)) (c.price_whole.ensures ∙ ap (λ x. cond (undivided c.args.members c.loop-s.s) x barred) (unread i.kept))

pub returns : goal.returns
returns c =
    let a = c.args in
    filled_front a.size c.loop-s.invariant (omega (arith, length-take-le a.size a.price.now c.requires.1)) c.requires.1
    (λ s l. ap (λ x. cond (undivided a.members s) x barred) (get_or-take a.size a.price.now s 0 l))
