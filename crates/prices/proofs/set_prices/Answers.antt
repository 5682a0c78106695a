use Rattle.std.proofs.Common.{sym, ap, ◌∙◌, subst, ◌*◌, ◌<◌, ◌^◌, arith}
use Rattle.std.proofs.lemmas.List.{length-take-le, get_or-take}
use Rattle.tables.specs.Filled.{unread, filled_next, filled_front}
use Rattle.prices.specs.Entries.{price_of}
use Rattle.prices.proofs.set_prices.Goals as goal

pub price_of-requires : goal.price_of-requires
price_of-requires c =
    let a = c.args in
    let here : c.loop-s.s < a.size = omega (arith, length-take-le a.size a.price.now c.requires.1) in
    subst (λ x. a.split * x < 2 ^ 32) (sym (unread c.loop-s.invariant.kept ∙ get_or-take a.size a.price.now c.loop-s.s 0 here)) (c.requires.2 c.loop-s.s here)

pub loop-s-preserved : goal.loop-s-preserved
loop-s-preserved c =
    let i = c.loop-s.invariant in
    filled_next _ i (omega (arith, i.kept.long)) (c.price_of.ensures ∙ ap (price_of c.args.tracks c.args.split c.loop-s.s) (unread i.kept))

pub returns : goal.returns
returns c =
    let a = c.args in
    filled_front a.size c.loop-s.invariant (omega (arith, length-take-le a.size a.price.now c.requires.1)) c.requires.1
    (λ s l. ap (price_of a.tracks a.split s) (get_or-take a.size a.price.now s 0 l))
