-- `day_edits::with_train` meets its contract.
use Rattle.std.proofs.Common.{suc, ap, ◌∙◌, arith}
use Rattle.day.specs.Sound.{yard}
use Rattle.rolling.specs.Rolling.{source_with, put_train}
use Rattle.day_edits.proofs.Laws.{rearranged_as, with_in_day}
use Rattle.day_edits.proofs.with_train.Goals as goal

pub rearrange-d-requires : goal.rearrange-d-requires
rearrange-d-requires c = let of = c.sources_with.ensures in with_in_day _ c.args.day.trains c.args.p of.trains of.of c.requires.0

pub returns : goal.returns
returns c =
    let z = c.args in
    let of = c.sources_with.ensures in
    ap (put_train z.p z.number z.first z.last)
    (c.rearrange-d.ensures ∙ rearranged_as _ (source_with z.day.trains z.p) (suc z.day.trains) of.trains of.of (omega arith) (yard z.day))
