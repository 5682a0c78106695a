-- `day_edits::without_train` meets its contract.
use Rattle.std.proofs.Common.{◌-◌, ◌∙◌, arith}
use Rattle.day.specs.Sound.{yard}
use Rattle.rolling.specs.Rolling.{source_without}
use Rattle.day_edits.proofs.Laws.{rearranged_as, without_in_day}
use Rattle.day_edits.proofs.without_train.Goals as goal

pub rearrange-requires : goal.rearrange-requires
rearrange-requires c = let of = c.sources_without.ensures in without_in_day _ c.args.day.trains c.args.p of.trains of.of c.requires.0 c.requires.1

pub returns : goal.returns
returns c =
    let of = c.sources_without.ensures in
    c.rearrange.ensures ∙ rearranged_as _ (source_without c.args.p) (c.args.day.trains - 1) of.trains of.of (omega arith) (yard c.args.day)
