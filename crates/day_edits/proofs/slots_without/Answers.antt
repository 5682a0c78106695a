-- `day_edits::slots_without` meets its contract.
use Rattle.std.proofs.Common.{◌-◌, ◌∙◌, arith}
use Rattle.rolling.specs.Rolling.{source_without}
use Rattle.day_edits.proofs.Laws.{moved_as, without_in_day}
use Rattle.day_edits.proofs.slots_without.Goals as goal

pub moved-requires : goal.moved-requires
moved-requires c = let of = c.sources_without.ensures in (omega arith, without_in_day _ c.args.n c.args.p of.trains of.of c.requires.0 c.requires.1)

pub returns : goal.returns
returns c =
    let of = c.sources_without.ensures in
    c.moved.ensures ∙ moved_as _ (source_without c.args.p) (c.args.n - 1) of.trains of.of (omega arith) 12 c.args.slots
