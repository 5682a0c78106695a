-- `day_edits::slots_with` meets its contract.
use Rattle.std.proofs.Common.{suc, ◌∙◌, arith}
use Rattle.rolling.specs.Rolling.{source_with}
use Rattle.day_edits.proofs.Laws.{moved_as, with_in_day}
use Rattle.day_edits.proofs.slots_with.Goals as goal

pub moved-requires : goal.moved-requires
moved-requires c = let of = c.sources_with.ensures in (omega arith, with_in_day _ c.args.n c.args.p of.trains of.of c.requires)

pub returns : goal.returns
returns c =
    let of = c.sources_with.ensures in
    c.moved.ensures ∙ moved_as _ (source_with c.args.n c.args.p) (suc c.args.n) of.trains of.of (omega arith) 12 c.args.slots
