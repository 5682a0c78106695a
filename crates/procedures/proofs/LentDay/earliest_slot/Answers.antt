-- `LentDay::earliest_slot` meets its contract: a search over the slots.
use Rattle.std.proofs.Common.{add-one, rules}
use Rattle.fold.proofs.Ranges.{found_in_range}
use Rattle.procedures.specs.Procedures.{suits, earliest}
use Rattle.procedures.proofs.LentDay.earliest_slot.Goals as goal

pub returns : goal.returns
unfolding earliest suits
returns c =
    let d = c.args.self.now in
    found_in_range _ _ (suits d.trains d.tracks d.first.now d.last.now c.args.row.now c.args.i) d.slots _ _ (search rules) (λ x r q k. search (rules, add-one)) c.find.result c.find.ensures.ran
