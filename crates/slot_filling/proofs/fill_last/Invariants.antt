-- `slot_filling::fill_last` meets its contract. The loop's invariant: optimum's `Stage`, set by set from the largest.
use Rattle.optimum.specs.Layers.{Every, Stage}
use Rattle.staging.specs.Tables.{no_cost, from_tables, key_from_tables}
use Rattle.cells.specs.Lent.{lent}
use Rattle.slot_filling.proofs.fill_last.Given as goal

abbrev pub invariant-loop-r : goal.invariant-loop-r
invariant-loop-r l =
    Stage (from_tables (lent l.tables)) (key_from_tables (lent l.tables)) no_cost Every l.sizes.sets l.sizes.slots l.j l.r l.initial.cost l.initial.choice l.cost l.choice
