-- `slot_filling::fill_slot` meets its contract. The loop's invariant: optimum's `Stage`, set by set from the largest, and below the sets that are
-- done the next slot's table, which the cells read.
use Prim.Native.Nat.{◌-◌, suc}
use Rattle.optimum.specs.Layers.{Table, Stage}
use Rattle.staging.specs.Tables.{no_cost, from_tables, key_from_tables}
use Rattle.cells.specs.Lent.{lent}
use Rattle.staging.specs.Reachable.{Reachable}
use Rattle.slot_filling.proofs.fill_slot.Given as goal

abbrev pub invariant-loop-r : goal.invariant-loop-r
invariant-loop-r l =
    Stage (from_tables (lent l.tables)) (key_from_tables (lent l.tables)) no_cost (Reachable l.sizes.sets l.sizes.tracks) l.sizes.sets l.sizes.slots l.j l.r l.initial.cost l.initial.choice l.cost l.choice
    × Table (from_tables (lent l.tables)) (key_from_tables (lent l.tables)) no_cost (Reachable l.sizes.sets l.sizes.tracks) l.r (l.sizes.slots - suc l.j) (suc l.j) l.cost
