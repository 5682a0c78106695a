-- `slot_filling::fill_first` meets its contract. The cell of all trains is the first slot's; no other set can remain before it.
use Prim.Native.Nat.{◌-◌, ◌<◌, suc}
use mathlib.Core.Path.{◌≡◌, refl, ap, ◌∙◌}
use native.Mathlib.Omega.{arith}
use Rattle.optimum.specs.Stages.{tab, choice}
use Rattle.optimum.specs.Layers.{Table}
use Rattle.optimum.proofs.Layers.{table-cell, stage_start, stage_next, stage_pass, stage_end, solved_reads}
use Rattle.staging.specs.Tables.{Tables, no_cost, from_tables, key_from_tables}
use Rattle.cells.specs.Lent.{lent}
use Rattle.staging.specs.Reachable.{Reachable}
use Rattle.staging.proofs.Reachable.{reachable_all}
use Rattle.cells.specs.Given.{given_less}
use Rattle.slot_filling.specs.Laws.{leaves_reachable, table_rests}
use Rattle.slot_filling.proofs.fill_first.Goals as goal
use Rattle.slot_filling.proofs.fill_first.Goals.{Start}

abbrev given : Start → Tables
given s = let z = s.args in lent z.tables.now

module _ (s : Start) where
  -- the second slot's table, which the cell reads
  reads : Table (from_tables (given s)) (key_from_tables (given s)) no_cost
      (Reachable s.args.sizes.sets s.args.sizes.tracks) s.args.sizes.sets (s.args.sizes.slots - 1) 1 s.args.cost.now
  reads = solved_reads 0 s.requires.1 refl

  all : Reachable s.args.sizes.sets s.args.sizes.tracks 0 (s.args.sizes.sets - 1)
  all = reachable_all s.args.sizes.sets s.args.sizes.tracks

  last : s.args.sizes.sets - 1 < s.args.sizes.sets
  last = omega (arith, s.requires.0.tables.sets)

pub cheapest-p-requires : goal.cheapest-p-requires
cheapest-p-requires c =
    let s = c in
    let r = last (goal.at.cheapest-p-requires s).Start in
    let g = s.requires.0.tables in (
      given_less _ _ g (omega arith, omega arith) (omega arith, g.stages.0),
      table_rests g (reads (goal.at.cheapest-p-requires s).Start) s.requires.0.room (all (goal.at.cheapest-p-requires s).Start) g.stages.0 r (omega arith) s.requires.0.costs,
    )

pub returns : goal.returns
returns c =
    let s = c in
    let z = s.args in
    let r = z.sizes.sets - 1 in
    let ok = from_tables (given (goal.at.returns s).Start) in
    let w = key_from_tables (given (goal.at.returns s).Start) in
    let slots = s.requires.0.tables.stages.0 in
    let left : suc (z.sizes.slots - 1) ≡ z.sizes.slots - 0 = omega arith in
    let (v, u) = table-cell r (reads (goal.at.returns s).Start) (last (goal.at.returns s).Start) (λ q hq may. leaves_reachable s.requires.0.tables q s.requires.0.room (last (goal.at.returns s).Start) (all (goal.at.returns s).Start) hq may) in
    let put = stage_next r r _ _ (stage_start 0 s.requires.1 refl) (omega (arith, last (goal.at.returns s).Start)) (omega arith) slots s.requires.0.costs s.requires.0.choices (
      c.cheapest-p.ensures.0 ∙ v ∙ ap (λ k. tab ok w no_cost k 1 r) left,
      c.cheapest-p.ensures.1 ∙ u ∙ ap (λ k. choice ok w no_cost k 1 r) left,
    ) in
    stage_end (stage_pass 0 put (omega arith) (λ i p q h. omega (arith, h.first refl))) refl slots
