use Prim.Native.Nat.{◌+◌, ◌-◌, ◌*◌, ◌≤◌, ◌<◌, suc}
use mathlib.Core.Path.{◌≡◌, refl, ap, ◌∙◌}
use native.Mathlib.Omega.{arith}
use lib.ListN.{length}
use Rattle.optimum.specs.Stages.{tab, choice}
use Rattle.optimum.proofs.Layers.{stage_next}
use Rattle.staging.specs.Tables.{Tables, no_cost, from_tables, key_from_tables}
use Rattle.cells.specs.Lent.{lent}
use Rattle.cells.specs.Given.{given_less}
use Rattle.slot_filling.specs.Laws.{choice_place}
use Rattle.slot_filling.proofs.fill_last.Goals as goal
use Rattle.slot_filling.proofs.fill_last.Goals.{In-loop-r, Start}

abbrev given : Start → Tables
given s = let z = s.args in lent z.tables.now

-- inside the loop: the workspaces are still as long, and the word that is written is one of theirs
module _ (c : In-loop-r) where
  set : c.loop-r.r - 1 < c.args.sizes.sets
  set = omega (arith, c.loop-r.invariant.within)

  slot : c.args.sizes.slots - 1 < c.args.sizes.slots
  slot = omega (arith, c.requires.0.stages.0)

  costs : c.args.sizes.sets ≤ length c.loop-r.cost
  costs = omega (arith, c.loop-r.invariant.kept.long, c.requires.1)

  choices : c.args.sizes.slots * c.args.sizes.sets ≤ length c.loop-r.choice
  choices = omega (arith, c.loop-r.invariant.choices.kept.long, c.requires.2)

  place : ((c.args.sizes.slots - 1) * c.args.sizes.sets + (c.loop-r.r - 1) < c.args.sizes.slots * c.args.sizes.sets)
      × (c.args.sizes.slots * c.args.sizes.sets ≤ 32768)
  place = choice_place c.requires.0 (c.args.sizes.slots - 1) (c.loop-r.r - 1) slot set

pub whole-p-requires : goal.whole-p-requires
whole-p-requires c = given_less _ _ c.requires.0 (omega arith, omega (arith, set (goal.at.whole-p-requires c).In-loop-r)) (omega arith, omega (arith, slot (goal.at.whole-p-requires c).In-loop-r))

pub loop-r-preserved : goal.loop-r-preserved
loop-r-preserved c =
    let o = c in
    let s = o in
    let z = s.args in
    let r = o.loop-r.r - 1 in
    let one : 1 ≡ z.sizes.slots - (z.sizes.slots - 1) = omega (arith, slot (goal.at.loop-r-preserved o).In-loop-r) in
    let ok = from_tables (given (goal.at.loop-r-preserved s).Start) in
    let w = key_from_tables (given (goal.at.loop-r-preserved s).Start) in
    stage_next _ _ _ _ o.loop-r.invariant (omega arith) refl (slot (goal.at.loop-r-preserved o).In-loop-r) (costs (goal.at.loop-r-preserved o).In-loop-r) (choices (goal.at.loop-r-preserved o).In-loop-r) (
      c.whole-p.ensures.0 ∙ ap (λ k. tab ok w no_cost k (suc (z.sizes.slots - 1)) r) one,
      c.whole-p.ensures.1 ∙ ap (λ k. choice ok w no_cost k (suc (z.sizes.slots - 1)) r) one,
    )
