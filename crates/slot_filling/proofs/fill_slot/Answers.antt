use Prim.Native.Nat.{◌+◌, ◌-◌, ◌*◌, ◌≤◌, ◌<◌, suc}
use mathlib.Core.Path.{◌≡◌, refl, ap, ◌∙◌}
use native.Mathlib.Nat.{mul_comm, mul-le-mul}
use native.Mathlib.Omega.{arith}
use lib.Count.{ones}
use lib.ListN.{length}
use Rattle.optimum.specs.Stages.{tab, choice}
use Rattle.optimum.proofs.Layers.{table-cell, table_put, table_less, stage_next, stage_pass}
use Rattle.staging.specs.Tables.{Tables, no_cost, from_tables, key_from_tables}
use Rattle.cells.specs.Lent.{lent}
use Rattle.staging.specs.Reachable.{Reachable}
use Rattle.cells.specs.Given.{given_less}
use Rattle.slot_filling.specs.Laws.{leaves_reachable, table_rests, choice_place, hopeless_cell, same_pick}
use Rattle.slot_filling.proofs.fill_slot.Goals as goal
use Rattle.slot_filling.proofs.fill_slot.Goals.{In-loop-r, Joined-room-trains, Start, Then-fewest-trains, else-room-trains, then-room-trains}

abbrev given : Start → Tables
given s = let z = s.args in lent z.tables.now

-- the tracks of the slots left, and of those before
module _ (s : Start) where
  rooms : s.args.sizes.tracks * (s.args.sizes.slots - s.args.j) ≤ 96
  rooms =
      let left : s.args.sizes.slots - s.args.j ≤ 8 = omega (arith, s.requires.0.tables.stages) in
      mul-le-mul s.requires.0.room.few left

  passed : s.args.sizes.tracks * s.args.j ≤ 96
  passed =
      let before : s.args.j ≤ 8 = omega (arith, s.requires.0.tables.stages, s.requires.3) in
      mul-le-mul s.requires.0.room.few before

-- inside the loop: the workspaces are still as long, and the word that is written is one of theirs
module _ (c : In-loop-r) where
  set : c.loop-r.r - 1 < c.args.sizes.sets
  set = omega (arith, c.loop-r.invariant.0.within)

  costs : c.args.sizes.sets ≤ length c.loop-r.cost
  costs = omega (arith, c.loop-r.invariant.0.kept.long, c.requires.0.costs)

  choices : c.args.sizes.slots * c.args.sizes.sets ≤ length c.loop-r.choice
  choices = omega (arith, c.loop-r.invariant.0.choices.kept.long, c.requires.0.choices)

  place : (c.args.j * c.args.sizes.sets + (c.loop-r.r - 1) < c.args.sizes.slots * c.args.sizes.sets)
      × (c.args.sizes.slots * c.args.sizes.sets ≤ 32768)
  place = choice_place c.requires.0.tables c.args.j (c.loop-r.r - 1) c.requires.3 set

-- the code's test: enough trains are left for r to remain
remains : (c : Then-fewest-trains)
    → Reachable c.args.sizes.sets c.args.sizes.tracks c.args.j (c.loop-r.r - 1)
remains c =
    let s = c in
    record { first = λ e. absurd (omega (arith, s.requires.2)); enough = omega (arith, c.if-fewest-trains.true, mul_comm s.args.sizes.tracks s.args.j) }

-- what is written: none where r cannot be served, else what the walk finds
found : (c : Joined-room-trains)
    → let s = c in
    let z = s.args in
    let r = c.loop-r.r - 1 in
    (c.if-room-trains.p.value ≡ tab (from_tables (given (goal.at.Joined-room-trains s).Start)) (key_from_tables (given (goal.at.Joined-room-trains s).Start)) no_cost (z.sizes.slots - z.j) (suc z.j) r)
    × (c.if-room-trains.p.set ≡ choice (from_tables (given (goal.at.Joined-room-trains s).Start)) (key_from_tables (given (goal.at.Joined-room-trains s).Start)) no_cost (z.sizes.slots - z.j) (suc z.j) r)
found c =
    let a = c in
    let s = a in
    let z = s.args in
    let r = a.loop-r.r - 1 in
    let ok = from_tables (given (goal.at.Joined-room-trains s).Start) in
    let w = key_from_tables (given (goal.at.Joined-room-trains s).Start) in
    let left : suc (z.sizes.slots - suc z.j) ≡ z.sizes.slots - z.j = omega (arith, s.requires.3) in
    let (v, u) = table-cell r a.loop-r.invariant.1 (omega arith) (λ q hq may. leaves_reachable s.requires.0.tables q s.requires.0.room (set (goal.at.Joined-room-trains c).In-loop-r) (remains (goal.at.Joined-room-trains c).Then-fewest-trains) hq may) in
    elim c.if-room-trains.branch [
      | then-room-trains x ↦ same_pick x.p-is (hopeless_cell z.j r s.requires.0.tables s.requires.0.room s.requires.1 (omega (arith, s.requires.3)) (set (goal.at.Joined-room-trains c).In-loop-r) x.if-room-trains.true)
      | else-room-trains x ↦ same_pick x.p-is (
        x.cheapest-p.ensures.0 ∙ v ∙ ap (λ k. tab ok w no_cost k (suc z.j) r) left,
        x.cheapest-p.ensures.1 ∙ u ∙ ap (λ k. choice ok w no_cost k (suc z.j) r) left,
      )
    ]

pub cheapest-p-requires : goal.cheapest-p-requires
cheapest-p-requires c =
    let o = c in
    let s = o in
    let r = set (goal.at.cheapest-p-requires o).In-loop-r in
    let j = s.requires.3 in (
      given_less _ _ s.requires.0.tables (omega arith, omega arith) (omega arith, omega arith),
      table_rests s.requires.0.tables o.loop-r.invariant.1 s.requires.0.room (remains (goal.at.cheapest-p-requires c).Then-fewest-trains) j (omega arith) o.loop-r.invariant.0.within (costs (goal.at.cheapest-p-requires o).In-loop-r),
    )

pub loop-r-preserved-then-fewest-trains : goal.loop-r-preserved-then-fewest-trains
loop-r-preserved-then-fewest-trains c =
    let o = c in
    let inv = o.loop-r.invariant in (
      stage_next _ _ _ _ inv.0 (omega arith) refl o.requires.3 (costs (goal.at.loop-r-preserved-then-fewest-trains o).In-loop-r) (choices (goal.at.loop-r-preserved-then-fewest-trains o).In-loop-r) (found (goal.at.loop-r-preserved-then-fewest-trains c).Joined-room-trains),
      table_put _ _ inv.1 (omega arith),
    )

pub loop-r-preserved : goal.loop-r-preserved
loop-r-preserved c =
    let a = c in
    let s = a in (
      stage_pass _ a.loop-r.invariant.0 (omega arith)
          (λ i p q h.
          let e : i ≡ a.loop-r.r - 1 = omega arith in
          omega (arith, ap ones e, h.enough, c.if-fewest-trains.false, mul_comm s.args.sizes.tracks s.args.j)),
      table_less _ a.loop-r.invariant.1 (omega arith),
    )
