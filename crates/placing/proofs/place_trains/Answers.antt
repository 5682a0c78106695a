-- `placing::place_trains` meets its contract. The value that stands for all trains decides: where there is one, the choices lead to the best
-- row; where there is none, no row is allowed.
use mathlib.Core.Path.{refl, sym, ap, ◌∙◌, subst}
use mathlib.Core.Option.{some}
use Prim.Native.Nat.{◌-◌, ◌≤◌, ◌<◌, ◌*◌}
use native.Mathlib.Omega.{arith}
use lib.ListN.{get_or}
use lib.Pow.{pow_pos}
use Rattle.day.specs.Sound.{day_limits, yard}
use Rattle.day.specs.SoundLaws.{sound_is}
use Rattle.staging.specs.Tables.{no_cost}
use Rattle.placing.specs.Placed.{leads, best-found, none_found}
use Rattle.placing.proofs.place_trains.Goals as goal
use Rattle.placing.proofs.place_trains.Goals.{Else-cost-all-ge-NONE, Start}

-- a value stands
found : (c : Else-cost-all-ge-NONE) → get_or c.solve_day.new.cost (c.args.size - 1) 0 < no_cost
found c = c.if-cost-all-ge-NONE.false

-- there is a set, and its word
some-set : (c : Start) → 1 ≤ c.args.size
some-set c = omega (arith, pow_pos c.args.day.trains, c.requires.1.0)

pub returns-then-cost-all-ge-NONE : goal.returns-then-cost-all-ge-NONE
returns-then-cost-all-ge-NONE c =
    let o = c in
    let pre = o.requires in
    let s = o.solve_day.ensures in
    record {
      nowhere = none_found (yard o.args.day) pre.0 pre.1.0 s c.if-cost-all-ge-NONE.true;
      same = refl;
      costs = s.kept.rest;
      choices = s.choices.kept.rest;
    }

pub trace-requires : goal.trace-requires
trace-requires c =
    let o = c in
    let a = o.args in
    let pre = o.requires in
    let h = sound_is day_limits (yard a.day) pre.0 in
    let long = subst (λ k. a.day.slots * a.size ≤ k) (sym o.solve_day.auto.choice) pre.1.1.1.0 in
    (pre.1.0, h.trains.1, h.slots.1, pre.1.1.1.1, long, leads (yard a.day) pre.0 pre.1.0 o.solve_day.ensures (found (goal.at.trace-requires c).Else-cost-all-ge-NONE))

pub returns : goal.returns
returns c =
    let traced = c in
    let o = traced in
    let pre = o.requires in
    let s = o.solve_day.ensures in
    let t = traced.trace.ensures in
    let b = best-found (yard o.args.day) pre.0 pre.1.0 s (found (goal.at.returns traced).Else-cost-all-ge-NONE) in
    record { best = b ∙ ap some (sym t.0); rest = t.1; costs = s.kept.rest; choices = s.choices.kept.rest }
