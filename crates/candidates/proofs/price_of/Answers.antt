-- `candidates::price_of` meets its contract: the two counts by the tables, and what they weigh.
use mathlib.Core.Path.{ap₂, ◌∙◌}
use Prim.Native.Nat.{◌≤◌, ◌<◌, ◌+◌, ◌-◌, ◌*◌, ◌^◌}
use native.Mathlib.Omega.{arith}
use lib.Count.{ones}
use Rattle.sets.specs.Subset.{sub_le}
use Rattle.candidates.specs.Costs.{below_pow, parts, late_is, outside_is, light}
use Rattle.candidates.proofs.price_of.Goals as goal

pub boxes_from_outside-outside-requires : goal.boxes_from_outside-outside-requires
boxes_from_outside-outside-requires c =
    let a = c.args in
    let g = c.requires.0 in
    -- s and what it leaves are sets of the day's trains
    let inside : a.s ≤ a.rest = sub_le a.s a.rest c.requires.2 in
    let small : a.s < 2 ^ a.day.now.boxes.trains = below_pow a.day.now.boxes.trains a.s (omega (arith, inside, c.requires.1)) in
    (g.given, g.incoming_long, small, parts g a.s)

-- both counts are those of the model, and small
pub returns : goal.returns
returns c =
    let a = c.args in
    let g = c.requires.0 in
    -- s and what it leaves are sets of the day's trains
    let inside : a.s ≤ a.rest = sub_le a.s a.rest c.requires.2 in
    let small : a.s < 2 ^ a.day.now.boxes.trains = below_pow a.day.now.boxes.trains a.s (omega (arith, inside, c.requires.1)) in
    let small-rest : a.rest - a.s < 2 ^ a.day.now.boxes.trains = below_pow a.day.now.boxes.trains (a.rest - a.s) (omega (arith, c.requires.1)) in
    let few : ones a.s ≤ 4 = omega (arith, c.requires.3, g.few_tracks) in
    let late = c.late_trains-late.ensures.0 ∙ late_is g a.s (a.rest - a.s) small small-rest in
    let outside = c.boxes_from_outside-outside.ensures.0 ∙ outside_is g a.s in
    let few_late : c.late_trains-late.result ≤ 4 = omega (arith, few, c.late_trains-late.ensures.1) in
    let low = light g c.late_trains-late.result c.boxes_from_outside-outside.result few_late (omega (arith, few, c.boxes_from_outside-outside.ensures.1)) in
    (late, ap₂ (λ x v. a.day.now.sizes.revisit * x + a.day.now.sizes.split * v) late outside, few_late, omega (arith, low))
