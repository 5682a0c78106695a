-- `planning::plan_sound` meets its contract. Either an interval is overbooked, and no row is allowed; or none is, and the trains are placed or
-- no row is allowed.
use mathlib.Core.Path.{◌≡◌, refl, sym, ap, ◌∙◌, subst}
use mathlib.Core.List.{[], ◌∷◌}
use mathlib.Core.Option.{none}
use Prim.Native.Nat.{◌≤◌}
use native.Mathlib.Omega.{arith}
use lib.ListN.{length}
use lib.Seq.{length-take-le}
use Rattle.model.specs.Overbooked.{first_overbooked}
use Rattle.day.specs.Answer.{refuses}
use Rattle.day.specs.Sound.{day_limits, yard}
use Rattle.day.specs.SoundLaws.{Sound, sound_is}
use Rattle.feasibility.specs.Search.{Finds}
use Rattle.feasibility.proofs.Search.{finds_day}
use Rattle.placing.specs.Placed.{is_unplaced}
use Rattle.planning.proofs.Laws.{says_nine, says_sixteen}
use Rattle.planning.proofs.plan_sound.Goals as goal
use Rattle.planning.proofs.plan_sound.Goals.{After-place_trains, Start}

-- ---- what holds there

-- what a sound day says
least : (c : Start) → Sound day_limits (yard c.args.day)
least c = sound_is day_limits (yard c.args.day) c.requires.0

-- the row is still as long
long : (c : After-place_trains) → c.args.day.trains ≤ length c.place_trains.new.row
long c = subst (λ k. c.args.day.trains ≤ k) (sym c.place_trains.auto.row) c.requires.1.1.1.1

-- no interval is overbooked
spacious : (c : After-place_trains) → first_overbooked (yard c.args.day) ≡ none
spacious c =
    let y = yard c.args.day in
    subst (Finds y) c.in_default.is (finds_day y c.first_overbooked-found.result c.first_overbooked-found.ensures)

pub first_overbooked-found-requires : goal.first_overbooked-found-requires
first_overbooked-found-requires c =
    let h = least (goal.at.first_overbooked-found-requires c).Start in
    (omega (arith, h.shape.first, h.trains.1), omega (arith, h.shape.last, h.trains.1))

pub returns-in-Some : goal.returns-in-Some
returns-in-Some c =
    let a = c.args in
    let y = yard a.day in
    let x = c.in-Some.field-0 in
    let f = subst (Finds y) c.in-Some.is (finds_day y c.first_overbooked-found.result c.first_overbooked-found.ensures) in
    let s = says_nine y (record { first = x.first; last = x.last }) a.row.now f.0 in
    record { says = ap (λ k. refuses 9 (x.first ∷ x.last ∷ k ∷ [])) f.1 ∙ s.0; row_is = s.1; costs = refl; choices = refl }

pub returns-then-not-place_trains : goal.returns-then-not-place_trains
returns-then-not-place_trains c =
    let p = c in
    let a = p.args in
    let h = is_unplaced p.place_trains.result p.place_trains.ensures (c.if-not-place_trains.true) in
    let s = says_sixteen (yard a.day) a.row.now (spacious (goal.at.returns-then-not-place_trains p).After-place_trains) h.nowhere in
    record { says = s.0; row_is = h.same ∙ s.1; costs = h.costs; choices = h.choices }

pub value_slots-requires : goal.value_slots-requires
value_slots-requires c =
    let p = c in
    let n = p.args.day.trains in
    let few : n ≤ 12 = (least (goal.at.value_slots-requires p).Start).trains.1 in
    let whole : length p.args.day.boxes ≡ 144 = (least (goal.at.value_slots-requires p).Start).shape.boxes in
    let taken = length-take-le n p.place_trains.new.row (long (goal.at.value_slots-requires p).After-place_trains) in
    record { few = omega arith; narrow = few; whole = omega arith; long = omega (arith, taken) }
