-- `long_planning::plan_sound` meets its contract: an interval is overbooked, and the search finds no row; or none is, and its row is found.
use mathlib.Core.Path.{ap, ◌∙◌}
use mathlib.Core.List.{[], ◌∷◌}
use native.Mathlib.Omega.{arith}
use Rattle.day.specs.Answer.{refuses}
use Rattle.day.specs.SoundLaws.{Sound, sound_is}
use Rattle.std.specs.Prelude.{None, Some}
use Rattle.feasibility.proofs.Search.{finds_day}
use Rattle.long_day.specs.LongDay.{long_limits, long_yard}
use Rattle.long_planning.proofs.Laws.{says_nine}
use Rattle.long_planning.proofs.plan_sound.Goals as goal

pub first_overbooked-found-requires : goal.first_overbooked-found-requires
first_overbooked-found-requires c =
    let s = c.args in
    let is : Sound long_limits (long_yard s.day) = sound_is long_limits (long_yard s.day) c.requires.is_sound in
    (omega (arith, is.shape.first, is.trains.1), omega (arith, is.shape.last, is.trains.1))

pub returns-in-Some : goal.returns-in-Some
returns-in-Some c =
    let s = c.args in
    let is : Sound long_limits (long_yard s.day) = sound_is long_limits (long_yard s.day) c.requires.is_sound in
    let y = long_yard s.day in
    let x = c.in-Some.field-0 in
    let f = finds_day y (Some x) c.in-Some.ensures in
    let n = says_nine y s.width (record { first = x.first; last = x.last }) s.row.now is.windows c.requires.some_width_lem f.0 in
    record { says = ap (λ k. refuses 9 (x.first ∷ x.last ∷ k ∷ [])) f.1 ∙ n.says; row_is = n.row_is }

pub find_row-requires : goal.find_row-requires
find_row-requires c = (c.requires, finds_day (long_yard c.args.day) None c.in_default.ensures)
