-- `long_planning::find_row` meets its contract: what the search, the lower figure and the counting of a row say, put together.
use mathlib.Core.Path.{◌∙◌}
use Prim.Native.Nat.{◌≤◌}
use native.Mathlib.Omega.{arith}
use lib.ListN.{length, replicate}
use lib.Seq.{length-take-le}
use Rattle.day.specs.SoundLaws.{Sound, sound_is}
use Rattle.beam_tables.specs.Given.{Given}
use Rattle.lower_figure.specs.Figure.{figure_is}
use Rattle.long_day.specs.LongDay.{long_limits, long_yard}
use Rattle.long_planning.proofs.Laws.{says_plan}
use Rattle.long_planning.proofs.find_row.Goals as goal

pub all_trains-requires : goal.all_trains-requires
all_trains-requires c = (sound_is long_limits (long_yard c.args.day) c.requires.0.is_sound).trains.1

pub beam_search-full-requires : goal.beam_search-full-requires
beam_search-full-requires c =
    let s = c.args in
    let is : Sound long_limits (long_yard s.day) = sound_is long_limits (long_yard s.day) c.requires.0.is_sound in
    let table : Given s.day.trains 36 s.day.boxes = record { few = is.trains.1; narrow = is.trains.1; whole = omega (arith, is.shape.boxes) } in
    record {
      trains = record { given = table; first_long = omega (arith, is.shape.first, is.trains.1); last_long = omega (arith, is.shape.last, is.trains.1) };
      all_is = c.all_trains.ensures;
      few_tracks = is.tracks.1;
      few_slots = is.slots.1;
      light_revisit = is.weights.0;
      light_split = is.weights.1;
      some_width = c.requires.0.some_width_lem;
      few_width = c.requires.0.few_width_lem;
      row_long = c.requires.0.long;
    }

pub value_slots-requires : goal.value_slots-requires
value_slots-requires c =
    let s = c.args in
    let is : Sound long_limits (long_yard s.day) = sound_is long_limits (long_yard s.day) c.requires.0.is_sound in
    let table : Given s.day.trains 36 s.day.boxes = record { few = is.trains.1; narrow = is.trains.1; whole = omega (arith, is.shape.boxes) } in
    -- the row is still as long
    let long : s.day.trains ≤ length c.beam_search-full.new.row = omega (arith, c.beam_search-full.ensures.behind.long, c.requires.0.long) in
    record { few = omega (arith, table.few); narrow = table.narrow; whole = table.whole; long = omega (arith, length-take-le s.day.trains c.beam_search-full.new.row long) }

pub lower_figure-requires : goal.lower_figure-requires
lower_figure-requires c =
    let s = c.args in
    let is : Sound long_limits (long_yard s.day) = sound_is long_limits (long_yard s.day) c.requires.0.is_sound in
    let table : Given s.day.trains 36 s.day.boxes = record { few = is.trains.1; narrow = is.trains.1; whole = omega (arith, is.shape.boxes) } in (
      record { given = table; first_long = omega (arith, is.shape.first, is.trains.1); last_long = omega (arith, is.shape.last, is.trains.1) },
      is.tracks.0,
      is.tracks.1,
      omega (arith, is.weights),
      omega (arith, is.weights),
    )

pub returns : goal.returns
returns c =
    let s = c.args in
    let is : Sound long_limits (long_yard s.day) = sound_is long_limits (long_yard s.day) c.requires.0.is_sound in
    -- the row is still as long
    let long : s.day.trains ≤ length c.beam_search-full.new.row = omega (arith, c.beam_search-full.ensures.behind.long, c.requires.0.long) in
    let y = long_yard s.day in
    let found = c.beam_search-full.ensures.found (record { numbers = s.day.numbers; groups = replicate 36 0 }) is.windows c.requires.1 in
    let counted = c.value_slots.ensures in
    let lower = c.lower_figure.ensures ∙ figure_is y in
    says_plan y s.width s.row.now c.beam_search-full.new.row _ found.0 c.beam_search-full.ensures.behind.rest long
    (λ i. record { row = counted i; full = found.1 i; lower = lower i })
