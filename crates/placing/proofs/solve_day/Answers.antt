-- `placing::solve_day` meets its contract. The filled tables are those of the day (staging's `DayTables`), so solving them solves the day
-- (`solved_day`).
use mathlib.Core.Path.{◌≡◌, sym, ap, ◌∙◌, subst}
use mathlib.Core.Bool.{cond}
use Prim.Native.Nat.{ℕ, ◌*◌, ◌^◌, ◌≤◌, ◌<◌}
use native.Mathlib.Nat.{pow-le-pow_right}
use native.Mathlib.Omega.{arith}
use lib.Count.{ones, ones-le}
use lib.Dec.{leb, lit≤}
use lib.Pow.{pow_pos}
use Rattle.day.specs.Sound.{day_limits, yard}
use Rattle.day.specs.SoundLaws.{Sound, sound_is}
use Rattle.day.specs.Most.{cost-most}
use Rattle.model.specs.Model.{received}
use Rattle.staging.specs.Tables.{from_outside, together, Tables, tables_of, barred}
use Rattle.staging.specs.SlotInRow.{row_around}
use Rattle.staging.proofs.SlotInRow.{split_in_row}
use Rattle.staging.specs.FromTables.{DayTables}
use Rattle.staging.proofs.FromTables.{room_enough, unbarred_cheap, solved_day}
use Rattle.barring.specs.Laws.{barred_twice}
use Rattle.placing.proofs.solve_day.Goals as goal
use Rattle.placing.proofs.solve_day.Goals.{After-fill_open, Start}

-- ---- what holds there

-- what a sound day says
least : (c : Start) → Sound day_limits (yard c.args.day.now)
least c = sound_is day_limits (yard c.args.day.now) c.requires.0

-- at most 4,096 sets
small : (c : Start) → c.args.size ≤ 4096
small c =
    let most : 2 ^ c.args.day.now.trains ≤ 2 ^ 12 = pow-le-pow_right (lit≤ tt) (least c).trains.1 in
    omega (arith, most, c.requires.1.0)

sets : (c : Start) → 2 ^ c.args.day.now.trains ≤ 4096
sets c = subst (λ k. k ≤ 4096) c.requires.1.0 (small c)

-- the filled tables, and that they are the day's
abbrev filled : After-fill_open → Tables
filled f =
    let v = f in
    let k = v in
    tables_of k.fill_needing.new.need v.fill_late.new.late f.bar_groups.new.price k.fill_count.new.count f.fill_open.new.opens

day-tables : (f : After-fill_open) → DayTables (yard f.args.day.now) (filled f)
day-tables f =
    let y = yard f.args.day.now in
    let below : (m : ℕ) → m < 2 ^ y.trains → m < f.args.size = λ m h. omega (arith, f.requires.1.0) in
    let p = f in
    let v = p in
    let k = v in
    record {
      needs = k.fill_needing.ensures.all;
      counts = k.fill_count.ensures.all;
      lates = λ m h. v.fill_late.ensures.all m (below m h) ∙ ap (λ x. y.revisit * x) (k.fill_count.ensures.all m h);
      prices = λ m h.
          f.bar_groups.ensures.all m (below m h)
          ∙ ap (λ x. cond (together y.trains y.groups m) x barred) (p.fill_price.ensures.all m (below m h))
          ∙ barred_twice (leb (ones m) y.tracks) (together y.trains y.groups m) (y.split * from_outside y.trains (received y) m);
      windows = f.fill_open.ensures.all;
      cheap = λ row. omega (arith, cost-most (yard f.args.day.now) row f.requires.0);
    }

pub fill_needing-requires : goal.fill_needing-requires
fill_needing-requires c =
    let s = (goal.at.fill_needing-requires c).Start in
    let few = (least s).trains.1 in
    (record { few = few; narrow = few; whole = omega (arith, (least s).shape.boxes) }, sets s)

pub fill_count-requires : goal.fill_count-requires
fill_count-requires c = let s = c in ((least (goal.at.fill_count-requires s).Start).trains.1, sets (goal.at.fill_count-requires s).Start)

pub fill_late-requires : goal.fill_late-requires
fill_late-requires c =
    let s = c in
    ((least (goal.at.fill_late-requires s).Start).weights.0, small (goal.at.fill_late-requires s).Start, small (goal.at.fill_late-requires s).Start, subst (λ k. s.args.size ≤ k) (sym c.fill_count.auto.count) (small (goal.at.fill_late-requires s).Start))

pub fill_price-requires : goal.fill_price-requires
fill_price-requires c =
    let s = (goal.at.fill_price-requires c).Start in
    let y = yard c.args.day.now in
    let few = (least s).trains.1 in (
      record { few = few; narrow = few; whole = omega (arith, (least s).shape.boxes) },
      c.requires.1.0,
      small s,
      λ x l. omega (arith, split_in_row y x (omega (arith, c.requires.1.0)), cost-most y (row_around y.trains x x) c.requires.0),
    )

pub bar_groups-requires : goal.bar_groups-requires
bar_groups-requires c =
    let s = c in
    ((least (goal.at.bar_groups-requires s).Start).trains.1, (omega (arith, (least (goal.at.bar_groups-requires s).Start).shape.groups, (least (goal.at.bar_groups-requires s).Start).trains.1), (s.requires.1.0, (small (goal.at.bar_groups-requires s).Start, subst (λ k. s.args.size ≤ k) (sym c.fill_price.auto.price) (small (goal.at.bar_groups-requires s).Start)))))

pub fill_open-requires : goal.fill_open-requires
fill_open-requires c =
    let s = c in
    let n : s.args.day.now.trains ≤ 12 = (least (goal.at.fill_open-requires s).Start).trains.1 in
    let t : s.args.day.now.slots ≤ 8 = (least (goal.at.fill_open-requires s).Start).slots.1 in
    (n, omega (arith, (least (goal.at.fill_open-requires s).Start).shape.first, n), omega (arith, (least (goal.at.fill_open-requires s).Start).shape.last, n), omega arith, t)

pub solve-requires : goal.solve-requires
solve-requires c =
    let s = (goal.at.solve-requires c).Start in
    let f = (goal.at.solve-requires c).After-fill_open in
    let long : (k : ℕ) → k ≡ 4096 → c.args.size ≤ k = λ k e. omega (arith, small s) in
    record {
      tables = record {
        sets = (omega (arith, pow_pos c.args.day.now.trains, c.requires.1.0), small s);
        stages = (least s).slots;
        needs = long _ c.fill_needing.auto.need;
        lates = long _ c.fill_late.auto.late;
        prices = long _ (c.bar_groups.auto.price ∙ c.fill_price.auto.price);
        counts = long _ c.fill_count.auto.count;
        opened = subst (λ k. c.args.day.now.slots ≤ k) (sym c.fill_open.auto.opens) (least s).slots.1;
        few = λ m l. omega (arith, (day-tables f).counts m (omega (arith, c.requires.1.0)), ones-le 12 m (omega (arith, small s)));
        fits = λ t r x l hx m. omega (arith, unbarred_cheap (day-tables f) t r x (omega (arith, c.requires.1.0)) hx m);
      };
      room = record { few = (least s).tracks.1; enough = λ m h. room_enough (day-tables f) m (omega (arith, c.requires.1.0)) };
      costs = c.requires.1.1.0;
      choices = c.requires.1.1.1;
    }

pub returns : goal.returns
returns c =
    let solved = c in
    let f = solved in
    solved_day (day-tables (goal.at.returns f).After-fill_open) f.requires.1.0 solved.solve.ensures
