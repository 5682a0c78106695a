use Prim.Native.Nat.{ℕ, suc, ◌+◌, ◌-◌, ◌^◌, ◌≤◌, ◌<◌, ◌*◌}
use mathlib.Core.Path.{refl, ap, ◌∙◌}
use native.Mathlib.Omega.{arith}
use lib.Bits.{bit_and, and_le_l}
use lib.Dec.{T}
use Rattle.sets.specs.Subset.{Sub, sub_le, sub_trans, sub_and, walk-sub}
use Rattle.sets.specs.Rest.{meet_left}
use Rattle.optimum.specs.Workspace.{at}
use Rattle.optimum.specs.Tried.{Tried}
use Rattle.optimum.proofs.Tried.{tried_take, tried_skip, tried_is, tried_next, tried_raise, tried_meet}
use Rattle.staging.specs.Tables.{Tables, keys_below, barred, no_cost, from_tables, cost_from_tables, set_key_from_tables}
use Rattle.cells.specs.Lent.{lent}
use Rattle.cells.specs.Laws.{may_serve_lem, serve_open, serve_priced, key_waits, found_low}
use Rattle.cells.proofs.cheapest.Goals as goal
use Rattle.cells.proofs.cheapest.Goals.{After-late_set-revisiting, After-slot_cost, At-loop-rest, Joined-splits-lt-BARRED, then-splits-lt-BARRED+then-after-lt-NONE+then-total-least+then-key-least, then-splits-lt-BARRED+then-after-lt-NONE+then-total-least+else-key-least, then-splits-lt-BARRED+then-after-lt-NONE+else-total-least, then-splits-lt-BARRED+else-after-lt-NONE, else-splits-lt-BARRED}

-- ---- what holds in a turn of the loop

abbrev given : At-loop-rest → Tables
given a = let z = a.args in lent z.tables.now

-- the trains of r whose windows hold the slot
abbrev ready : At-loop-rest → ℕ
ready a = bit_and a.args.r (at a.args.tables.now.opens.now a.args.j)

module _ (a : At-loop-rest) where
  in-r : a.loop-rest.s ≤ a.args.r
  in-r = omega (arith, sub_le a.loop-rest.s (ready a) a.loop-rest.invariant.0, and_le_l a.args.r (at a.args.tables.now.opens.now a.args.j))

  of-r : Sub a.loop-rest.s a.args.r
  of-r = sub_trans a.loop-rest.s (ready a) a.args.r a.loop-rest.invariant.0 (meet_left a.args.r (at a.args.tables.now.opens.now a.args.j))

  few-sets : a.args.r < 4096
  few-sets = omega (arith, a.requires.0.sets.1)

  -- the windows of s hold the slot: only its price decides whether it may be served
  may : at a.args.tables.now.price.now a.loop-rest.s < barred
      → T (from_tables (given a) (suc a.args.j) a.args.r a.loop-rest.s)
  may l =
      let z = a.args in
      let o = at z.tables.now.opens.now z.j in
      may_serve_lem (given a) z.j z.r a.loop-rest.s l (sub_trans a.loop-rest.s (ready a) o a.loop-rest.invariant.0 (sub_and z.r o))

  -- then its cost fits 32 bits
  fits : at a.args.tables.now.price.now a.loop-rest.s < barred
      → cost_from_tables (given a) (suc a.args.j) a.args.r a.loop-rest.s < 2 ^ 32
  fits l = a.requires.0.fits (suc a.args.j) a.args.r a.loop-rest.s (omega arith) of-r l

-- the trains that revisit are some of s
within : (c : After-late_set-revisiting) → c.late_set-revisiting.result ≤ c.loop-rest.s
within c =
    let z = c.args in
    omega (arith, c.late_set-revisiting.ensures, and_le_l c.loop-rest.s (at z.tables.now.need.now (z.r - c.loop-rest.s)))

-- what the slot costs, and what it leaves
module _ (c : After-slot_cost) where
  abbrev turn : At-loop-rest
  turn = (goal.at.After-slot_cost c).At-loop-rest

  cost_fits : c.slot_cost.result < 2 ^ 32
  cost_fits = omega (arith, c.slot_cost.ensures, ap (at c.args.tables.now.late.now) c.late_set-revisiting.ensures, fits turn c.if-splits-lt-BARRED.true)

  rest-low : at c.args.cost.now (c.args.r - c.loop-rest.s) ≤ 8 * keys_below
  rest-low = c.requires.1.low c.loop-rest.s (of-r turn) (may turn c.if-splits-lt-BARRED.true) c.if-after-lt-NONE.true

  few-revisit : at c.args.tables.now.count.now c.late_set-revisiting.result ≤ 12
  few-revisit =
      c.requires.0.few c.late_set-revisiting.result (omega (arith, within (goal.at.After-slot_cost c).After-late_set-revisiting, in-r turn))

-- s is tried: it is taken; or its cost with its revisits is no less; or its cost alone; or what it leaves has no schedule; or it is barred
tried : (c : Joined-splits-lt-BARRED)
    → let a = (goal.at.Joined-splits-lt-BARRED c).At-loop-rest in
    let z = c.args in
    Tried (from_tables (given a)) (set_key_from_tables (given a)) no_cost (at z.cost.now) (suc z.j) z.r (ready a) c.loop-rest.s c.if-splits-lt-BARRED.least c.if-splits-lt-BARRED.chosen
tried c =
    let a : At-loop-rest = (goal.at.Joined-splits-lt-BARRED c).At-loop-rest in
    let inv = a.loop-rest.invariant in
    let z = c.args in
    let late : ℕ → ℕ = at z.tables.now.late.now in
    let count : ℕ → ℕ = at z.tables.now.count.now in
    elim c.if-splits-lt-BARRED.branch [
      | then-splits-lt-BARRED+then-after-lt-NONE+then-total-least+then-key-least x ↦
          tried_is
          (tried_take _ inv.1 inv.0 (may a x.if-splits-lt-BARRED.true) x.if-after-lt-NONE.true (omega (arith, x.slot_cost.ensures, ap late x.late_set-revisiting.ensures, ap count x.late_set-revisiting.ensures)) x.if-key-least.true)
          x.least-is x.chosen-is
      | then-splits-lt-BARRED+then-after-lt-NONE+then-total-least+else-key-least x ↦
          tried_is (tried_skip inv.1 (λ o v. omega (arith, x.slot_cost.ensures, ap late x.late_set-revisiting.ensures, ap count x.late_set-revisiting.ensures, x.if-key-least.false))) x.least-is x.chosen-is
      | then-splits-lt-BARRED+then-after-lt-NONE+else-total-least x ↦
          tried_is (tried_skip inv.1 (λ o v. omega (arith, x.slot_cost.ensures, ap late x.late_set-revisiting.ensures, x.if-total-least.false))) x.least-is x.chosen-is
      | then-splits-lt-BARRED+else-after-lt-NONE x ↦
          tried_is (tried_skip inv.1 (λ o v. absurd (omega (arith, x.if-after-lt-NONE.false)))) x.least-is x.chosen-is
      | else-splits-lt-BARRED x ↦
          tried_is (tried_skip inv.1 (λ o v. absurd (omega (arith, serve_priced (given a) (suc z.j) z.r a.loop-rest.s o, x.if-splits-lt-BARRED.false)))) x.least-is x.chosen-is
    ]

-- what was found stays low with the trains that wait
raises : (c : Joined-splits-lt-BARRED) → let z = c.args in c.if-splits-lt-BARRED.least < no_cost → c.if-splits-lt-BARRED.least + at z.tables.now.count.now z.r < no_cost
raises c =
    let z = c.args in
    found_low c.requires.0 c.requires.1 (omega arith) (meet_left z.r (at z.tables.now.opens.now z.j)) (tried c)

-- ---- the goals

pub slot_cost-requires : goal.slot_cost-requires
slot_cost-requires c =
    let a : At-loop-rest = (goal.at.slot_cost-requires c).At-loop-rest in
    let w = within (goal.at.slot_cost-requires c).After-late_set-revisiting in (
      omega (arith, w, in-r a, few-sets a),
      omega (arith, w, in-r a, c.requires.0.lates),
      omega (arith, ap (at c.args.tables.now.late.now) c.late_set-revisiting.ensures, fits a c.if-splits-lt-BARRED.true),
    )

pub overflow_add-total : goal.overflow_add-total
overflow_add-total c = let d = (goal.at.overflow_add-total c).After-slot_cost in omega (arith, cost_fits d, rest-low d)

pub overflow_add-key : goal.overflow_add-key
overflow_add-key c = let d = (goal.at.overflow_add-key c).After-slot_cost in omega (arith, cost_fits d, rest-low d, few-revisit d)

pub with_waiting-requires : goal.with_waiting-requires
with_waiting-requires c = raises (goal.at.with_waiting-requires c).Joined-splits-lt-BARRED

pub returns-then-s-eq0 : goal.returns-then-s-eq0
returns-then-s-eq0 c =
    let end = (goal.at.returns-then-s-eq0 c).Joined-splits-lt-BARRED in
    let a : At-loop-rest = (goal.at.returns-then-s-eq0 c).At-loop-rest in
    let z = c.args in
    let (v, u) = tried_meet (at z.tables.now.opens.now z.j) (tried_raise (at z.tables.now.count.now z.r) (tried end) (λ u. key_waits (given a) (suc z.j) z.r u) (raises end))
    c.if-s-eq0.true refl (λ u k. serve_open (given a) z.j z.r u k) in
    (c.with_waiting.ensures ∙ v, u)

pub loop-rest-preserved : goal.loop-rest-preserved
loop-rest-preserved c =
    let end = (goal.at.loop-rest-preserved c).Joined-splits-lt-BARRED in
    (walk-sub c.loop-rest.s _, tried_next (tried end) c.loop-rest.invariant.0 (omega arith))
