-- `cells::whole` meets its contract. The code's test is that of the tables, so r is the only set that the last slot can serve, or none is.
use Prim.Native.Nat.{suc, ◌+◌, ◌*◌, ◌≤◌, ◌<◌}
use mathlib.Core.Path.{◌≡◌, ap, ◌∙◌, subst}
use native.Mathlib.Omega.{arith}
use lib.Bits.{and_le_l}
use lib.Dec.{T}
use Rattle.fold.specs.Test.{of_true}
use Rattle.optimum.proofs.Direct.{last_none}
use Rattle.optimum.specs.Workspace.{at}
use Rattle.staging.specs.Tables.{Tables, keys_below, no_cost, from_tables, key_from_tables}
use Rattle.cells.specs.Lent.{lent}
use Rattle.cells.specs.Laws.{test_reads, whole_fits, whole_key, whole_low, whole-cell}
use Rattle.cells.proofs.whole.Goals as goal
use Rattle.cells.proofs.whole.Goals.{After-late_set-revisiting, After-slot_cost, Start, Then-splits-r}

-- ---- what holds there

abbrev given : Start → Tables
given s = lent s.args.tables.now

may : (c : Then-splits-r) → T (from_tables (given (goal.at.Then-splits-r c).Start) (suc c.args.j) c.args.r c.args.r)
may c =
    let z = c.args in
    of_true (test_reads (given (goal.at.Then-splits-r c).Start) z.j z.r z.r ∙ c.if-splits-r.true)

-- the trains that revisit are some of r
within : (c : After-late_set-revisiting) → c.late_set-revisiting.result ≤ c.args.r
within c =
    let z = c.args in
    omega (arith, c.late_set-revisiting.ensures, and_le_l z.r (at z.tables.now.need.now 0))

module _ (c : After-slot_cost) where
  few-revisit : at c.args.tables.now.count.now c.late_set-revisiting.result ≤ 12
  few-revisit = c.requires.few c.late_set-revisiting.result (omega (arith, within (goal.at.After-slot_cost c).After-late_set-revisiting))

  few-wait : at c.args.tables.now.count.now c.args.r ≤ 12
  few-wait = c.requires.few c.args.r (omega arith)

  -- the key that the code sums up
  key-is : c.slot_cost.result * 2048 + at c.args.tables.now.count.now c.late_set-revisiting.result * 128 + at c.args.tables.now.count.now c.args.r
      ≡ whole_key c.requires c.args.j c.args.r (omega arith) (may (goal.at.After-slot_cost c).Then-splits-r)
  key-is =
      let z = c.args in
      let same = c.late_set-revisiting.ensures in
      omega (arith, c.slot_cost.ensures, ap (at z.tables.now.late.now) same, ap (at z.tables.now.count.now) same)

  key_low : whole_key c.requires c.args.j c.args.r (omega arith) (may (goal.at.After-slot_cost c).Then-splits-r) < keys_below
  key_low = whole_low c.requires c.args.j c.args.r (omega arith) (may (goal.at.After-slot_cost c).Then-splits-r)

-- ---- the goals

pub slot_cost-requires : goal.slot_cost-requires
slot_cost-requires c =
    let z = c.args in
    let w = within (goal.at.slot_cost-requires c).After-late_set-revisiting in (
      omega (arith, w, c.requires.sets.1),
      omega (arith, w, c.requires.lates),
      omega (arith, ap (at z.tables.now.late.now) c.late_set-revisiting.ensures, whole_fits c.requires z.j z.r (omega arith) (may (goal.at.slot_cost-requires c).Then-splits-r)),
    )

pub returns-then-splits-r : goal.returns-then-splits-r
returns-then-splits-r c =
    let o = (goal.at.returns-then-splits-r c).After-slot_cost in
    let (v, u) = whole-cell c.requires c.args.j c.args.r (omega arith) (may (goal.at.returns-then-splits-r c).Then-splits-r) in
    (key-is o ∙ v, u)

pub returns : goal.returns
returns c =
    let s : Start = (goal.at.returns c).Start in
    let z = c.args in
    last_none (from_tables (given s)) (key_from_tables (given s)) no_cost (suc z.j) z.r
    (λ m. subst T (test_reads (given s) z.j z.r z.r ∙ c.if-splits-r.false) m)
