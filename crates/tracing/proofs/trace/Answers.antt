use Prim.Native.Nat.{ℕ, suc, ◌+◌, ◌-◌, ◌*◌, ◌≤◌, ◌<◌}
use mathlib.Core.Path.{◌≡◌, refl, sym, ap, subst}
use mathlib.Core.List.{List}
use native.Mathlib.Nat.{mul-le-mul}
use native.Mathlib.Omega.{arith}
use lib.Arith.{digits_lt}
use lib.ListN.{length}
use lib.Pow.{pow_mono}
use Rattle.optimum.specs.Workspace.{at}
use Rattle.optimum.specs.Rows.{stage_set}
use Rattle.optimum.specs.Chosen.{row_in}
use Rattle.optimum.specs.Trace.{Tracing}
use Rattle.optimum.proofs.Trace.{traced_start, traced_lt, traced_chosen, traced_le, traced_end}
use Rattle.optimum.proofs.Trace.{tracing_put, tracing_skip, tracing_end}
use Rattle.tracing.proofs.trace.Goals as goal
use Rattle.tracing.proofs.trace.Goals.{At-loop-p, In-loop-j, Start, else-s-p-eq1, then-s-p-eq1}

-- the row that is to be written
abbrev best : Start → List ℕ
best s = row_in s.args.choice.now s.args.n s.args.slots s.args.size

module _ (c : In-loop-j) where
  -- the word that is read is one of the choices
  place : c.loop-j.j * c.args.size + c.loop-j.r < c.args.slots * c.args.size
  place = digits_lt c.loop-j-test.true (omega (arith, traced_lt c.loop-j.invariant.1, c.requires.0))

  below : c.args.slots * c.args.size ≤ 32768
  below =
      let p : c.args.size ≤ 4096 = omega (arith, pow_mono c.requires.1, c.requires.0) in
      mul-le-mul c.requires.2 p

  chosen : at c.args.choice.now (c.loop-j.j * c.args.size + c.loop-j.r)
      ≡ stage_set c.args.n (best (goal.at.In-loop-j c).Start) (suc c.loop-j.j)
  chosen = traced_chosen c.loop-j.invariant.1 c.requires.5 c.loop-j-test.true

-- the row is as long as it was
row_long : (c : At-loop-p) → c.args.n ≤ length c.loop-p.row
row_long c = omega (arith, c.loop-p.invariant.1.kept.long, c.loop-j.invariant.1.kept.long, c.requires.3)

pub loop-j-init : goal.loop-j-init
loop-j-init c = (omega arith, traced_start _ c.args.row.now c.requires.5 (ap (λ x. x - 1) c.requires.0))

pub overflow_add-s : goal.overflow_add-s
overflow_add-s c = omega (arith, place (goal.at.overflow_add-s c).In-loop-j, below (goal.at.overflow_add-s c).In-loop-j)

pub offset_bounds-choice-j : goal.offset_bounds-choice-j
offset_bounds-choice-j c = omega (arith, place (goal.at.offset_bounds-choice-j c).In-loop-j, below (goal.at.offset_bounds-choice-j c).In-loop-j)

pub bounds-choice-j : goal.bounds-choice-j
bounds-choice-j c = omega (arith, place (goal.at.bounds-choice-j c).In-loop-j, c.requires.4)

pub loop-p-preserved : goal.loop-p-preserved
loop-p-preserved c =
    let o = c in
    let l = c.loop-p in
    let s = chosen (goal.at.loop-p-preserved c).In-loop-j in
    let upto : List ℕ → Type 0 = Tracing o.args.n o.loop-j.j (l.p + 1) (best (goal.at.loop-p-preserved o).Start) o.loop-j.row in
    let p = c.loop-p-test.true in (
      omega arith,
      elim c.if-s-p-eq1.branch [ then-s-p-eq1 x ↦ subst upto (sym x.row-is) (tracing_put _ (o.loop-j.j + 1) l.invariant.1 s p (row_long (goal.at.loop-p-preserved c).At-loop-p) x.if-s-p-eq1.true refl) | else-s-p-eq1 x ↦ subst upto (sym x.row-is) (tracing_skip _ l.invariant.1 s p x.if-s-p-eq1.false) ],
    )

pub overflow_sub-r-in-loop-j : goal.overflow_sub-r-in-loop-j
overflow_sub-r-in-loop-j c = traced_le c.loop-j.invariant.1 _ (chosen (goal.at.overflow_sub-r-in-loop-j c).In-loop-j)

pub loop-j-preserved : goal.loop-j-preserved
loop-j-preserved c = (
  omega (arith, c.loop-j-test.true),
  tracing_end c.loop-j.invariant.1 _ c.loop-p.invariant.1 (omega arith) (chosen (goal.at.loop-j-preserved c).In-loop-j),
)

pub returns : goal.returns
returns c = (
  traced_end c.requires.5 c.loop-j.invariant.1 c.loop-j-test.false
      (omega (arith, c.loop-j.invariant.1.kept.long, c.requires.3)),
  c.loop-j.invariant.1.kept.rest,
)
