use borrow.Author.Rules.{rules}
use native.Mathlib.Omega.{arith}
use Prim.Native.Nat.{◌+◌, ◌*◌, ◌≤◌}
use mathlib.Core.Path.{◌≡◌, refl, sym, ap, ap₂, ◌∙◌}
use mathlib.Core.Bool.{Bool, true, false}
use mir.Val.{bool_byte}
use Rattle.fold.specs.Fold.{bit, sum, count, count_none, count_next, sum_none, sum-next, at_end}
use Rattle.model.specs.Model.{weighed}
use Rattle.beam_tables.specs.Given.{received}
use Rattle.lower_figure.specs.Figure.{sure_revisit, sure_split, figure_of}
use Rattle.lower_figure.proofs.lower_figure.Goals as goal

-- a flag as a number
bit_is : (b : Bool) → bool_byte b ≡ bit b
bit_is true = refl
bit_is false = refl

bit_le : (b : Bool) → bit b ≤ 1
bit_le true = omega arith
bit_le false = omega arith

pub loop-i-init : goal.loop-i-init
loop-i-init c = (search rules, sym (count_none _), sym (sum_none _), search rules, search rules)

pub loop-i-preserved : goal.loop-i-preserved
loop-i-preserved c =
    let l = c.loop-i in
    let d = c.args.day.now in
    let n = d.boxes.trains in
    let revisit = c.from-revisits.ensures ∙ bit_is _ in
    let more = count_next l.i (sure_revisit n (received d.boxes) d.first.now d.last.now) in
    let sums = sum-next l.i (sure_split n c.args.tracks (received d.boxes)) in
    let e = c.surely_split-splits.ensures in (
      search rules,
      omega (arith, l.invariant.1, revisit, ap bit c.surely_revisits.ensures, more),
      omega (arith, l.invariant.2, e.0, sums),
      omega (arith, l.invariant.3, revisit, bit_le c.surely_revisits.result),
      omega (arith, l.invariant.4, e.1),
    )

pub returns : goal.returns
unfolding figure_of weighed
returns c =
    let a = c.args in
    let d = a.day.now in
    let n = d.boxes.trains in
    let l = c.loop-i in
    let revisits = l.invariant.1 ∙ at_end (λ k. count k (sure_revisit n (received d.boxes) d.first.now d.last.now)) l.i n l.invariant.0 c.loop-i-test.false in
    let splits = l.invariant.2 ∙ at_end (λ k. sum k (sure_split n a.tracks (received d.boxes))) l.i n l.invariant.0 c.loop-i-test.false in
    ap₂ (λ x y. a.revisit * x + a.split * y) revisits splits
