use borrow.Author.Rules.{rules}
use Prim.Native.Nat.{◌+◌, ◌<◌, ◌/◌, ◌^◌}
use mathlib.Core.Path.{◌≡◌, sym, ap, ◌∙◌}
use mathlib.Core.Bool.{Bool, cond, true, false}
use borrow.Author.Tests.{eq-eqb, ne_eqb}
use Rattle.std.proofs.Common.{get_or, take, get_or-take, eqb, bit_and}
use Rattle.sets.specs.Mask.{has}
use Rattle.sets.specs.Rest.{bit_test}
use Rattle.plan_rows.specs.Row.{slot_at, slot_none, slot_next}
use Rattle.plan_rows.proofs.slot_in.Goals as goal
use Rattle.plan_rows.proofs.slot_in.Goals.{else-trains-i-ne1, then-trains-i-ne1}

pub loop-j-init : goal.loop-j-init
loop-j-init c = (search rules, sym (slot_none _ _))

pub loop-j-preserved : goal.loop-j-preserved
loop-j-preserved c =
    let l = c.loop-j in
    let a = c.args in
    let p = a.plan.now in
    let below : l.j < a.slots = search rules in
    -- the set that is read, and what its test says
    let set = get_or (take a.slots p.unserved) l.j 0 in
    let here : has (get_or p.unserved l.j 0) a.i ≡ eqb (bit_and (set / 2 ^ a.i) 1) 1 =
    sym (ap (λ x. has x a.i) (get_or-take a.slots p.unserved l.j 0 below)) ∙ sym (bit_test set a.i) in
    let asked : (b : Bool) → eqb (bit_and (set / 2 ^ a.i) 1) 1 ≡ b → slot_at p a.i (l.j + 1) ≡ cond b (slot_at p a.i l.j) (l.j + 1) =
    λ b e. slot_next p a.i l.j ∙ ap (λ v. cond v (slot_at p a.i l.j) (l.j + 1)) (here ∙ e) in
    elim c.if-trains-i-ne1.branch [
      | then-trains-i-ne1 w ↦ (search rules, w.slot-is ∙ sym (asked false (ne_eqb _ _ w.if-trains-i-ne1.true)))
      | else-trains-i-ne1 w ↦ (search rules, w.slot-is ∙ l.invariant.1 ∙ sym (asked true (eq-eqb _ _ w.if-trains-i-ne1.false)))
    ]
