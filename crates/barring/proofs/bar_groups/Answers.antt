use Rattle.std.proofs.Common.{ℕ, ◌+◌, ◌<◌, List, cond, sym, ◌∙◌, subst, arith}
use Rattle.std.proofs.lemmas.List.{length-take-le, get_or-take}
use Rattle.optimum.specs.Workspace.{at}
use Rattle.staging.specs.Tables.{barred}
use Rattle.tables.specs.Filled.{Filled}
use Rattle.barring.specs.Laws.{whole, barred_none, barred-next, barred_skip, barred_all}
use Rattle.barring.proofs.bar_groups.Goals as goal
use Rattle.barring.proofs.bar_groups.Goals.{else-group-ne0, then-group-ne0}

pub loop-i-init : goal.loop-i-init
loop-i-init c = let a = c.args in barred_none a.n a.groups.now a.size a.price.now

pub loop-i-preserved : goal.loop-i-preserved
loop-i-preserved c =
    let a = c.args in
    let i : ℕ = c.loop-i.i in
    let inside : i < a.n = omega (arith, length-take-le a.n a.groups.now c.requires.1.0) in
    let Barred : List ℕ → Type 0 = λ p. Filled (λ s. cond (whole (i + 1) a.n a.groups.now s) (at a.price.now s) barred) a.size a.price.now p in
    elim c.if-group-ne0.branch [
      | then-group-ne0 w ↦ subst Barred (sym w.price-is) (barred-next a.n a.groups.now i c.loop-i.invariant w.members_of.result w.members_of.ensures w.bar_parted.ensures)
      | else-group-ne0 w ↦
          subst Barred (sym w.price-is)
          (barred_skip a.n a.groups.now i c.loop-i.invariant (sym (get_or-take a.n a.groups.now i 0 inside) ∙ w.if-group-ne0.false))
    ]

pub returns : goal.returns
returns c =
    let a = c.args in
    barred_all a.n a.groups.now c.requires.1.1.0
    (subst (λ k. Filled (λ s. cond (whole k a.n a.groups.now s) (at a.price.now s) barred) a.size a.price.now c.loop-i.price)
    (omega (arith, length-take-le a.n a.groups.now c.requires.1.0)) c.loop-i.invariant)
