-- `set_serving::serve_set` meets its contract: the set costs too much, or it is tried at its price.
use mathlib.Core.Path.{subst}
use Prim.Native.Nat.{◌<◌, ◌+◌, ◌-◌}
use Rattle.held_plans.specs.Words.{plan_at}
use Rattle.set_serving.specs.Turns.{turn_dearer}
use Rattle.set_serving.proofs.serve_set.Goals as goal

pub returns-then-is_dearer : goal.returns-then-is_dearer
returns-then-is_dearer c =
    let a = c.args in
    let dearer = c.is_dearer.ensures c.if-is_dearer.true in (
      c.requires.5,
      λ d i right plan windows g.
          turn_dearer a.day.now d right a.j i a.s _ plan c.requires.2 c.requires.3 g dearer.0 c.requires.0.some_width
          (subst (λ v. (plan_at a.next.now.plans (a.next.now.count - 1)).cost < a.plan.now.cost + v) c.price_of-price.ensures.1 dearer.1),
    )
