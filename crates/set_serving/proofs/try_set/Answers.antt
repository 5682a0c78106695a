-- `set_serving::try_set` meets its contract: at each return by a turn of specs/Turns.antt.
use mathlib.Core.Path.{sym, ◌∙◌, subst₂}
use Prim.Native.Nat.{◌+◌}
use Rattle.candidates.specs.Words.{LowPlan, WithSet}
use Rattle.gathering.specs.Each.{offered_each, offered_few}
use Rattle.set_serving.specs.Turns.{turn_later, turn_discarded, turn_offered}
use Rattle.set_serving.proofs.try_set.Goals as goal

pub returns-then-comes_too_late : goal.returns-then-comes_too_late
returns-then-comes_too_late c =
    let a = c.args in
    let z = a.day.now.sizes in
    -- the plan, at the model's price
    let words = subst₂ (λ late cost. WithSet a.j a.s late cost z.all a.plan.now c.with_set-x.result) c.requires.6.late_is c.requires.6.cost_is c.with_set-x.ensures.0 in
    let late = c.comes_too_late.ensures c.if-comes_too_late.true in (
      c.requires.5,
      λ d i right plan windows g.
          turn_later a.day.now d right a.j i a.s _ plan c.requires.2 c.requires.3 g c.requires.0.trains.few_slots z.all c.requires.0.trains.all_is c.with_set-x.result words
          late.0 c.requires.0.some_width late.1,
    )

pub returns-then-is_discarded : goal.returns-then-is_discarded
returns-then-is_discarded c =
    let a = c.args in (
      c.requires.5,
      λ d i right plan windows g.
          turn_discarded a.day.now d right a.j i a.s _ plan c.requires.2 c.requires.3 g (sym c.is_discarded.ensures ∙ c.if-is_discarded.true),
    )

pub returns : goal.returns
returns c =
    let a = c.args in
    let z = a.day.now.sizes in
    -- the plan, at the model's price
    let words = subst₂ (λ late cost. WithSet a.j a.s late cost z.all a.plan.now c.with_set-x.result) c.requires.6.late_is c.requires.6.cost_is c.with_set-x.ensures.0 in (
      record {
        few = offered_few c.requires.5.few c.offer.ensures;
        low = offered_each (LowPlan a.day.now.boxes.trains (a.j + 1)) c.requires.5.low c.with_set-x.ensures.1 c.offer.ensures;
      },
      λ d i right plan windows g.
          turn_offered a.day.now d right a.j i a.s _ plan c.requires.2 c.requires.3 g c.requires.0.trains.few_slots z.all c.requires.0.trains.all_is c.with_set-x.result words
          windows c.requires.4 (sym c.is_discarded.ensures ∙ c.if-is_discarded.false) c.offer.ensures,
    )
