-- Each return is one of the laws `begun..` of specs/Laws.antt, from the checks passed before it.
use Rattle.std.proofs.Common.{refl, sym, ◌∙◌}
use Rattle.fold.specs.Test.{of_true}
use Rattle.day.specs.Sound.{yard}
use Rattle.rolling.specs.Follows.{begun-standing}
use Rattle.replanning.specs.Laws.{begun_unsound, begun_short, begun-planned}
use Rattle.replanning.proofs.begun_state.Goals as goal

pub returns-then-not-is_sound : goal.returns-then-not-is_sound
returns-then-not-is_sound c =
    let e = begun_unsound (yard c.args.day) _ _ (sym c.if-not-is_sound.ensures) in
    record { said = e.0; costs = rw e.1 refl; choices = rw e.1 refl }

pub returns-then-not-are_areas_enough : goal.returns-then-not-are_areas_enough
returns-then-not-are_areas_enough c =
    let e = begun_short (yard c.args.day) _ _ (sym c.if-not-is_sound.ensures) (sym c.if-not-are_areas_enough.ensures) in
    record { said = e.0; costs = rw e.1 refl; choices = rw e.1 refl }

pub replan-requires : goal.replan-requires
replan-requires c = (begun-standing _ (yard c.args.day) (of_true (sym c.if-not-is_sound.ensures)), of_true (sym c.if-not-are_areas_enough.ensures))

pub returns : goal.returns
returns c =
    let made = c.replan.ensures in
    let e = begun-planned (yard c.args.day) _ _ (sym c.if-not-is_sound.ensures) (sym c.if-not-are_areas_enough.ensures) in
    record { said = made.said ∙ e.0; costs = rw e.1 made.costs; choices = rw e.1 made.choices }
