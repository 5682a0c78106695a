-- `planning::plan` meets its contract. Each answer by the laws `left-…` of specs/Laws.antt.
use mathlib.Core.Path.{◌≡◌, sym, ◌∙◌, subst}
use mathlib.Core.Bool.{true, false, ◌&&◌}
use Prim.Native.Nat.{◌*◌}
use lib.Dec.{leb}
use lib.ListN.{length}
use Rattle.fold.specs.Test.{of_true}
use Rattle.day.specs.Sound.{day_limits, yard, sound}
use Rattle.day.specs.SoundLaws.{sound_is}
use Rattle.planning.proofs.Laws.{left_unsound, left_short, left_best}
use Rattle.planning.proofs.plan.Goals as goal
use Rattle.planning.proofs.plan.Goals.{Else-not-are_enough, Else-not-is_sound}

-- ---- what holds there

good : (c : Else-not-is_sound) → sound day_limits (yard c.args.day) ≡ true
good c = sym c.is_sound.ensures ∙ c.if-not-is_sound.false

enough : (c : Else-not-are_enough)
    → let a = c.args in
    let size = c.count_sets-size.result in
    (leb size (length a.cost.now) && leb (a.day.slots * size) (length a.choice.now) && leb a.day.trains (length a.row.now)) ≡ true
enough c = sym c.are_enough.ensures ∙ c.if-not-are_enough.false

pub returns-then-not-is_sound : goal.returns-then-not-is_sound
returns-then-not-is_sound c =
    let a = c.args in
    let h = left_unsound day_limits (yard a.day) a.cost.now a.choice.now a.row.now (sym c.is_sound.ensures ∙ c.if-not-is_sound.true) in
    record { result_value = h.says; row_after = h.row_is; stays = h.costs; stays_2 = h.choices }

pub count_sets-size-requires : goal.count_sets-size-requires
count_sets-size-requires c = (sound_is day_limits (yard c.args.day) (of_true (good (goal.at.count_sets-size-requires c).Else-not-is_sound))).trains.1

pub returns-then-not-are_enough : goal.returns-then-not-are_enough
returns-then-not-are_enough c =
    let sized = c in
    let a = sized.args in
    let short = subst (λ k. (leb k (length a.cost.now) && leb (a.day.slots * k) (length a.choice.now) && leb a.day.trains (length a.row.now)) ≡ false) sized.count_sets-size.ensures.0 (sym c.are_enough.ensures ∙ c.if-not-are_enough.true) in
    let h = left_short day_limits (yard a.day) a.cost.now a.choice.now a.row.now (good (goal.at.returns-then-not-are_enough sized).Else-not-is_sound) short in
    record { result_value = h.says; row_after = h.row_is; stays = h.costs; stays_2 = h.choices }

pub returns : goal.returns
returns c =
    let planned = c in
    let e = planned in
    let a = e.args in
    let size = e.count_sets-size.ensures.0 in
    let long = subst (λ k. (leb k (length a.cost.now) && leb (a.day.slots * k) (length a.choice.now) && leb a.day.trains (length a.row.now)) ≡ true) size (enough (goal.at.returns e).Else-not-are_enough) in
    let h = left_best day_limits (yard a.day) a.cost.now a.choice.now a.row.now size (good (goal.at.returns e).Else-not-is_sound) long planned.plan_sound.ensures in
    record { result_value = h.says; row_after = h.row_is; stays = h.costs; stays_2 = h.choices }
