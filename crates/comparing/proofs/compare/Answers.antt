-- `comparing::compare` meets its contract: 14 where a train is left over, 14 with 0 where a group is parted, else the row's numbers, of which
-- the cost fits.
use mathlib.Core.Path.{◌≡◌, sym, ◌∙◌, subst}
use mathlib.Core.Bool.{true, false}
use Prim.Native.Nat.{ℕ, ◌≤◌, ◌<◌}
use native.Mathlib.Omega.{arith}
use mir.Facts.{to_z-of_z}
use mir.Syntax.{w64}
use mir.Val.{SFits}
use Rattle.model.specs.Model.{kept}
use Rattle.model.specs.Groups.{GroupsUpTo}
use Rattle.model.proofs.Groups.{parted-parts, unparted_keeps}
use Rattle.day.specs.Sound.{day_limits, yard}
use Rattle.day.specs.SoundLaws.{Sound, sound_is}
use Rattle.day.specs.declared.Limits.{Limits}
use Rattle.comparing.specs.Laws.{says_left, says_parted, says_complete, cost_fits}
use borrow.Author.Rules.{rules}
use Rattle.comparing.proofs.compare.Goals as goal
use lib.Dec.{T}
use mathlib.Core.List.{List}
use Rattle.day.specs.Sound.{sound}
use Rattle.day.specs.declared.Day.{Day}
use Rattle.wagon_sets.specs.Laws
use Rattle.fold.specs.Fold.{lowest}

-- what holds of a sound day: the row keeps the groups where none is found parted, and does not where one is
least : (d : Day) → T (sound day_limits (yard d)) → Sound day_limits (yard d)
least d t = sound_is day_limits (yard d) t

keeps : (d : Day) (row : List ℕ) (l : Limits) (g : ℕ) → T (sound day_limits (yard d)) → l ≡ day_limits → g ≡ lowest l.groups (Laws.parts d.trains d.groups row) → l.groups ≤ g → kept d.trains d.groups row ≡ true
keeps d row l g t e f h =
    let low : GroupsUpTo l.groups d.trains d.groups = subst (λ (l : Limits). GroupsUpTo l.groups d.trains d.groups) (sym e) (least d t).groups in
    unparted_keeps d.trains d.groups row l.groups low (subst (λ k. l.groups ≤ k) f h)

parts : (d : Day) (row : List ℕ) (l : Limits) (g : ℕ) → g ≡ lowest l.groups (Laws.parts d.trains d.groups row) → g < l.groups → kept d.trains d.groups row ≡ false
parts d row l g f h = parted-parts d.trains d.groups row l.groups (subst (λ k. k < l.groups) f h)

pub returns-then-left-n : goal.returns-then-left-n
returns-then-left-n c = says_left (yard c.args.day) c.args.row.now c.args.best c.left_over-left.ensures.0 c.if-left-n.true c.refused.ensures

pub first_parted-requires : goal.first_parted-requires
first_parted-requires c =
    let s = least c.args.day c.requires.0 in
    (omega (arith, s.shape.groups, s.trains.1), c.requires.1)

pub returns-then-first_parted-most : goal.returns-then-first_parted-most
returns-then-first_parted-most c =
    says_parted (yard c.args.day) c.args.row.now c.args.best c.left_over-left.ensures.0 (omega (arith, c.left_over-left.ensures.1, c.if-left-n.false))
    (parts c.args.day c.args.row.now c.day_limits-most.result _ c.first_parted.ensures c.if-first_parted-most.true) c.refused-then-first_parted-most.ensures

pub value_slots-value-requires : goal.value_slots-value-requires
value_slots-value-requires c =
    let s = least c.args.day c.requires.0 in
    let few = s.trains.1 in
    record { few = omega (arith, few); narrow = few; whole = omega (arith, s.shape.boxes); long = c.requires.1 }

pub saving_of-requires : goal.saving_of-requires
saving_of-requires c =
    let row = cost_fits (yard c.args.day) c.args.row.now c.requires.0 c.value_slots-value.ensures in
    (omega arith, omega arith)

pub returns : goal.returns
returns c =
    let fits : SFits w64 c.saving_of.result = search rules in
    says_complete (yard c.args.day) c.args.row.now c.args.best c.left_over-left.ensures.0 (omega (arith, c.left_over-left.ensures.1, c.if-left-n.false))
    (keeps c.args.day c.args.row.now c.day_limits-most.result _ c.requires.0 c.day_limits-most.ensures c.first_parted.ensures c.if-first_parted-most.false)
    c.value_slots-value.ensures (to_z-of_z fits ∙ c.saving_of.ensures)
