use borrow.Author.Rules.{rules}
use Rattle.std.proofs.Common.{◌≡◌, ◌+◌, ap, ◌∙◌, subst, add-one, refl, Bool, true, false}
use mir.Val.{bool_byte}
use Rattle.fold.specs.Fold.{bit}
use Rattle.staging.specs.Tables.{open_in}
use Rattle.beam_search.specs.Start.{Starts, start_low, start_holds}
use Rattle.beam_search.specs.Slots.{trains_of, day_in, after_none, after_next, after_all}
use Rattle.beam_search.proofs.search.Goals as goal

-- a flag as a number
bit_is : (b : Bool) → bool_byte b ≡ bit b
bit_is true = refl
bit_is false = refl

pub loop-j-init : goal.loop-j-init
loop-j-init c =
    let starts = subst (λ v. Starts v c.start-kept.result) c.requires.0.trains.all_is c.start-kept.ensures in (
      search rules,
      record { few = search rules; low = start_low c.args.day.now.boxes.trains _ starts },
      search rules,
      λ labels right windows. after_none _ _ _ (start_holds (day_in c.args.day.now labels _ _) windows right.spacious _ c.requires.0.some_width _ starts),
    )

pub loop-j-preserved : goal.loop-j-preserved
loop-j-preserved c =
    let l = c.loop-j in
    let e = c.serve_slot.ensures in (
      search rules,
      e.0,
      search (rules, bit_is),
      λ labels right windows.
          let before = l.invariant.3 labels right windows in
          after_next _ _ l.j before (ap (λ x. l.full_slots + x) (c.from-full_slots.ensures ∙ bit_is _))
          (e.1 (trains_of labels c.args.first.now c.args.last.now) right
          (c.open_in-ready.ensures ∙ ap (open_in c.args.day.now.boxes.trains c.args.first.now c.args.last.now) (add-one l.j)) before.plans),
    )

pub returns : goal.returns
returns c =
    let l = c.loop-j in
    λ labels right windows.
    after_all (day_in c.args.day.now labels _ _) windows right.spacious _ c.requires.0.some_width l.j l.kept l.full_slots l.invariant.0 c.loop-j-test.false
    (l.invariant.3 labels right windows)
