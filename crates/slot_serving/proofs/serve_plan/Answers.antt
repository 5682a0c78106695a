use Rattle.sets.specs.Subset.{sub_trans, walk-sub}
use Rattle.candidates.specs.Given.{yard_in}
use Rattle.slot_serving.specs.Walks.{in_windows, sets_begin, sets_go_on, of_rest}
use Rattle.slot_serving.proofs.serve_plan.Goals as goal

pub loop-s-init : goal.loop-s-init
loop-s-init c =
    let e = c.trimmed-s.ensures in (
      e.0.within,
      e.1,
      c.requires.3,
      λ d k right plan now g. sets_begin (yard_in c.args.day.now d) _ _ k _ plan _ now c.trimmed-s.result e.0 g,
    )

pub serve_set-requires : goal.serve_set-requires
serve_set-requires c =
    let l = c.loop-s in
    (c.requires.0, c.requires.1, c.requires.2, of_rest l.s _ _ l.invariant.0, l.invariant.1, l.invariant.2)

pub loop-s-preserved : goal.loop-s-preserved
loop-s-preserved c =
    let l = c.loop-s in
    let served = c.serve_set.ensures in
    let e = c.trimmed-s-in-loop-s.ensures in (
      sub_trans _ _ _ e.0.within (walk-sub l.s _),
      e.1,
      served.0,
      λ d k right plan now g.
          sets_go_on (yard_in c.args.day.now d) _ _ k _ plan _ now l.s c.trimmed-s-in-loop-s.result l.invariant.0 e.0
          (served.1 d k right plan (in_windows (yard_in c.args.day.now d) _ _ k _ plan _ now l.s l.invariant.0) (l.invariant.3 d k right plan now g)),
    )
