use Rattle.std.proofs.Common.{refl, arith, ◌+◌}
use Rattle.feasibility.proofs.Bound.{over_exceeds, exceeds_over}
use Rattle.feasibility.specs.Search.{windows_only, NoneBefore}
use Rattle.feasibility.proofs.Search.{none_before_start, none_from_start, none_from_next, none_before-next, finds_none, finds_first}
use Rattle.feasibility.proofs.first_overbooked.Goals as goal
use Rattle.feasibility.proofs.first_overbooked.Goals.{else-loop-b-test, then-loop-b-test+else-places-trains+else-b-slots}

pub search-init : goal.search-init
search-init c = (refl, omega arith, none_before_start _)

pub loop-b-init : goal.loop-b-init
loop-b-init c = (c.search.invariant.0, omega arith, none_from_start _ c.search.a)

-- where a..b has no more trains bound inside than places, none that begins at a and ends up to b is overbooked
pub loop-b-preserved : goal.loop-b-preserved
loop-b-preserved c =
    let g = c.args in
    let day = windows_only g.n g.tracks g.slots g.first.now g.last.now in (
      c.loop-b.invariant.0,
      omega arith,
      none_from_next day c.search.a c.loop-b.b c.loop-b.invariant.2 (λ t. omega (arith, over_exceeds day c.search.a c.loop-b.b t)),
    )

-- where the inner loop is left, none that begins up to a is overbooked
pub search-preserved : goal.search-preserved
search-preserved c =
    let g = c.args in
    let day = windows_only g.n g.tracks g.slots g.first.now g.last.now in
    let passed : NoneBefore day (c.search.a + 1) =
    elim c.loop-b-test.branch [
      | else-loop-b-test w ↦ none_before-next day c.search.a c.loop-b.b (omega arith) c.search.invariant.2 c.loop-b.invariant.2
      | then-loop-b-test+else-places-trains+else-b-slots w ↦
          none_before-next day c.search.a (c.loop-b.b + 1) (omega arith) c.search.invariant.2
          (none_from_next day c.search.a c.loop-b.b c.loop-b.invariant.2 (λ t. omega (arith, over_exceeds day c.search.a c.loop-b.b t)))
    ] in
    (c.loop-b.invariant.0, omega arith, passed)

pub returns : goal.returns
returns c = rw c.search.invariant.0 (finds_none _ c.search.a (omega arith) c.search.invariant.2)

pub returns-then-places-trains : goal.returns-then-places-trains
returns-then-places-trains c =
    let g = c.args in
    let day = windows_only g.n g.tracks g.slots g.first.now g.last.now in
    let over = exceeds_over day c.search.a c.loop-b.b c.search.invariant.1 c.loop-b.invariant.1 (omega arith) (omega arith) in
    (finds_first day c.search.a c.loop-b.b c.search.invariant.2 c.loop-b.invariant.2 over, c.bound_inside-trains.ensures)

pub returns-2 : goal.returns-2
returns-2 c =
    let g = c.args in
    let day = windows_only g.n g.tracks g.slots g.first.now g.last.now in
    let passed : NoneBefore day (c.search.a + 1) =
    elim c.loop-b-test.branch [
      | else-loop-b-test w ↦ none_before-next day c.search.a c.loop-b.b (omega arith) c.search.invariant.2 c.loop-b.invariant.2
      | then-loop-b-test+else-places-trains+else-b-slots w ↦
          none_before-next day c.search.a (c.loop-b.b + 1) (omega arith) c.search.invariant.2
          (none_from_next day c.search.a c.loop-b.b c.loop-b.invariant.2 (λ t. omega (arith, over_exceeds day c.search.a c.loop-b.b t)))
    ] in
    rw c.loop-b.invariant.0 (finds_none day (c.search.a + 1) (omega arith) passed)
