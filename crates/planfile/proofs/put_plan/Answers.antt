-- The two sections, one after the other.
use native.Mathlib.Omega.{arith}
use Rattle.decimal.specs.PlaceLaws.{put_text}
use Rattle.counting.specs.Counting.{outcome_of}
use Rattle.planfile.specs.Laws.{plan_lines_lem, plan_length}
use Rattle.planfile.proofs.put_plan.Goals as goal

pub put_values-next-requires : goal.put_values-next-requires
put_values-next-requires c =
    let a = c.args in
    omega (arith, plan_length a.n a.numbers.now (outcome_of a.value) a.row.now, c.requires.row_in_bounds)

pub put_slots-requires : goal.put_slots-requires
put_slots-requires c =
    let a = c.args in
    record {
      n_in_bounds = c.requires.n_in_bounds;
      n_in_bounds_2 = omega (arith, plan_length a.n a.numbers.now (outcome_of a.value) a.row.now, c.requires.row_in_bounds, c.put_values-next.ensures.next);
    }

pub returns : goal.returns
returns c =
    let a = c.args in
    rw (plan_lines_lem a.n a.numbers.now (outcome_of a.value) a.row.now) (put_text c.put_values-next.ensures c.put_slots.ensures)
