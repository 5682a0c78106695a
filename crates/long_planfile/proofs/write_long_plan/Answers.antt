-- The buffer holds the plan file of every row that fits; on a long day these are the allowed ones.
use Rattle.std.proofs.Common.{◌≡◌, ℕ, List, ◌≤◌, T, length, arith, subst}
use Rattle.model.specs.Model.{Yard, allowed}
use Rattle.day.specs.Sound.{sound}
use Rattle.day.specs.declared.Limits.{Limits}
use Rattle.planfile.specs.PlanText.{plan_text}
use Rattle.long_day.specs.LongDay.{long_limits}
use Rattle.long_day.specs.LongLaws.{long_allowed}
use Rattle.long_planfile.specs.Size.{long_plan_size}
use Rattle.long_planfile.proofs.write_long_plan.Goals as goal

room : (l : Limits) (y : Yard) (row : List ℕ) → l ≡ long_limits → T (sound l y) → T (allowed y row) → length (plan_text y row) ≤ 367
room l y row e t a =
    let s : T (sound long_limits y) = subst (λ l. T (sound l y)) e t in
    long_plan_size y row s (subst T (long_allowed y s row) a)

pub write_plan_file-requires-clause-room : goal.write_plan_file-requires-clause-room
write_plan_file-requires-clause-room c = room _ _ _ c.parts.ensures.limits
