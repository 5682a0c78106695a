-- The buffer holds the plan file of every allowed row.
use Rattle.std.proofs.Common.{◌≡◌, ℕ, List, ◌≤◌, T, length, arith, subst}
use Rattle.model.specs.Model.{Yard, allowed}
use Rattle.day.specs.Sound.{day_limits, sound}
use Rattle.day.specs.SoundLaws.{sound_is}
use Rattle.day.specs.declared.Limits.{Limits}
use Rattle.planfile.specs.PlanText.{plan_text}
use Rattle.planfile.specs.Size.{plan_size, plan_most}
use Rattle.planfile.proofs.write_plan.Goals as goal

room : (l : Limits) (y : Yard) (row : List ℕ) → l ≡ day_limits → T (sound l y) → T (allowed y row) → length (plan_text y row) ≤ 161
room l y row e t a = omega (arith, plan_size day_limits y row (sound_is day_limits y (subst (λ l. T (sound l y)) e t)) a, plan_most)

pub write_plan_file-requires-clause-room : goal.write_plan_file-requires-clause-room
write_plan_file-requires-clause-room c = room _ _ _ c.parts.ensures.limits
