-- Two keys in one number, the first above the second: a row's worth is its two worths packed the same way. Where the second stays below M
-- the number orders rows by the first key, then by the second, so that the table needs no change. Nest it for more keys.
-- Assumes nothing.
use Rattle.std.specs.Prelude.{◌≡◌, List, ℕ, suc, ◌+◌, ◌*◌}
use Rattle.std.proofs.Common.{ap, ◌∙◌, mul_comm}
use Rattle.fold.specs.Fold.{sum}
use Rattle.fold.specs.Sums.{sum_ext, sum-add, sum_times}
use Rattle.optimum.specs.Schedules.{Contribution}
use Rattle.optimum.specs.Rows.{stage_set, remaining, worth}

abbrev pub pack : ℕ → Contribution → Contribution → Contribution
pack M f g t r s = f t r s * M + g t r s
