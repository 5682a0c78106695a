-- The buffer holds the text of every sound day.
use Rattle.std.proofs.Common.{rules, arith}
use Rattle.day.specs.Sound.{day_limits}
use Rattle.dayfile.specs.Size.{day_size, day_most}
use Rattle.daywrite.proofs.write_day.Goals as goal

pub write_file-requires : goal.write_file-requires
write_file-requires c =
    let p = c.parts.ensures in
    record { shape = p.shape; room = rw (p.day, p.limits) (λ t. omega (arith, day_size day_limits _ t, day_most)) }
