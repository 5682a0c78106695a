-- The buffer holds the text of every sound long day.
use Rattle.std.proofs.Common.{rules}
use Rattle.long_file.proofs.LongFile.{long_size}
use Rattle.long_write.proofs.write_long_day.Goals as goal

pub write_file-requires : goal.write_file-requires
write_file-requires c =
    let p = c.parts.ensures in
    record { shape = p.shape; room = rw (p.day, p.limits) (λ t. long_size _ t) }
