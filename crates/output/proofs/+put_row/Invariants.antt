-- The values that are left.
use Rattle.std.proofs.Common.{length}
use Rattle.output.proofs.+put_row.Given as goal

abbrev pub decreases-put_row : goal.decreases-put_row
decreases-put_row l = length l.values.now
