use Rattle.std.proofs.Common.{arith}
use Rattle.output.proofs.Stored.{put_copy}
use Rattle.text_period.proofs.put_numbers.Goals as goal

pub returns : goal.returns
returns c = put_copy _ _ _ _ _ c.requires c.copy_from_slice.ensures.after (omega arith)
