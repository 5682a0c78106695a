-- `output::put_field` meets its contract. The value's digits, and one store more.
use Rattle.decimal.specs.PlaceLaws.{put_byte}
use Rattle.output.proofs.put_field.Goals as goal

pub returns : goal.returns
returns c = put_byte _ c.put_value-p.ensures
