-- `report_text::put_figure` meets its contract. The names line, and the row after it.
-- where the function began, from the names line's call; the place after that call, from the row's
use Rattle.decimal.specs.PlaceLaws.{put_text}
use Rattle.report_text.proofs.put_figure.Goals as goal

pub returns : goal.returns
returns c =
    put_text c.put_bytes-next.ensures c.put_row.ensures
