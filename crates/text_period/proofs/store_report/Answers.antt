-- `text_period::store_report` meets its contract. The counters, and the figures behind them.
use native.Mathlib.Omega.{arith}
use Rattle.decimal.specs.PlaceLaws.{put_text}
use Rattle.text_period.specs.Laws.{numbers_length, put_count}
use Rattle.text_period.proofs.store_report.Goals as goal

pub returns : goal.returns
returns c =
    put_count (put_text c.put_numbers-next.ensures c.put_numbers.ensures) (omega (arith, numbers_length c.args.report c.requires.0))
